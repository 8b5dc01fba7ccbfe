-- `walk::Reader::skip` meets its contract, case by case.
use mathlib.Core.Path.{refl}
use Rattle.walk.proofs.Keeps.{stopped_as, past_stops}
use Prim.Native.Nat.{◌+◌, ◌<◌}
use native.Mathlib.Omega.{arith}
use Rattle.walk.proofs.Steps.{octets_past, octets_ends, octets_goes}
use Rattle.walk.specs.Walk.{goes}
use Rattle.walk.proofs.Reader.skip.Goals.{then-self-at-via-then-self-at, then-self-at-via-else-self-at+then-self-at-2}
use Rattle.walk.proofs.Reader.skip.Goals as goal

pub returns-then-self-at : goal.returns-then-self-at
returns-then-self-at c =
    let l : c.args.self.now.bound.end < c.args.self.now.at + c.args.n =
    elim c.then-self-at.branch [ then-self-at-via-then-self-at w ↦ omega arith | then-self-at-via-else-self-at+then-self-at-2 w ↦ omega arith ] in
    let e = octets_past c.args.self.now.bound c.args.self.now.octets.now _ (goes c.args.self.now.at) refl l in
    stopped_as _ e c.passed.ensures (past_stops c.args.self.now.bound)

pub returns-then-self-at-3 : goal.returns-then-self-at-3
returns-then-self-at-3 c =
    let e = octets_ends c.args.self.now.bound c.args.self.now.octets.now c.args.n (goes c.args.self.now.at) refl (omega arith) (omega arith) in
    stopped_as _ e refl refl

pub returns : goal.returns
returns c = record { walk = octets_goes _ _ _ _ refl (omega arith) (omega arith); value = refl; octets = refl; settings = refl; bound = refl }
