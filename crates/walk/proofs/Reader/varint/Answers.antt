-- `walk::Reader::varint` meets its contract: each case of the Varint's reading is the definition's, and a value of 32 bits fits.
use borrow.Author.Tests.{le-leb, lt-leb}
use mathlib.Core.Path.{refl, ap, ◌∙◌}
use Prim.Native.Nat.{ℕ}
use Rattle.std.specs.Prelude.{Err}
use native.Mathlib.Omega.{arith}
use mathlib.Core.Bool.{Bool}
use Rattle.octets.specs.Octets.{pick}
use Rattle.walk.specs.Walk.{varint_step, Step, past, refused}
use Rattle.walk.proofs.Keeps.{stopped_as, past_stops}
use Rattle.walk.proofs.Steps.{varint_told}
use Rattle.walk.proofs.Reader.varint.Goals as goal

pub returns-then-end-self : goal.returns-then-end-self
unfolding varint_step
returns-then-end-self c =
    let t = varint_told c.args.self.now.bound _ _ c.min-end.ensures c.varint_at.ensures (c.in-Err-Ends.is ∙ ap Err c.in-Err-Ends.field-0-is) in
    stopped_as _ (ap (λ (x : Step ℕ). x.walk) t ∙ ap (λ (k : Bool). refused c.args.self.now.at (pick k (past c.args.self.now.bound) 6)) (lt-leb _ _ (omega arith))) refl refl

pub returns-in-Ok : goal.returns-in-Ok
unfolding varint_step
returns-in-Ok c =
    let t = varint_told c.args.self.now.bound _ _ c.min-end.ensures c.varint_at.ensures c.in-Ok.is in
    record { walk = ap (λ (x : Step ℕ). x.walk) t; value = ap (λ (x : Step ℕ). x.value) t; octets = refl; settings = refl; bound = refl }

pub returns-else-end-self : goal.returns-else-end-self
unfolding varint_step
returns-else-end-self c =
    let t = varint_told c.args.self.now.bound _ _ c.min-end.ensures c.varint_at.ensures (c.in-Err-Ends.is ∙ ap Err c.in-Err-Ends.field-0-is) in
    stopped_as _ (ap (λ (x : Step ℕ). x.walk) t ∙ ap (λ (k : Bool). refused c.args.self.now.at (pick k (past c.args.self.now.bound) 6)) (le-leb _ _ (omega arith)))
    c.passed.ensures (past_stops c.args.self.now.bound)

pub returns-in-Err-Bad : goal.returns-in-Err-Bad
unfolding varint_step
returns-in-Err-Bad c =
    let t = varint_told c.args.self.now.bound _ _ c.min-end.ensures c.varint_at.ensures (c.in-Err-Bad.is ∙ ap Err c.in-Err-Bad.field-0-is) in
    stopped_as _ (ap (λ (x : Step ℕ). x.walk) t) refl refl
