-- `utf8::singles` meets its contract. The loop's invariant: the flag tells whether the octets passed do.
use mathlib.Core.Path.{refl}
use Prim.Native.Nat.{◌+◌}
use native.Mathlib.Omega.{arith}
use Rattle.utf8.specs.Places.{single_at}
use Rattle.utf8.proofs.Passing.{all_none, all_turn}
use Rattle.utf8.proofs.singles.Goals as goal

pub loop-i-init : goal.loop-i-init
loop-i-init c =
    let a = c.args in
    all_none (single_at a.x.now) a.at 0 (omega arith)

pub loop-i-preserved : goal.loop-i-preserved
unfolding single_at
loop-i-preserved c =
    let a = c.args in
    let l = c.loop-i in
    all_turn (single_at a.x.now) a.at l.i (l.i + 1) (a.at + l.i) l.so_far _ (omega arith) (omega arith) l.invariant refl
