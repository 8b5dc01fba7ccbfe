-- `laying::block` meets its contract.
use Prim.Native.Nat.{◌+◌, ◌≤◌}
use Rattle.laying.proofs.Pieces.{one_laid, lays_not}
use borrow.Author.Tests.{leb-true, leb-false}
use lib.ListN.{length}
use mathlib.Core.Path.{sym, ◌∙◌}
use native.Mathlib.Omega.{arith}
use Rattle.laying.proofs.block.Goals as goal

pub overflow_add-result : goal.overflow_add-result
overflow_add-result c =
    let h : c.args.at + length c.args.x.now ≤ length c.args.out.now = leb-true _ _ (sym
    c.has_room.ensures ∙ c.if-has_room.true) in
    omega (arith, h)

pub returns-then-has_room : goal.returns-then-has_room
returns-then-has_room c =
    rw c.copy.ensures (one_laid _ _ _ (leb-true _ _ (sym c.has_room.ensures ∙ c.if-has_room.true)))

pub returns : goal.returns
returns c =
    lays_not c.args.x.now _ _ (leb-false _ _ (sym c.has_room.ensures ∙ c.if-has_room.false))
