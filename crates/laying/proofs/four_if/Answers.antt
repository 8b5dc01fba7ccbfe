-- `laying::four_if` meets its contract.
use Prim.Native.Nat.{◌+◌, ◌≤◌}
use Rattle.laying.proofs.Pieces.{four_laid, lays_not}
use Rattle.octets.proofs.Laying.{lays_none}
use Rattle.octets.specs.Octets.{wide}
use borrow.Author.Tests.{leb-true, leb-false}
use lib.ListN.{length}
use mathlib.Core.Path.{sym, ◌∙◌}
use native.Mathlib.Omega.{arith}
use Rattle.laying.proofs.four_if.Goals as goal

pub four-requires : goal.four-requires
four-requires c =
    leb-true _ _ (sym c.has_room.ensures ∙ c.if-has_room.true)

pub overflow_add-result : goal.overflow_add-result
overflow_add-result c =
    let h : c.args.at + 4 ≤ length c.args.out.now = leb-true _ _ (sym
    c.has_room.ensures ∙ c.if-has_room.true) in
    omega (arith, h)

pub returns-then-has_room : goal.returns-then-has_room
returns-then-has_room c =
    rw (c.if-there.true, c.four.ensures) (four_laid _ _ _ (leb-true _ _ (sym c.has_room.ensures ∙ c.if-has_room.true)))

pub returns-else-has_room : goal.returns-else-has_room
unfolding wide
returns-else-has_room c =
    rw c.if-there.true (lays_not (wide 4 c.args.v) _ _ (leb-false _ _ (sym c.has_room.ensures ∙ c.if-has_room.false)))

pub returns-else-there : goal.returns-else-there
returns-else-there c =
    rw c.if-there.false (lays_none _ _)
