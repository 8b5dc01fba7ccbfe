-- `laying::blob_if` meets its contract.
use Prim.Native.Nat.{◌+◌, ◌≤◌}
use Rattle.laying.proofs.Pieces.{blob_laid}
use Rattle.octets.proofs.Laying.{lays_none}
use borrow.Author.Tests.{leb-true}
use lib.ListN.{length, length-set}
use mathlib.Core.Path.{sym, ◌∙◌}
use native.Mathlib.Omega.{arith}
use Rattle.laying.proofs.blob_if.Goals as goal

pub bounds-out-at : goal.bounds-out-at
bounds-out-at c =
    let h : c.args.at + (length c.args.x.now + 1) ≤ length c.args.out.now = leb-true _ _ (sym c.has_room.ensures ∙ c.if-has_room.true) in
    omega (arith, h)

pub overflow_add-at : goal.overflow_add-at
overflow_add-at c =
    let h : c.args.at + (length c.args.x.now + 1) ≤ length c.args.out.now = leb-true _ _ (sym
    c.has_room.ensures ∙ c.if-has_room.true) in
    omega (arith, h)

pub overflow_add-result : goal.overflow_add-result
overflow_add-result c =
    let h : c.args.at + (length c.args.x.now + 1) ≤ length c.args.out.now = leb-true _ _ (sym c.has_room.ensures ∙ c.if-has_room.true) in
    omega (arith, h)

pub overflow_add-result-then-has_room : goal.overflow_add-result-then-has_room
overflow_add-result-then-has_room c =
    let h : c.args.at + (length c.args.x.now + 1) ≤ length c.args.out.now = leb-true _ _ (sym c.has_room.ensures ∙ c.if-has_room.true) in
    omega (arith, h)

pub shape_of-out-then-has_room : goal.shape_of-out-then-has_room
shape_of-out-then-has_room c =
    simp length-set at c.copy.auto.out

pub returns-then-has_room : goal.returns-then-has_room
returns-then-has_room c =
    rw (c.if-there.true, c.copy.ensures) (blob_laid c.args.s _ _ _ c.requires.profile_value
    c.requires.x_len_bound (leb-true _ _ (sym c.has_room.ensures ∙ c.if-has_room.true)))

pub returns-then-there : goal.returns-then-there
returns-then-there c =
    rw c.if-there.true c.put_blob.ensures

pub returns : goal.returns
returns c =
    rw c.if-there.false (lays_none _ _)
