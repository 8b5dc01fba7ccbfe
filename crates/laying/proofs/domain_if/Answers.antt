-- `laying::domain_if` meets its contract.
use Prim.Native.Nat.{◌+◌, ◌*◌, ◌≤◌}
use Rattle.laying.proofs.Pieces.{domain_laid}
use Rattle.octets.proofs.Laying.{lays_none}
use borrow.Author.Tests.{leb-true}
use lib.ListN.{length, length-set}
use mathlib.Core.Path.{sym, ◌∙◌}
use native.Mathlib.Omega.{arith}
use Rattle.laying.proofs.domain_if.Goals as goal

pub bounds-out-at : goal.bounds-out-at
bounds-out-at c =
    let h : c.args.at + (1 + (2 * length c.args.lengths.now + length c.args.x.now)) ≤ length c.args.out.now = leb-true _ _ (sym
    c.has_room.ensures ∙ c.if-has_room.true) in
    omega (arith, h)

pub overflow_add-at : goal.overflow_add-at
overflow_add-at c =
    let h : c.args.at + (1 + (2 * length c.args.lengths.now + length c.args.x.now)) ≤ length c.args.out.now = leb-true _ _ (sym c.has_room.ensures ∙ c.if-has_room.true) in
    omega (arith, h)

pub put_parts-requires : goal.put_parts-requires
put_parts-requires c =
    let h : c.args.at + (1 + (2 * length c.args.lengths.now + length c.args.x.now)) ≤ length c.args.out.now = leb-true _ _
    (sym c.has_room.ensures ∙ c.if-has_room.true) in
    record { profile_value = c.requires.profile_value; x_len_bound = c.requires.x_len_bound; x_in_bounds = simp length-set (omega (arith, h)) }

pub shape_of-out-then-has_room : goal.shape_of-out-then-has_room
shape_of-out-then-has_room c =
    simp length-set at c.put_parts.auto.out

pub returns-then-has_room : goal.returns-then-has_room
returns-then-has_room c =
    let h : c.args.at + (1 + (2 * length c.args.lengths.now + length c.args.x.now)) ≤ length c.args.out.now = leb-true _ _ (sym
    c.has_room.ensures ∙ c.if-has_room.true) in
    rw c.if-there.true (domain_laid c.args.s _ _ _ _ c.requires.profile_value c.requires.lengths_len_bound (omega (arith, h)) c.put_parts.ensures)

pub returns-then-there : goal.returns-then-there
returns-then-there c =
    rw c.if-there.true c.put_domain.ensures

pub returns : goal.returns
returns c =
    rw c.if-there.false (lays_none _ _)
