-- `filling::part_at` meets its contract.
use Rattle.filling.proofs.Fields.{moved, into_by}
use Rattle.filling.proofs.Singles.{quick_part}
use borrow.Author.Tests.{ne_eqb}
use native.Mathlib.Omega.{arith}
use Rattle.filling.proofs.part_at.Goals as goal

pub returns : goal.returns
returns c =
    let end = c.in-Some.end in let q = c.in-Some.ensures in
    let w = moved end c.requires.within (omega (arith, q.top, c.requires.single.top)) in
    into_by w (quick_part c.args.s c.args.p.now c.requires.within c.requires.single q (ne_eqb _ _ c.if-s-eq-PROFILE_FIXED.false))
    c.place_into.ensures
