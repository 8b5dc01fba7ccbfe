-- `filling::number_at` meets its contract.
use Prim.Native.Nat.{◌+◌}
use Rattle.filling.proofs.Fields.{moved, number_one, number_four}
use borrow.Author.Tests.{eq-eqb, ne_eqb}
use native.Mathlib.Omega.{arith}
use Rattle.filling.proofs.number_at.Goals as goal

pub returns-then-s-eq-PROFILE_FIXED : goal.returns-then-s-eq-PROFILE_FIXED
returns-then-s-eq-PROFILE_FIXED c =
    let p = c.args.p.now in record {
      within = moved (c.args.at + 4) c.requires c.if-lim-at.false;
      same = number_four c.args.s p c.requires (eq-eqb _ _ c.if-s-eq-PROFILE_FIXED.true) c.if-lim-at.false c.double.ensures.value;
    }

pub returns : goal.returns
returns c =
    let p = c.args.p.now in let b = c.if-lim-at-2.false in record {
      within = moved (c.args.at + 1) c.requires (omega (arith, b));
      same =
          number_one c.args.s p c.requires (ne_eqb _ _ c.if-s-eq-PROFILE_FIXED.false) b c.octet-one.ensures.value
          (omega (arith, c.if-one-gt127.false));
    }
