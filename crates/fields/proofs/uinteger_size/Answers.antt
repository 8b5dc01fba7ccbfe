-- `fields::uinteger_size` meets its contract: the profile chooses as in the definition.
use borrow.Author.Tests.{eq-eqb, ne_eqb}
use Rattle.octets.proofs.Numbers.{wide_length}
use Rattle.fields.specs.Form.{uinteger_octets}
use Rattle.fields.proofs.uinteger_size.Goals as goal

pub returns-then-s-eq-PROFILE_FIXED : goal.returns-then-s-eq-PROFILE_FIXED
unfolding uinteger_octets
returns-then-s-eq-PROFILE_FIXED c =
    simp (eq-eqb _ _ c.if-s-eq-PROFILE_FIXED.true, wide_length)

pub returns : goal.returns
unfolding uinteger_octets
returns c =
    simp (ne_eqb _ _ c.if-s-eq-PROFILE_FIXED.false) c.size.ensures
