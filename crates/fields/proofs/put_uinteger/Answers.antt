-- `fields::put_uinteger` meets its contract: the profile chooses as in the definition, and either writing is whole or not at all.
use borrow.Author.Tests.{eq-eqb, ne_eqb}
use Rattle.fields.specs.Form.{uinteger_octets}
use Rattle.fields.proofs.put_uinteger.Goals as goal

pub returns-then-s-eq-PROFILE_FIXED : goal.returns-then-s-eq-PROFILE_FIXED
unfolding uinteger_octets
returns-then-s-eq-PROFILE_FIXED c =
    simp (eq-eqb _ _ c.if-s-eq-PROFILE_FIXED.true) c.lay_number.ensures

pub returns : goal.returns
unfolding uinteger_octets
returns c =
    simp (ne_eqb _ _ c.if-s-eq-PROFILE_FIXED.false) c.put_varint.ensures
