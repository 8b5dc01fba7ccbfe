-- `walk::read_uinteger` meets its contract: the profile chooses as in the definition.
use borrow.Author.Tests.{eq-eqb, ne_eqb}
use Rattle.walk.specs.Walk.{uinteger}
use Rattle.walk.proofs.read_uinteger.Goals as goal

pub returns-then-s-eq-PROFILE_FIXED : goal.returns-then-s-eq-PROFILE_FIXED
unfolding uinteger
returns-then-s-eq-PROFILE_FIXED c =
    simp (eq-eqb _ _ c.if-s-eq-PROFILE_FIXED.true) c.read_four.ensures

pub returns : goal.returns
unfolding uinteger
returns c =
    simp (ne_eqb _ _ c.if-s-eq-PROFILE_FIXED.false) c.read_varint.ensures
