-- `walk::Reader::uinteger` meets its contract: the profile chooses as in the definition.
use Rattle.walk.proofs.Keeps.{reads_as, uinteger_wide, uinteger_varint}
use Rattle.walk.proofs.Reader.uinteger.Goals as goal

pub returns-then-self-eq-PROFILE_FIXED : goal.returns-then-self-eq-PROFILE_FIXED
returns-then-self-eq-PROFILE_FIXED c =
    reads_as c.args.self.now _ _ (uinteger_wide _ _ _ c.if-self-eq-PROFILE_FIXED.true) c.be32.ensures

pub returns : goal.returns
returns c = reads_as c.args.self.now _ _ (uinteger_varint _ _ _ c.if-self-eq-PROFILE_FIXED.false) c.varint.ensures
