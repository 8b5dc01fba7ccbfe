-- `fields::put_varint` meets its contract: the Varint is written whole or not at all.
use Rattle.fields.proofs.Written.{number_laid}
use Rattle.fields.proofs.put_varint.Goals as goal

pub returns : goal.returns
returns c =
    rw (c.unwrap_or.ensures) (number_laid _ _ _ _ c.put.ensures.answer c.put.ensures.octets)
