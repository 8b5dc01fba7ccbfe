-- `fields::put_text` meets its contract: a text is written as a blob.
use Rattle.fields.specs.Inner.{text_pieces}
use Rattle.fields.proofs.put_text.Goals as goal

pub returns : goal.returns
unfolding text_pieces
returns c =
    c.put_blob.ensures
