-- `filling::number_long` meets its contract.
use Rattle.filling.proofs.Fields.{number_read}
use Rattle.filling.proofs.number_long.Goals as goal

pub returns : goal.returns
returns c = number_read c.args.s _ c.requires c.header_bound.ensures c.in-Ok.ensures c.if-lim-reader.false
