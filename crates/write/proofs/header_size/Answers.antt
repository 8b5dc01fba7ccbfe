-- `write::header_size` meets its contract: the sizes add up to the header's length.
use Rattle.write.proofs.Sizes.{header_size_lem}
use Rattle.write.proofs.header_size.Goals as goal

pub returns : goal.returns
returns c =
    let g = c.args in header_size_lem g.s g.v _ c.front_size-a.ensures c.middle_size-b.ensures
    c.end_size-c.ensures c.plus.ensures c.plus-2.ensures
