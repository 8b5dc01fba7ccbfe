-- `varint::read64` meets its contract: its largest value is all ones.
use Rattle.varint.proofs.Laws.{ones}
use Rattle.varint.proofs.read64.Goals as goal

pub read_to-requires : goal.read_to-requires
read_to-requires c =
    ones 64
