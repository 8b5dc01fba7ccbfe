-- `cells::bucket` meets its contract: the mixed key and the counter choose the chain.
use Rattle.cells.proofs.Mixing.{bucket_told}
use Rattle.cells.proofs.bucket.Goals as goal

pub returns : goal.returns
returns c =
    bucket_told _ _ c.mix_key.ensures c.chain.ensures
