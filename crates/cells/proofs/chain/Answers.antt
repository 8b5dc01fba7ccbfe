-- `cells::chain` meets its contract.
use Rattle.cells.proofs.chain.Goals as goal

pub returns : goal.returns
returns c =
    simp c.mix_in-x.ensures
