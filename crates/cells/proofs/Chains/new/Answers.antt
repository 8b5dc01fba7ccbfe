-- `Chains::new` meets its contract: heads of zeros lead nowhere.
use Rattle.cells.proofs.Chaining.{chained_none}
use Rattle.cells.proofs.Chains.new.Goals as goal

pub returns : goal.returns
returns c = chained_none
