-- `taking::take_plain` meets its contract: there are no chains to go by.
use Rattle.taking.proofs.take_plain.Goals as goal

pub take_lowest-requires : goal.take_lowest-requires
take_lowest-requires c = (tt, c.requires)
