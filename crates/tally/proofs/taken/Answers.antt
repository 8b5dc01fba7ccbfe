-- `tally::taken` meets its contract: what is judged of a row tells it.
use Rattle.taking.proofs.Forgets.{record_judged}
use Rattle.tally.proofs.taken.Goals as goal

pub returns : goal.returns
returns c =
    record_judged _ _ _ c.judge.ensures c.is_taken.ensures
