-- `forgetting::is_record` meets its contract: the row is judged.
use Rattle.taking.proofs.Forgets.{record_judged}
use Rattle.taking.proofs.forgetting.is_record.Goals as goal

pub returns : goal.returns
returns c =
    record_judged _ _ _ c.judge.ensures c.is_taken.ensures
