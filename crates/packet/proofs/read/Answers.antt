-- `packet::read` meets its contract: its tests are the definition's, and where all hold the secondary header's reading is.
use Rattle.std.proofs.lemmas.Result.{err_from_is_err_and}
use Rattle.packet.proofs.Whole.{settings_held, settings_refused, primary_refused, secondary_refused, header_whole}
use Rattle.packet.proofs.read.Goals as goal

pub returns-in_err-check-clause-answer : goal.returns-in_err-check-clause-answer
returns-in_err-check-clause-answer c =
    let p = err_from_is_err_and c.from_residual.result c.from_residual.ensures.1 in rw (p.1, p.2) (settings_refused c.args.s _ _ c.in_err-check.ensures)

pub returns-in_err-check_primary-clause-answer : goal.returns-in_err-check_primary-clause-answer
returns-in_err-check_primary-clause-answer c =
    let p = err_from_is_err_and c.from_residual-in_err-check_primary.result c.from_residual-in_err-check_primary.ensures.1 in rw (p.1, p.2) (primary_refused c.args.s _ (settings_held _ c.in_ok-check.ensures) _ c.in_err-check_primary.ensures)

pub returns-in-Ok-clause-answer : goal.returns-in-Ok-clause-answer
returns-in-Ok-clause-answer c =
    header_whole c.args.s _ (settings_held _ c.in_ok-check.ensures) c.in_ok-check_primary.ensures _ c.in-Ok.ensures

pub returns-in-Err-clause-answer : goal.returns-in-Err-clause-answer
returns-in-Err-clause-answer c =
    secondary_refused c.args.s _ (settings_held _ c.in_ok-check.ensures) c.in_ok-check_primary.ensures _ _ c.in-Err.ensures c.counted_from.ensures
