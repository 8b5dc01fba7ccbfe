-- `carry::check_start` meets its contract: its tests are the definition's, in its order.
use Rattle.std.proofs.lemmas.Result.{err_from_is_err_and}
use Rattle.carry.proofs.Start.{settings_held, settings_refused, encoding_refused, few, version, no_secondary, last}
use Rattle.carry.proofs.check_start.Goals as goal

pub returns-in_err-check : goal.returns-in_err-check
returns-in_err-check c =
    let p = err_from_is_err_and c.from_residual.result c.from_residual.ensures.1 in rw (p.1, p.2) (settings_refused c.args.s c.args.encoding _ _ c.in_err-check.ensures)

pub returns-in_err-ensure : goal.returns-in_err-ensure
returns-in_err-ensure c =
    let p = err_from_is_err_and c.from_residual-in_err-ensure.result c.from_residual-in_err-ensure.ensures.1 in rw (p.1, p.2) (encoding_refused c.args.s _ _ (settings_held _ c.in_ok-check.ensures) c.in_err-ensure.ensures)

pub returns-in_err-ensure-2 : goal.returns-in_err-ensure-2
returns-in_err-ensure-2 c =
    let p = err_from_is_err_and c.from_residual-in_err-ensure-2.result c.from_residual-in_err-ensure-2.ensures.1 in rw (p.1, p.2) (few c.args.s _ _ (settings_held _ c.in_ok-check.ensures) c.in_ok-ensure.ensures c.in_err-ensure-2.ensures)

pub returns-in_err-ensure-3 : goal.returns-in_err-ensure-3
returns-in_err-ensure-3 c =
    let p = err_from_is_err_and c.from_residual-in_err-ensure-3.result c.from_residual-in_err-ensure-3.ensures.1 in rw (p.1, p.2) (version c.args.s _ _ (settings_held _ c.in_ok-check.ensures) c.in_ok-ensure.ensures c.in_ok-ensure-2.ensures c.octet-first.ensures c.in_err-ensure-3.ensures)

pub returns-in_err-ensure-4 : goal.returns-in_err-ensure-4
returns-in_err-ensure-4 c =
    let p = err_from_is_err_and c.from_residual-in_err-ensure-4.result c.from_residual-in_err-ensure-4.ensures.1 in rw (p.1, p.2) (no_secondary c.args.s _ _ (settings_held _ c.in_ok-check.ensures) c.in_ok-ensure.ensures c.in_ok-ensure-2.ensures c.octet-first.ensures c.in_ok-ensure-3.ensures c.in_err-ensure-4.ensures)

pub returns : goal.returns
returns c =
    last c.args.s _ _ (settings_held _ c.in_ok-check.ensures) c.in_ok-ensure.ensures c.in_ok-ensure-2.ensures c.octet-first.ensures c.in_ok-ensure-3.ensures c.in_ok-ensure-4.ensures c.read.ensures _ c.ensure-5.ensures
