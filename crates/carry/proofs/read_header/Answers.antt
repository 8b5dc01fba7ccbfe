-- `carry::read_header` meets its contract: its steps are the definition's.
use Rattle.std.proofs.lemmas.Result.{err_from_is_err_and}
use Rattle.carry.proofs.Whole.{fixed_refused, ids_refused, texts_refused, time_refused, header_is}
use Rattle.carry.proofs.read_header.Goals as goal

pub returns-in_err-fixed : goal.returns-in_err-fixed
returns-in_err-fixed c =
    let p = err_from_is_err_and c.from_residual.result c.from_residual.ensures.1 in rw (p.1, p.2) (fixed_refused (record { octets = c.args.m; settings = c.args.s; bound = c.message_bound.result; at = 2 }) c.message_bound.ensures c.in_err-fixed.ensures)

pub returns-in_err-ids : goal.returns-in_err-ids
returns-in_err-ids c =
    let p = err_from_is_err_and c.from_residual-in_err-ids.result c.from_residual-in_err-ids.ensures.1 in rw (p.1, p.2) (ids_refused (record { octets = c.args.m; settings = c.args.s; bound = c.message_bound.result; at = 2 }) c.message_bound.ensures c.in_ok-fixed.ensures c.in_err-ids.ensures)

pub returns-in_err-texts : goal.returns-in_err-texts
returns-in_err-texts c =
    let p = err_from_is_err_and c.from_residual-in_err-texts.result c.from_residual-in_err-texts.ensures.1 in rw (p.1, p.2) (texts_refused (record { octets = c.args.m; settings = c.args.s; bound = c.message_bound.result; at = 2 }) c.message_bound.ensures c.in_ok-fixed.ensures c.in_ok-ids.ensures c.in_err-texts.ensures)

pub returns-in_err-ensure : goal.returns-in_err-ensure
returns-in_err-ensure c =
    let p = err_from_is_err_and c.from_residual-in_err-ensure.result c.from_residual-in_err-ensure.ensures.1 in rw (p.1, p.2) (time_refused (record { octets = c.args.m; settings = c.args.s; bound = c.message_bound.result; at = 2 }) c.message_bound.ensures c.in_ok-fixed.ensures c.in_ok-ids.ensures c.timestamp_fits.ensures c.in_ok-texts.ensures c.in_err-ensure.ensures)

pub returns : goal.returns
returns c =
    header_is (record { octets = c.args.m; settings = c.args.s; bound = c.message_bound.result; at = 2 }) c.message_bound.ensures c.in_ok-fixed.ensures c.in_ok-ids.ensures c.timestamp_fits.ensures c.in_ok-texts.ensures c.in_ok-ensure.ensures c.read_primary.ensures
    c.saturating_sub.ensures c.saturating_sub-2.ensures
