-- `packet::read_secondary` meets its contract: its steps are the definition's.
use Rattle.std.proofs.lemmas.Result.{err_from_is_err_and}
use Rattle.packet.proofs.Whole.{fixed_refused, ids_refused, texts_refused, body_refused, header_is}
use Rattle.packet.proofs.read_secondary.Goals as goal

pub returns-in_err-fixed : goal.returns-in_err-fixed
returns-in_err-fixed c =
    let h = fixed_refused (record { octets = c.args.p; settings = c.args.s; bound = c.header_bound.result; at = 6 }) c.header_bound.ensures c.in_err-fixed.ensures in
    let p = err_from_is_err_and c.from_residual.result c.from_residual.ensures.1 in rw (p.1, p.2) h

pub returns-in_err-ids : goal.returns-in_err-ids
returns-in_err-ids c =
    let h = ids_refused (record { octets = c.args.p; settings = c.args.s; bound = c.header_bound.result; at = 6 }) c.header_bound.ensures c.segmented.ensures c.in_ok-fixed.ensures c.in_err-ids.ensures in
    let p = err_from_is_err_and c.from_residual-in_err-ids.result c.from_residual-in_err-ids.ensures.1 in rw (p.1, p.2) h

pub returns-in_err-texts : goal.returns-in_err-texts
returns-in_err-texts c =
    let h = texts_refused (record { octets = c.args.p; settings = c.args.s; bound = c.header_bound.result; at = 6 }) c.header_bound.ensures c.segmented.ensures c.in_ok-fixed.ensures c.in_ok-ids.ensures c.in_err-texts.ensures in
    let p = err_from_is_err_and c.from_residual-in_err-texts.result c.from_residual-in_err-texts.ensures.1 in rw (p.1, p.2) h

pub returns-in_err-check_body : goal.returns-in_err-check_body
returns-in_err-check_body c =
    let h = body_refused (record { octets = c.args.p; settings = c.args.s; bound = c.header_bound.result; at = 6 }) c.header_bound.ensures c.segmented.ensures c.in_ok-fixed.ensures c.in_ok-ids.ensures c.in_ok-texts.ensures c.in_err-check_body.ensures in
    let p = err_from_is_err_and c.from_residual-in_err-check_body.result c.from_residual-in_err-check_body.ensures.1 in rw (p.1, p.2) h

pub returns : goal.returns
returns c =
    header_is (record { octets = c.args.p; settings = c.args.s; bound = c.header_bound.result; at = 6 }) c.header_bound.ensures c.segmented.ensures c.in_ok-fixed.ensures c.in_ok-ids.ensures c.in_ok-texts.ensures c.in_ok-check_body.ensures c.read_primary.ensures
    (simp (c.saturating_sub-2.ensures, c.saturating_sub.ensures, c.counter_size.ensures)) c.saturating_sub-3.ensures
