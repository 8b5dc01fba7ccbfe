-- `pdu::decode` meets its contract: its tests are the definition's, and its steps are.
use mathlib.Core.Path.{refl}
use Rattle.std.proofs.lemmas.Result.{err_from_is_err_and}
use Rattle.pdu.proofs.Whole.{fixed_refused, ids_refused, texts_refused, header_whole}
use Rattle.pdu.proofs.decode.Goals as goal

pub returns-in_err-check_fixed-clause-answer : goal.returns-in_err-check_fixed-clause-answer
returns-in_err-check_fixed-clause-answer c =
    let p = err_from_is_err_and c.from_residual.result c.from_residual.ensures.1 in rw (p.1, p.2) (fixed_refused _ _ c.in_err-check_fixed.ensures)

pub returns-in_err-ids-clause-answer : goal.returns-in_err-ids-clause-answer
returns-in_err-ids-clause-answer c =
    let p = err_from_is_err_and c.from_residual-in_err-ids.result c.from_residual-in_err-ids.ensures.1 in rw (p.1, p.2) (ids_refused _ c.in_ok-check_fixed.ensures (record { octets = c.args.p; settings = c.pdu_settings.result; bound = c.bound_of.result; at = 23 }) refl refl c.pdu_settings.ensures
    c.bound_of.ensures {has = c.flags_of-has.result} (simp (c.flags_of-has.ensures, c.octet.ensures)) _ c.in_err-ids.ensures)

pub returns-in_err-texts-clause-answer : goal.returns-in_err-texts-clause-answer
returns-in_err-texts-clause-answer c =
    let p = err_from_is_err_and c.from_residual-in_err-texts.result c.from_residual-in_err-texts.ensures.1 in rw (p.1, p.2) (texts_refused _ c.in_ok-check_fixed.ensures (record { octets = c.args.p; settings = c.pdu_settings.result; bound = c.bound_of.result; at = 23 }) refl refl c.pdu_settings.ensures
    c.bound_of.ensures {has = c.flags_of-has.result} (simp (c.flags_of-has.ensures, c.octet.ensures)) c.in_ok-ids.ensures _ c.in_err-texts.ensures)

pub returns-clause-answer : goal.returns-clause-answer
returns-clause-answer c =
    header_whole _ c.in_ok-check_fixed.ensures (record { octets = c.args.p; settings = c.pdu_settings.result; bound = c.bound_of.result; at = 23 }) refl refl c.pdu_settings.ensures
    c.bound_of.ensures {has = c.flags_of-has.result} (simp (c.flags_of-has.ensures, c.octet.ensures)) c.in_ok-ids.ensures c.in_ok-texts.ensures c.read_fixed.ensures c.read.ensures c.saturating_sub.ensures
