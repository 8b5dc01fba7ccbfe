-- `pdu::check_fixed` meets its contract: its tests are the definition's.
use native.Mathlib.Omega.{arith}
use Rattle.std.proofs.lemmas.Result.{err_from_is_err_and}
use Rattle.pdu.proofs.Whole.{few, version, sdu_type, short, long, fitting}
use Rattle.pdu.proofs.check_fixed.Goals as goal

pub returns-in_err-ensure : goal.returns-in_err-ensure
returns-in_err-ensure c =
    let p = err_from_is_err_and c.from_residual.result c.from_residual.ensures.1 in rw (p.1, p.2) (few _ c.in_err-ensure.ensures)

pub returns-in_err-ensure-2 : goal.returns-in_err-ensure-2
returns-in_err-ensure-2 c =
    let p = err_from_is_err_and c.from_residual-in_err-ensure-2.result c.from_residual-in_err-ensure-2.ensures.1 in rw (p.1, p.2) (version _ c.octet-first.ensures c.in_ok-ensure.ensures c.in_err-ensure-2.ensures)

pub returns-in_err-ensure-3 : goal.returns-in_err-ensure-3
returns-in_err-ensure-3 c =
    let p = err_from_is_err_and c.from_residual-in_err-ensure-3.result c.from_residual-in_err-ensure-3.ensures.1 in rw (p.1, p.2) (sdu_type _ c.octet-first.ensures c.in_ok-ensure.ensures c.in_ok-ensure-2.ensures c.in_err-ensure-3.ensures)

pub returns-then-p-want : goal.returns-then-p-want
returns-then-p-want c =
    short _ c.octet-first.ensures c.in_ok-ensure.ensures c.in_ok-ensure-2.ensures c.in_ok-ensure-3.ensures c.read.ensures c.if-p-want.true

pub returns-then-want-p : goal.returns-then-want-p
returns-then-want-p c =
    long _ c.octet-first.ensures c.in_ok-ensure.ensures c.in_ok-ensure-2.ensures c.in_ok-ensure-3.ensures c.read.ensures c.if-want-p.true

pub returns : goal.returns
returns c =
    fitting _ c.octet-first.ensures c.in_ok-ensure.ensures c.in_ok-ensure-2.ensures c.in_ok-ensure-3.ensures c.read.ensures (omega arith)
