-- `packet::check_primary` meets its contract: its tests are the definition's.
use Rattle.std.proofs.lemmas.Result.{err_from_is_err_and}
use native.Mathlib.Omega.{arith}
use Rattle.packet.proofs.Judging.{few, version, no_secondary, idle, short, long, whole}
use Rattle.packet.proofs.check_primary.Goals as goal

pub returns-in_err-ensure : goal.returns-in_err-ensure
returns-in_err-ensure c =
    let p = err_from_is_err_and c.from_residual.result c.from_residual.ensures.1 in rw (p.1, p.2) (few _ c.in_err-ensure.ensures)

pub returns-in_err-ensure-2 : goal.returns-in_err-ensure-2
returns-in_err-ensure-2 c =
    let p = err_from_is_err_and c.from_residual-in_err-ensure-2.result c.from_residual-in_err-ensure-2.ensures.1 in rw (p.1, p.2) (version _ c.octet-first.ensures c.in_ok-ensure.ensures c.in_err-ensure-2.ensures)

pub returns-in_err-ensure-3 : goal.returns-in_err-ensure-3
returns-in_err-ensure-3 c =
    let p = err_from_is_err_and c.from_residual-in_err-ensure-3.result c.from_residual-in_err-ensure-3.ensures.1 in rw (p.1, p.2) (no_secondary _ c.octet-first.ensures c.in_ok-ensure.ensures c.in_ok-ensure-2.ensures c.in_err-ensure-3.ensures)

pub returns-in_err-ensure-4 : goal.returns-in_err-ensure-4
returns-in_err-ensure-4 c =
    let p = err_from_is_err_and c.from_residual-in_err-ensure-4.result c.from_residual-in_err-ensure-4.ensures.1 in rw (p.1, p.2) (idle _ c.octet-first.ensures c.in_ok-ensure.ensures c.in_ok-ensure-2.ensures c.in_ok-ensure-3.ensures c.read.ensures c.in_err-ensure-4.ensures)

pub returns-then-p-want : goal.returns-then-p-want
returns-then-p-want c =
    short _ c.octet-first.ensures c.in_ok-ensure.ensures c.in_ok-ensure-2.ensures c.in_ok-ensure-3.ensures c.read.ensures c.in_ok-ensure-4.ensures c.read-2.ensures c.if-p-want.true

pub returns-then-want-p : goal.returns-then-want-p
returns-then-want-p c =
    long _ c.octet-first.ensures c.in_ok-ensure.ensures c.in_ok-ensure-2.ensures c.in_ok-ensure-3.ensures c.read.ensures c.in_ok-ensure-4.ensures c.read-2.ensures c.if-want-p.true

pub returns : goal.returns
returns c =
    whole _ c.octet-first.ensures c.in_ok-ensure.ensures c.in_ok-ensure-2.ensures c.in_ok-ensure-3.ensures c.read.ensures c.in_ok-ensure-4.ensures c.read-2.ensures (omega arith)
