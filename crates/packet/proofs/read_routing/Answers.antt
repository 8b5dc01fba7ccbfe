-- `packet::read_routing` meets its contract: its steps are the definition's, and the secondary APID began in the octet of the session.
use Rattle.std.proofs.Common.{arith}
use native.Mathlib.Omega.{arith as order}
use Rattle.std.proofs.lemmas.Result.{err_from_is_err_and}
use borrow.Author.Tests.{lt-ltb}
use Rattle.walk.specs.Walk.{octet_field, wide_field}
use Rattle.walk.proofs.Steps.{check_ok, field_goes}
use Rattle.packet.specs.FixedPart.{after_session, after_secondary, after_qualifier}
use Rattle.packet.proofs.Keeping.{high_refused, session_refused, low_refused}
use Rattle.packet.proofs.read_routing.Goals as goal

pub returns-in_err-high : goal.returns-in_err-high
returns-in_err-high c =
    let h = high_refused c.in_err-high.ensures in
    let p = err_from_is_err_and c.from_residual.result c.from_residual.ensures.1 in rw (p.1, p.2) h

pub returns-then-high-ge3 : goal.returns-then-high-ge3
returns-then-high-ge3 c = session_refused c.in_ok-high.ensures (omega order)

pub returns-in-Err : goal.returns-in-Err
returns-in-Err c = low_refused c.in_ok-high.ensures (omega order) c.in-Err.ensures c.began.ensures

pub returns-in_err-be16 : goal.returns-in_err-be16
unfolding octet_field wide_field after_session after_secondary after_qualifier
returns-in_err-be16 c = grind (arith, check_ok, field_goes, lt-ltb)

pub returns : goal.returns
unfolding octet_field wide_field after_session after_secondary after_qualifier
returns c = grind (arith, check_ok, field_goes, lt-ltb)
