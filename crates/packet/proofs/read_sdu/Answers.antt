-- `packet::read_sdu` meets its contract: its tests are the definition's.
use Rattle.std.proofs.Common.{arith}
use Rattle.std.proofs.lemmas.Result.{err_from_is_err_and}
use Rattle.walk.specs.Walk.{octet_field}
use Rattle.packet.specs.FixedPart.{sdu_field, after_sdu}
use Rattle.walk.proofs.Steps.{check_ok}
use Rattle.walk.proofs.Keeps.{check_keeps}
use Rattle.packet.proofs.Keeping.{binding_refused, type_refused}
use Rattle.packet.proofs.read_sdu.Goals as goal

pub returns-in_err-first : goal.returns-in_err-first
unfolding sdu_field after_sdu octet_field
returns-in_err-first c = grind (arith, check_keeps)

pub returns-in_err-ensure : goal.returns-in_err-ensure
unfolding sdu_field
returns-in_err-ensure c =
    let h = binding_refused c.in_ok-first.ensures c.in_err-ensure.ensures in
    let p = err_from_is_err_and c.from_residual-in_err-ensure.result c.from_residual-in_err-ensure.ensures.1 in rw (p.1, p.2) h

pub returns-in_err-ensure-2 : goal.returns-in_err-ensure-2
unfolding sdu_field
returns-in_err-ensure-2 c =
    let h = type_refused c.in_ok-first.ensures c.in_ok-ensure.ensures c.in_err-ensure-2.ensures in
    let p = err_from_is_err_and c.from_residual-in_err-ensure-2.result c.from_residual-in_err-ensure-2.ensures.1 in rw (p.1, p.2) h

pub returns : goal.returns
unfolding sdu_field after_sdu octet_field
returns c = grind (arith, check_ok)
