-- `fields::read_marked_text` meets its contract: its steps are the definition's.
use Rattle.std.proofs.lemmas.Result.{err_from_is_err_and}
use Rattle.std.proofs.Common.{arith}
use Rattle.walk.specs.Walk.{octet_field}
use Rattle.walk.proofs.Steps.{check_ok}
use Rattle.walk.proofs.Keeps.{check_keeps}
use Rattle.fields.specs.Fields.{marked_text}
use Rattle.fields.proofs.Steps.{text_keeps, mark_stops}
use Rattle.fields.proofs.read_marked_text.Goals as goal

pub returns-in_err-mark : goal.returns-in_err-mark
unfolding marked_text octet_field
returns-in_err-mark c = grind (arith, check_keeps, text_keeps)

pub returns-in_err-ensure : goal.returns-in_err-ensure
returns-in_err-ensure c =
    let h = mark_stops c.in_ok-mark.ensures c.in_err-ensure.ensures in
    let p = err_from_is_err_and c.from_residual-in_err-ensure.result c.from_residual-in_err-ensure.ensures.1 in rw (p.1, p.2) h

pub returns : goal.returns
unfolding marked_text octet_field
returns c = grind (arith, check_ok)
