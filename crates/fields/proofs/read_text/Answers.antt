-- `fields::read_text` meets its contract: a text is read as a blob, and then tested.
use Rattle.std.proofs.lemmas.Result.{err_from_is_err_and}
use Rattle.std.proofs.Common.{arith}
use Rattle.walk.proofs.Steps.{check_ok, check_refused}
use Rattle.fields.specs.Fields.{text}
use Rattle.fields.proofs.Steps.{text_stops}
use Rattle.fields.proofs.read_text.Goals as goal

pub returns-in_err-place : goal.returns-in_err-place
unfolding text
returns-in_err-place c = grind (arith, check_refused)

pub returns-in_err-ensure : goal.returns-in_err-ensure
unfolding text
returns-in_err-ensure c =
    let h = text_stops c.in_ok-place.ensures.reads (grind arith) c.in_err-ensure.ensures.1 in
    let p = err_from_is_err_and c.from_residual-in_err-ensure.result c.from_residual-in_err-ensure.ensures.1 in rw (p.1, p.2) h

pub returns : goal.returns
unfolding text
returns c = grind (arith, check_ok)
