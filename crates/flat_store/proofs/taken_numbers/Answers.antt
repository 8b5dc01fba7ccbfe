-- `flat_store::taken_numbers` meets its contract, case by case.
use mathlib.Core.Path.{ap, sym}
use Rattle.std.specs.Prelude.{Result}
use Rattle.walk.specs.declared.Refused.{Refused}
use Rattle.taking.specs.declared.Taken.{Taken}
use Rattle.taking.specs.Answer.{taken_answer}
use Rattle.flat_store.specs.Numbers.{taken_numbers}
use Rattle.flat_store.proofs.taken_numbers.Goals as goal

pub returns-in-Ok : goal.returns-in-Ok
returns-in-Ok c = sym (ap (λ (a : Result Taken Refused). taken_numbers (taken_answer a)) c.in-Ok.is)

pub returns-in-Err : goal.returns-in-Err
returns-in-Err c = rw c.number.ensures (sym (ap (λ (a : Result Taken Refused). taken_numbers (taken_answer a)) c.in-Err.is))
