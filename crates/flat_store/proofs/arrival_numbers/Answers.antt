-- `flat_store::arrival_numbers` meets its contract, case by case.
use mathlib.Core.Path.{ap, sym, ◌∙◌}
use Prim.Native.Nat.{ℕ}
use mathlib.Core.List.{[], ◌∷◌}
use Rattle.std.specs.Prelude.{Result}
use Rattle.walk.specs.declared.Refused.{Refused}
use Rattle.arrival.specs.declared.Kind.{Kind}
use Rattle.arrival.specs.Answer.{arrival_answer}
use Rattle.flat_store.specs.Numbers.{arrival_numbers}
use Rattle.flat_store.proofs.arrival_numbers.Goals as goal

pub returns-in-Ok : goal.returns-in-Ok
returns-in-Ok c =
    ap (λ (k : ℕ). 0 ∷ k ∷ 0 ∷ 0 ∷ []) c.kind_number.ensures ∙ sym (ap (λ (a : Result Kind Refused). arrival_numbers (arrival_answer a)) c.in-Ok.is)

pub returns-in-Err : goal.returns-in-Err
returns-in-Err c =
    rw (c.number.ensures, c.octets.ensures, c.place.ensures) (sym (ap (λ (a : Result Kind Refused). arrival_numbers (arrival_answer a)) c.in-Err.is))
