-- `flat_store::forget` meets its contract: the refusal's number, and nothing else.
use mathlib.Core.Path.{ap}
use Rattle.walk.specs.declared.Refusal.{Refusal}
use Rattle.flat_store.specs.Numbers.{forget_numbers}
use Rattle.flat_store.proofs.forget.Goals as goal

pub returns-in-Ok : goal.returns-in-Ok
returns-in-Ok c =
    record { value = ap (λ (r : Refusal). forget_numbers r.number) c.in-Ok.ensures.value; store_after = c.in-Ok.ensures.store_after }

pub returns-in-Err : goal.returns-in-Err
returns-in-Err c =
    record { value = rw c.number.ensures (ap (λ (r : Refusal). forget_numbers r.number) c.in-Err.ensures.value); store_after = c.in-Err.ensures.store_after }
