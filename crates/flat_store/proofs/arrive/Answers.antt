-- `flat_store::arrive` meets its contract.
use mathlib.Core.Path.{ap, ◌∙◌}
use Rattle.arrival.specs.Answer.{Arrival}
use Rattle.flat_store.specs.Numbers.{arrival_numbers}
use Rattle.flat_store.proofs.arrive.Goals as goal

pub returns : goal.returns
returns c =
    record { value = c.arrival_numbers.ensures ∙ ap (λ (x : Arrival). arrival_numbers x) c.arrive.ensures.value; store_after = c.arrive.ensures.store_after }
