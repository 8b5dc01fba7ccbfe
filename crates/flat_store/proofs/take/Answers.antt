-- `flat_store::take` meets its contract.
use mathlib.Core.Path.{ap, ◌∙◌}
use Rattle.taking.specs.Answer.{Taken}
use Rattle.flat_store.specs.Numbers.{taken_numbers}
use Rattle.flat_store.proofs.take.Goals as goal

-- a pair with the names of the clauses
named : {A B C : Type 0} → A × (B × C) → record { value : A; out_after : B; store_after : C }
named p = record { value = p.0; out_after = p.1.0; store_after = p.1.1 }

pub returns : goal.returns
returns c =
    named ((
      c.taken_numbers.ensures ∙ ap (λ (a : Taken). taken_numbers a) c.take.ensures.value,
      (c.take.ensures.out_after, c.take.ensures.store_after),
    ))
