-- `flat_store::join` meets its contract.
use mathlib.Core.Path.{ap, ◌∙◌}
use Rattle.join.specs.Answer.{Joined}
use Rattle.flat_store.specs.Numbers.{joined_numbers}
use Rattle.flat_store.proofs.join.Goals as goal

-- a pair with the names of the clauses
named : {A B C : Type 0} → A × (B × C) → record { value : A; store_after : B; out_after : C }
named p = record { value = p.0; store_after = p.1.0; out_after = p.1.1 }

pub returns : goal.returns
returns c =
    named ((
      c.joined_numbers.ensures ∙ ap (λ (a : Joined). joined_numbers a) c.join.ensures.value,
      (c.join.ensures.store_after, c.join.ensures.out_after),
    ))
