-- `flat_store::recordings::join_recording` meets its contract.
use mathlib.Core.Path.{ap, ◌∙◌}
use Rattle.recording.specs.Answer.{Recorded}
use Rattle.flat_store.specs.Recordings.{recorded_numbers}
use Rattle.flat_store.proofs.recordings.join_recording.Goals as goal

-- a pair with the names of the clauses
named : {A B : Type 0} → A × B → record { value : A; out_after : B }
named p = record { value = p.0; out_after = p.1 }

pub returns : goal.returns
returns c =
    named ((
      c.recorded_numbers.ensures ∙ ap (λ (a : Recorded). recorded_numbers a) c.join_all.ensures.value,
      c.join_all.ensures.out_after,
    ))
