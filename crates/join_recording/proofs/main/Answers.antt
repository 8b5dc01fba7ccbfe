-- `join_recording::main` is safe and ends: it joins only under settings that were tested.
use mathlib.Core.Path.{ap, sym}
use Rattle.walk.specs.declared.Refusal.{Refusal}
use Rattle.join_recording.proofs.main.Goals as goal

pub start-requires : goal.start-requires
start-requires c =
    sym (ap (λ (t : Refusal). t.number) c.in_default.ensures)
