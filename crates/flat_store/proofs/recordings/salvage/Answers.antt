-- `flat_store::recordings::salvage` meets its contract: what the call answers, as numbers.
use mathlib.Core.Path.{ap, ◌∙◌}
use Rattle.flat_store.specs.Recordings.{salvaged_numbers}
use Rattle.flat_store.proofs.recordings.salvage.Goals as goal

pub returns : goal.returns
returns c =
    record { value = c.salvaged_numbers.ensures ∙ ap salvaged_numbers c.salvage.ensures.answer; list_after = c.salvage.ensures.list }
