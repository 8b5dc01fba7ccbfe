-- `steps::forget_lowest` meets its contract: settings and order were tested.
use mathlib.Core.Path.{refl, ap, ◌∙◌}
use Rattle.walk.specs.Walk.{refusal}
use Rattle.steps.proofs.Roomed.{forgets}
use Rattle.steps.proofs.forget_lowest.Goals as goal

pub returns : goal.returns
returns c =
    let f = forgets _ _ _ c.requires.store_value c.requires.n_value c.lowest_record-i.ensures refl c.forget_in.ensures.store_after in
    record { value = c.forget_in.ensures.value ∙ ap refusal f.0; store_after = f.1 }
