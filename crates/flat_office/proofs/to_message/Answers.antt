-- `flat_office::to_message` meets its contract: what the call answers, as numbers.
use mathlib.Core.Path.{ap, ◌∙◌}
use Rattle.flat_office.specs.Numbers.{carried_numbers}
use Rattle.flat_office.proofs.to_message.Goals as goal

pub returns : goal.returns
returns c =
    let w = c.route_of-l.ensures in let k = c.to_message.ensures.answer in record { value = c.carried_numbers.ensures ∙ ap carried_numbers (rw w at k.0); out_after = rw w at k.1 }
