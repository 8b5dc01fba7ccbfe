-- `flat_office::to_pdu` meets its contract: what the call answers, as numbers.
use mathlib.Core.Path.{ap, ◌∙◌}
use Rattle.flat_office.specs.Numbers.{written_numbers}
use Rattle.flat_office.proofs.to_pdu.Goals as goal

pub returns : goal.returns
returns c =
    let w = c.within-e.ensures in let k = c.to_pdu.ensures.answer in record { value = c.written_numbers.ensures ∙ ap written_numbers (rw w at k.0); out_after = rw w at k.1 }
