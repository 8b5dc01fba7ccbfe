-- `flat_pdu::pdu_read` meets its contract: what the call answers, as numbers.
use mathlib.Core.Path.{ap, ◌∙◌}
use Rattle.flat_pdu.specs.Numbers.{read_numbers}
use Rattle.flat_pdu.proofs.pdu_read.Goals as goal

pub returns : goal.returns
returns c =
    c.header_numbers.ensures ∙ ap read_numbers c.read.ensures.answer
