-- `carry::pdu_values` meets its contract: the fields are copied.
use Rattle.carry.specs.There.{office_values}
use borrow.Author.Rules.{rules}
use Rattle.carry.proofs.pdu_values.Goals as goal

pub returns : goal.returns
unfolding office_values
returns c =
    search rules
