-- `flat_office::carried_numbers` meets its contract: the fields, one after the other.
use Rattle.flat_office.specs.Numbers.{carried_numbers}
use borrow.Author.Rules.{rules}
use Rattle.flat_office.proofs.carried_numbers.Goals as goal

pub returns : goal.returns
unfolding carried_numbers
returns c =
    search rules
