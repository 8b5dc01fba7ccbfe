-- `flat_office::written_numbers` meets its contract: the fields, one after the other.
use Rattle.flat_office.specs.Numbers.{written_numbers}
use borrow.Author.Rules.{rules}
use Rattle.flat_office.proofs.written_numbers.Goals as goal

pub returns : goal.returns
unfolding written_numbers
returns c =
    search rules
