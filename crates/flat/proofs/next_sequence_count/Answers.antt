-- `flat::next_sequence_count` meets its contract: a number of 16 bits goes to the call, any other is 22.
use borrow.Author.Tests.{le-leb, lt-leb}
use native.Mathlib.Omega.{arith}
use Rattle.octets.specs.Octets.{most16}
use Rattle.flat.specs.Answers.{next_numbers}
use Rattle.flat.proofs.next_sequence_count.Goals as goal

pub returns-in-Ok : goal.returns-in-Ok
unfolding next_numbers
returns-in-Ok c =
    let h = c.in-Ok.ensures in
    rw (le-leb c.args.sequence_count most16 (omega (arith, h.0)), c.next_sequence_count-next.ensures, h.1)

pub returns-in-Err : goal.returns-in-Err
unfolding next_numbers
returns-in-Err c =
    rw (lt-leb c.args.sequence_count most16 (omega (arith, c.in-Err.ensures)))
