-- `entries::counter` meets its contract.
use borrow.Author.Tests.{eq-eqb, ne_eqb}
use Rattle.entries.proofs.counter.Goals as goal

pub returns-then-flags-eq-UNSEGMENTED : goal.returns-then-flags-eq-UNSEGMENTED
returns-then-flags-eq-UNSEGMENTED c =
    rw (eq-eqb _ 3 c.if-flags-eq-UNSEGMENTED.true)

pub returns : goal.returns
returns c =
    rw (ne_eqb _ 3 c.if-flags-eq-UNSEGMENTED.false) c.counter_in-c.ensures
