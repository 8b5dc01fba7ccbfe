-- `entries::put_counter` meets its contract.
use borrow.Author.Tests.{eq-eqb, ne_eqb}
use Rattle.entries.specs.Lines.{counter_pieces}
use Rattle.entries.proofs.put_counter.Goals as goal

pub returns-then-flags-eq-UNSEGMENTED : goal.returns-then-flags-eq-UNSEGMENTED
unfolding counter_pieces
returns-then-flags-eq-UNSEGMENTED c =
    rw (eq-eqb _ 3 c.if-flags-eq-UNSEGMENTED.true) c.lay.ensures

pub returns : goal.returns
unfolding counter_pieces
returns c =
    rw (ne_eqb _ 3 c.if-flags-eq-UNSEGMENTED.false) c.put_next.ensures
