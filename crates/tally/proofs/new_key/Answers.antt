-- `tally::new_key` meets its contract. The loop's invariant: none of the cells passed has the key.
use Prim.Native.Nat.{ℕ}
use lib.ListN.{length}
use mathlib.Core.Bool.{not}
use mathlib.Core.List.{List}
use mathlib.Core.Path.{ap, sym, ◌∙◌}
use Rattle.packet.specs.Reading.{read_packet}
use Rattle.packet.specs.Key.{key_of}
use Rattle.cells.specs.Rows.{cell_of}
use Rattle.cells.proofs.Passing.{passing_first, passing_turn, passing_fault, passing_all}
use Rattle.tally.specs.Counting.{keyed, new_key_to}
use Rattle.tally.proofs.new_key.Goals as goal

pub loop-j-init : goal.loop-j-init
loop-j-init c =
    passing_first _ _

pub returns-then-keyed : goal.returns-then-keyed
unfolding new_key_to
returns-then-keyed c =
    let g = c.args in passing_fault c.loop-j.invariant c.loop-j-test.true
    (ap not (sym (c.keyed.ensures ∙ ap (λ (r : List ℕ). keyed (key_of g.q.now (read_packet g.s g.q.now))
    (cell_of g.s (length g.zero.now) r)) c.row.ensures) ∙ c.if-keyed.true))

pub loop-j-preserved : goal.loop-j-preserved
loop-j-preserved c =
    let g = c.args in passing_turn c.loop-j.invariant c.loop-j-test.true
    (ap not (sym (c.keyed.ensures ∙ ap (λ (r : List ℕ). keyed (key_of g.q.now (read_packet g.s g.q.now))
    (cell_of g.s (length g.zero.now) r)) c.row.ensures) ∙ c.if-keyed.false))

pub returns : goal.returns
unfolding new_key_to
returns c =
    passing_all c.loop-j.invariant c.loop-j-test.false
