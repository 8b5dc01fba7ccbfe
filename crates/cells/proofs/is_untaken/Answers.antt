-- `cells::is_untaken` meets its contract. The loop's invariant: none of the cells passed covers them.
use Prim.Native.Nat.{ℕ}
use lib.ListN.{length}
use mathlib.Core.Bool.{not}
use mathlib.Core.List.{List}
use mathlib.Core.Path.{ap, sym, ◌∙◌}
use Rattle.cells.proofs.Passing.{passing_first, passing_turn, passing_fault, passing_all}
use Rattle.cells.specs.Order.{covers_in, untaken_to}
use Rattle.cells.specs.Rows.{cell_of}
use Rattle.packet.specs.Key.{key_of}
use Rattle.packet.specs.Reading.{read_packet}
use Rattle.cells.proofs.is_untaken.Goals as goal

pub loop-j-init : goal.loop-j-init
loop-j-init c =
    passing_first _ _

pub returns-then-covers_at : goal.returns-then-covers_at
unfolding untaken_to
returns-then-covers_at c =
    let g = c.args in passing_fault c.loop-j.invariant c.loop-j-test.true
    (ap not (sym (c.covers_at.ensures ∙ ap (λ (r : List ℕ). covers_in (key_of g.q.now (read_packet g.s g.q.now)) g.c.0
    (cell_of g.s (length g.zero.now) r)) c.row.ensures) ∙ c.if-covers_at.true))

pub loop-j-preserved : goal.loop-j-preserved
loop-j-preserved c =
    let g = c.args in passing_turn c.loop-j.invariant c.loop-j-test.true
    (ap not (sym (c.covers_at.ensures ∙ ap (λ (r : List ℕ). covers_in (key_of g.q.now (read_packet g.s g.q.now)) g.c.0
    (cell_of g.s (length g.zero.now) r)) c.row.ensures) ∙ c.if-covers_at.false))

pub returns : goal.returns
unfolding untaken_to
returns c =
    passing_all c.loop-j.invariant c.loop-j-test.false
