-- `cells::find` meets its contract. The loop's invariant: none of the cells passed carries them.
use Prim.Native.Nat.{ℕ}
use lib.ListN.{length}
use mathlib.Core.List.{List}
use mathlib.Core.Path.{ap, sym, ◌∙◌}
use Rattle.cells.proofs.Scans.{seeking_first, seeking_turn, seeking_found, seeking_none}
use Rattle.cells.specs.Order.{carries_in, found_in}
use Rattle.cells.specs.Rows.{cell_of}
use Rattle.packet.specs.Key.{key_of}
use Rattle.packet.specs.Reading.{read_packet}
use Rattle.cells.proofs.find.Goals as goal

pub loop-j-init : goal.loop-j-init
loop-j-init c =
    seeking_first _ _

pub returns-then-carries_at : goal.returns-then-carries_at
unfolding found_in
returns-then-carries_at c =
    let g = c.args in seeking_found c.loop-j.invariant c.loop-j-test.true
    (sym (c.carries_at.ensures ∙ ap (λ (r : List ℕ). carries_in (key_of g.q.now (read_packet g.s g.q.now)) g.c.0
    (cell_of g.s (length g.zero.now) r)) c.row.ensures) ∙ c.if-carries_at.true)

pub loop-j-preserved : goal.loop-j-preserved
loop-j-preserved c =
    let g = c.args in seeking_turn c.loop-j.invariant c.loop-j-test.true
    (sym (c.carries_at.ensures ∙ ap (λ (r : List ℕ). carries_in (key_of g.q.now (read_packet g.s g.q.now)) g.c.0
    (cell_of g.s (length g.zero.now) r)) c.row.ensures) ∙ c.if-carries_at.false)

pub returns : goal.returns
unfolding found_in
returns c =
    seeking_none c.loop-j.invariant c.loop-j-test.false
