-- `tally::key_at` meets its contract. The loop's invariant: none of the cells passed has the key.
use Prim.Native.Nat.{ℕ}
use lib.ListN.{length}
use mathlib.Core.List.{List}
use mathlib.Core.Path.{ap, sym, ◌∙◌}
use Rattle.packet.specs.Reading.{read_packet}
use Rattle.packet.specs.Key.{key_of}
use Rattle.cells.specs.Rows.{cell_of}
use Rattle.cells.proofs.Scans.{seeking_first, seeking_turn, seeking_found, seeking_none}
use Rattle.tally.specs.Counting.{keyed}
use Rattle.tally.specs.Telling.{key_at}
use Rattle.tally.proofs.key_at.Goals as goal

pub loop-j-init : goal.loop-j-init
loop-j-init c =
    seeking_first _ _

pub returns-then-keyed : goal.returns-then-keyed
unfolding key_at
returns-then-keyed c =
    let g = c.args in seeking_found c.loop-j.invariant c.loop-j-test.true
    (sym (c.keyed.ensures ∙ ap (λ (r : List ℕ). keyed (key_of g.q.now (read_packet g.s g.q.now))
    (cell_of g.s (length g.zero.now) r)) c.row.ensures) ∙ c.if-keyed.true)

pub loop-j-preserved : goal.loop-j-preserved
loop-j-preserved c =
    let g = c.args in seeking_turn c.loop-j.invariant c.loop-j-test.true
    (sym (c.keyed.ensures ∙ ap (λ (r : List ℕ). keyed (key_of g.q.now (read_packet g.s g.q.now))
    (cell_of g.s (length g.zero.now) r)) c.row.ensures) ∙ c.if-keyed.false)

pub returns : goal.returns
unfolding key_at
returns c =
    seeking_none c.loop-j.invariant c.loop-j-test.false
