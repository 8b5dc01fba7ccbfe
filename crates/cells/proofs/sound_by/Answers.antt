-- `cells::sound_by` meets its contract. The loop's invariant: whether the cells passed are all free, held or records, and their table.
use native.Mathlib.Omega.{arith}
use Rattle.cells.proofs.Soundness.{sounding_first, place_small, sounding_turn, sounding_sound, sounding_bodies}
use Rattle.cells.proofs.sound_by.Goals as goal

pub loop-i-init : goal.loop-i-init
loop-i-init c =
    sounding_first

pub judge-t-requires : goal.judge-t-requires
judge-t-requires c =
    c.requires.zero_value

pub overflow_cast-bodies : goal.overflow_cast-bodies
overflow_cast-bodies c =
    record { fits = rw c.body_at.ensures (place_small c.loop-i.invariant c.row.ensures c.judge-t.ensures (λ j. (c.type_inv.store j).fits)) }

pub offset_bounds-bodies-i : goal.offset_bounds-bodies-i
offset_bounds-bodies-i c =
    omega (arith, c.loop-i-test.true, c.requires.n_le_cells_most)

pub bounds-bodies-i : goal.bounds-bodies-i
bounds-bodies-i c =
    omega (arith, c.loop-i-test.true, c.requires.n_le_cells_most)

pub loop-i-preserved : goal.loop-i-preserved
loop-i-preserved c =
    rw c.body_at.ensures (sounding_turn c.loop-i.invariant c.row.ensures c.judge-t.ensures c.loop-i-test.true c.is_sound.ensures c.both-all.ensures)

pub returns : goal.returns
returns c =
    record { value = sounding_sound c.loop-i.invariant c.loop-i-test.false; bodies_after = sounding_bodies c.loop-i.invariant c.loop-i-test.false }
