-- `cells::order_by` meets its contract: the table that the first pass leaves is what the others ask for.
use Rattle.cells.proofs.Bodies.{bodies_left}
use Rattle.cells.proofs.order_by.Goals as goal

pub distinct_by-distinct-requires : goal.distinct_by-distinct-requires
distinct_by-distinct-requires c =
    record {
      zero_value = c.requires.zero_value;
      n_le_cells_most = c.requires.n_le_cells_most;
      bodies = bodies_left _ _ _ c.requires.n_le_cells_most c.sound_by-sound.ensures.bodies_after;
      chained = c.requires.chained;
    }

pub untaken_by-untaken-requires : goal.untaken_by-untaken-requires
untaken_by-untaken-requires c =
    record { zero_value = c.requires.zero_value; n_le_cells_most = c.requires.n_le_cells_most; bodies = bodies_left _ _ _ c.requires.n_le_cells_most c.sound_by-sound.ensures.bodies_after }

pub returns : goal.returns
returns c =
    record {
      sound_value = c.sound_by-sound.ensures.value;
      distinct_value = c.distinct_by-distinct.ensures.value;
      untaken_value = c.untaken_by-untaken.ensures;
      chained_2 = c.distinct_by-distinct.ensures.chained_2;
    }
