-- `join_recording::run` is safe and ends. The measure is the number of turns that are left.
use mathlib.Core.Path.{refl, ◌∙◌}
use native.Mathlib.Omega.{arith}
use Rattle.join_recording.proofs.Turns.{going_next}
use Rattle.join_recording.proofs.run.Goals as goal

pub loop-turns-init : goal.loop-turns-init
loop-turns-init c =
    record {
      order = c.requires.store_value;
      cells = c.requires.n_value;
      spare = omega (arith, c.requires.room_in_bounds);
      inside = omega arith;
      window = omega arith;
      store_long = refl;
      window_long = refl;
      output_long = refl;
    }

pub turn-h-requires : goal.turn-h-requires
turn-h-requires c =
    let i = c.loop-turns.invariant in
    record {
      zero_value = c.requires.zero_value;
      store_value = i.order;
      n_value = i.cells;
      room_in_bounds = i.spare;
      from_le_till = i.inside;
      till_in_bounds = i.window;
    }

pub slice_bounds-last-end : goal.slice_bounds-last-end
slice_bounds-last-end c =
    omega (arith, c.turn-h.ensures.room_in_bounds_2, c.turn-h.auto.out)

pub shape_of-store-then-h-ne0 : goal.shape_of-store-then-h-ne0
shape_of-store-then-h-ne0 c =
    c.turn-h.auto.store ∙ c.loop-turns.invariant.store_long

pub shape_of-buf-then-h-ne0 : goal.shape_of-buf-then-h-ne0
shape_of-buf-then-h-ne0 c =
    c.turn-h.auto.buf ∙ c.loop-turns.invariant.window_long

pub shape_of-out-then-h-ne0 : goal.shape_of-out-then-h-ne0
shape_of-out-then-h-ne0 c =
    c.turn-h.auto.out ∙ c.loop-turns.invariant.output_long

pub loop-turns-preserved : goal.loop-turns-preserved
loop-turns-preserved c =
    let k = c.turn-h.auto in
    going_next c.loop-turns.invariant c.turn-h.ensures.store_after c.turn-h.ensures.n_value_2 c.turn-h.ensures.from_le_till_2
    c.turn-h.ensures.till_in_bounds_2 c.turn-h.ensures.room_in_bounds_2 k.store k.buf k.out

pub shape_of-store : goal.shape_of-store
shape_of-store c =
    c.loop-turns.invariant.store_long

pub shape_of-buf : goal.shape_of-buf
shape_of-buf c =
    c.loop-turns.invariant.window_long

pub shape_of-out : goal.shape_of-out
shape_of-out c =
    c.loop-turns.invariant.output_long
