-- `join_recording::join` is safe and ends: n cells are the front of the largest store.
use mathlib.Core.Path.{refl}
use Rattle.join_recording.proofs.Turns.{front_fits, front_zeros}
use Rattle.join_recording.proofs.join.Goals as goal

pub slice_bounds-store-end : goal.slice_bounds-store-end
slice_bounds-store-end c =
    front_fits _ c.requires.le_n.1 refl

pub join_with-requires : goal.join_with-requires
join_with-requires c =
    record { s_value = c.requires.s_value; le_n = c.requires.le_n; store_value = front_zeros _ c.requires.le_n.1 refl }
