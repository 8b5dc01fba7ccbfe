-- `join_recording::join_with` is safe and ends: a store of zeros is in order.
use Prim.Native.Nat.{ℕ}
use mathlib.Core.Path.{refl, sym}
use lib.ListN.{length-replicate}
use Rattle.join_recording.proofs.Turns.{begins_zero, begins_order, begins_cells, begins_spare}
use Rattle.join_recording.proofs.join_with.Goals as goal

-- a pair with the names of the clauses
named : {A B C D : Type 0} → A × (B × (C × D)) → record { zero_value : A; store_value : B; n_value : C; room_in_bounds : D }
named p = record { zero_value = p.0; store_value = p.1.0; n_value = p.1.1.0; room_in_bounds = p.1.1.1 }

pub slice_bounds-run-end : goal.slice_bounds-run-end
slice_bounds-run-end c =
    sym (length-replicate {A = ℕ} 1024 0)

pub slice_bounds-run-end-2 : goal.slice_bounds-run-end-2
slice_bounds-run-end-2 c =
    sym (length-replicate {A = ℕ} 196608 0)

pub slice_bounds-run-end-3 : goal.slice_bounds-run-end-3
slice_bounds-run-end-3 c =
    sym (length-replicate {A = ℕ} 262144 0)

pub run-stop-requires : goal.run-stop-requires
run-stop-requires c =
    named ((
      begins_zero refl,
      (
        begins_order c.args.s _ c.requires.le_n.0 c.requires.le_n.1 refl c.requires.s_value c.requires.store_value,
        (begins_cells c.args.s _ c.requires.le_n.0 c.requires.le_n.1 refl c.requires.store_value, begins_spare refl),
      ),
    ))
