-- What holds in any run from an empty store, whatever arrives, room or no room: taking picks a message exactly where one is complete,
-- and what it picks is complete and lies lowest; every complete message stays so until it is taken, and is handed out within as many
-- takes as there are cells.
-- Assumes nothing.
use Prim.Native.Nat.{ℕ, ◌≤◌}
use mathlib.Core.Path.{◌≡◌}
use mathlib.Core.Logic.{◌≢◌, ◌↔◌}
use mathlib.Core.Option.{some}
use mathlib.Core.List.{List, ◌∷◌, ◌++◌}
use lib.ListN.{length}
use Rattle.cells.specs.Rows.{Cell}
use Rattle.cells.specs.Messages.{Run, picked}
use Rattle.taking.specs.Taking.{message}
use Rattle.demand3.specs.Complete.{Single, Complete}
use Rattle.demand3.specs.Traffic.{Event, takes, empty, taken_from, after}
use Rattle.demand3.specs.Promise.{LongEnough, HandsOut}
use Rattle.demand3.proofs.Exactly.{Picks, picked_complete, picked_exactly}
use Rattle.demand3.proofs.Takings.{single_after, single_empty}
use Rattle.demand3.proofs.Lasts.{complete_lasts}
use Rattle.demand3.proofs.Progress.{progress}
use Rattle.demand3.proofs.Rooms.{cells_length}

module _ (next : ℕ → ℕ) (span : ℕ) (cells : ℕ) (es : List Event) where
  -- the cells after the run
  abbrev pub now : List Cell
  now = after next span (empty cells) es

  pub run_single : Single now
  run_single = single_after next span es (empty cells) (single_empty cells)

  pub run_picks : (r : Run) → picked next span now ≡ some r → Picks next span now r
  run_picks r e = picked_complete next span now run_single r e

  pub run_exactly :
      ((r : Run) × (picked next span now ≡ some r)) ↔ ((k : List ℕ) × (c : ℕ) × (n : ℕ) × Complete next span now k c n)
  run_exactly = picked_exactly next span now run_single

  module _ (inj : (x y : ℕ) → next x ≡ next y → x ≡ y) (k : List ℕ) (c n : ℕ) (d : Complete next span now k c n) where
    pub run_progress :
        (ns : List ℕ) → cells ≤ length ns → LongEnough next span now ns →
        HandsOut next span (λ (r : Run). (r.head.key ≡ k) × (r.head.counter ≡ c) × (length r.rest ≡ n)) now ns
    run_progress ns l e = progress next span inj now run_single k c n d ns (rw (cells_length next span es cells) l) e

    pub run_lasts :
        (more : List Event) →
        ((p q : List Event) (long : ℕ) (r : Run) → more ≡ p ++ takes long ∷ q →
        taken_from next span (after next span now p) long ≡ message r → r.head.key ≡ k → r.head.counter ≢ c) →
        Complete next span (after next span now more) k c n
    run_lasts more u = complete_lasts next span inj now run_single k c n d more u
