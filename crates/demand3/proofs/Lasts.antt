-- A complete message lasts until it is taken, whatever arrives and whatever else is taken, room or no room: what is held is never
-- written over, and a segment with the key and counter of a held one is not stored.
-- Assumes nothing.
use Prim.Native.Nat.{ℕ, ◌≤◌}
use mathlib.Core.Path.{◌≡◌, sym, ◌∙◌, ap}
use mathlib.Core.Logic.{◌≢◌, ◌⊎◌, inl, inr}
use mathlib.Core.Option.{none, some-ne-none, some-injective}
use mathlib.Core.List.{List, [], ◌∷◌, ◌++◌}
use lib.ListN.{length}
use Rattle.cells.specs.Segments.{Seg}
use Rattle.cells.specs.Rows.{Cell}
use Rattle.cells.specs.Messages.{Run, segments, look}
use Rattle.taking.specs.Taking.{message}
use Rattle.demand3.specs.Cells.{put, clear, forgotten}
use Rattle.demand3.specs.Complete.{Held, Single, Complete}
use Rattle.demand3.specs.Traffic.{Event, takes, taken_from, stepped, after}
use Rattle.demand3.proofs.Looks.{carries_no, look_same, put_other, clear_kept}
use Rattle.demand3.proofs.Links.{Opened}
use Rattle.demand3.proofs.Finds.{There, Found, found_opened, found_there}
use Rattle.demand3.proofs.Exactly.{there_complete, complete_found, rest_short}
use Rattle.demand3.proofs.Beside.{among_none, among_carried, put_single, clear_single, Beside, Off}
use Rattle.demand3.proofs.Takings.{step_keeps, taken_apart}
use Rattle.demand3.proofs.Forgets.{look_forgotten, forgotten_single}
use Rattle.demand3.proofs.Keeps.{Left, left_tail, left_first}

-- all of a message is held, each segment in one cell
pub record Whole (own : Run) (cs : List Cell) : Type 0 where
  pub single : Single cs
  pub there : There cs (segments own)

pub whole_beside : (own : Run) (cs : List Cell) → Whole own cs → Beside own cs
whole_beside own cs w = record { single = w.single; only = λ t u m e. some-injective u t (sym e ∙ w.there t m) }

-- a new segment is put beside it
put_whole : (own : Run) (cs : List Cell) (t : Seg) → look cs t.key t.counter ≡ none → Whole own cs → Whole own (put cs t)
put_whole own cs t n w = record { single = put_single cs t n w.single; there = still }
  where
    still : There (put cs t) (segments own)
    still u m =
        put_other cs t u.key u.counter
        (carries_no u.key u.counter t (λ p q. some-ne-none u (sym (w.there u m) ∙ look_same cs u t p q ∙ n)))
        ∙ w.there u m

-- others' cells are given up
pub clear_whole : (own : Run) (cs : List Cell) (r : Run) → Off own (segments r) → Whole own cs → Whole own (clear r cs)
clear_whole own cs r o w = record { single = clear_single r cs w.single; there = still }
  where
    still : There (clear r cs) (segments own)
    still t m =
        clear_kept r cs t.key t.counter (λ u e. among_carried (segments r) t u (among_none (segments r) t (λ s k. o s t k m)) e)
        ∙ w.there t m

-- a record is forgotten
forgotten_whole : (own : Run) (i : ℕ) (cs : List Cell) → Whole own cs → Whole own (forgotten i cs)
forgotten_whole own i cs w =
    record { single = forgotten_single i cs w.single; there = λ t m. look_forgotten i cs t.key t.counter ∙ w.there t m }

module _ (next : ℕ → ℕ) (span : ℕ) (inj : (x y : ℕ) → next x ≡ next y → x ≡ y) where
  module _ (own : Run) (o : Opened next own) where
    whole_step : (cs : List Cell) (e : Event) (es : List Event) → Left next span inj own o cs (e ∷ es) → Whole own cs →
        Whole own (stepped next span cs e)
    whole_step cs e es l w =
        step_keeps next span (Whole own) cs e w (λ t d v n. put_whole own cs t n w)
        (λ long r d g. other long r d g (taken_apart next span inj own o cs (whole_beside own cs w) long r g))
        (λ i d. forgotten_whole own i cs w)
      where
        other : (long : ℕ) (r : Run) → e ≡ takes long → taken_from next span cs long ≡ message r → (r ≡ own) ⊎ Off own (segments r) →
            Whole own (clear r cs)
        other long r d g (inl q) =
            absurd (left_first next span inj own o cs long es (rw d at l) (g ∙ ap message q))
        other long r d g (inr q) = clear_whole own cs r q w

    pub whole_after : (es : List Event) (cs : List Cell) → Left next span inj own o cs es → Whole own cs →
        Whole own (after next span cs es)
    unfolding after
    whole_after [] cs l w = w
    whole_after (e ∷ es) cs l w =
        whole_after es (stepped next span cs e) (left_tail next span inj own o cs e es l) (whole_step cs e es l w)

  -- a complete message stays complete until it is taken
  pub complete_lasts :
      (cs : List Cell) → Single cs → (k : List ℕ) (c n : ℕ) → Complete next span cs k c n → (es : List Event) →
      ((p q : List Event) (long : ℕ) (r : Run) → es ≡ p ++ takes long ∷ q →
      taken_from next span (after next span cs p) long ≡ message r → r.head.key ≡ k → r.head.counter ≢ c) →
      Complete next span (after next span cs es) k c n
  complete_lasts cs s k c n d es u =
      let w =
      whole_after own o es cs
      (λ p q long x y. u p q long own x y z.3 z.4) record { single = s; there = found_there next span cs own s z.1 f } in
      let v = there_complete next span (after next span cs es) own o short w.there in
      rw (z.3, z.4, z.5) at v
    where
      z : (r : Run) × Held r.head cs × Found next span cs r × (r.head.key ≡ k) × (r.head.counter ≡ c) × (length r.rest ≡ n)
      z = complete_found next span cs s k c n d

      own : Run
      own = z.0

      f : Found next span cs own
      f = z.2

      o : Opened next own
      o = found_opened next span cs own f

      short : length own.rest ≤ span
      short = rest_short next span span cs own.head.key (next own.head.counter) own.rest f.finds
