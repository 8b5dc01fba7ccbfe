-- Takes one after the other, each with output long enough, hand out every complete message within as many takes as there are cells:
-- each leaves fewer cells that hold a segment, and none touches a message that it does not take.
-- Assumes nothing.
use Prim.Native.Nat.{ℕ, ◌≤◌, ◌<◌}
use mathlib.Core.Path.{◌≡◌, refl, sym, ◌∙◌, ap}
use mathlib.Core.Logic.{◌⊎◌, inl, inr}
use mathlib.Core.Bool.{true, false, false≢true, Bool}
use mathlib.Core.Option.{some}
use mathlib.Core.List.Memᴰ
use mathlib.Core.List.{List, [], ◌∷◌, ◌++◌, map}
use native.Mathlib.Omega.{arith}
use lib.ListN.{length}
use Rattle.octets.specs.Octets.{pick}
use Rattle.cells.specs.Rows.{Cell, held, segment_in, by_segment}
use Rattle.cells.specs.Messages.{Run, segments, picked, among_in}
use Rattle.taking.specs.Taking.{message, writing}
use Rattle.demand3.specs.Cells.{left, freed, clear}
use Rattle.demand3.specs.Complete.{Held, Single, Complete}
use Rattle.demand3.specs.Traffic.{takes, taken_from, stepped, after}
use Rattle.demand3.specs.Promise.{LongEnough, HandsOut}
use Rattle.demand3.proofs.Looks.{look_held, left_none}
use Rattle.demand3.proofs.Links.{Opened}
use Rattle.demand3.proofs.Finds.{There, Found, found_opened, found_there, rest_all, picked_lowest, picked_held, picked_some}
use Rattle.demand3.proofs.Exactly.{complete_found, rest_short}
use Rattle.demand3.proofs.Beside.{among_mem, Off, found_apart}
use Rattle.demand3.proofs.Takings.{picked_taken, taken_cells}
use Rattle.demand3.proofs.Tally.{number_of, number_most, number_some, number_fewer}
use Rattle.demand3.proofs.Lasts.{Whole, whole_beside, clear_whole}

-- ---- how many cells hold a segment

abbrev pub holds_one : Cell → Bool
holds_one x = by_segment false (λ t. true) (segment_in x)

-- a cell that is given up holds none
given_up : (r : Run) (x : Cell) → holds_one (freed r x) ≡ true → holds_one x ≡ true
given_up r x e = go (among_in (segments r) x) e
  where
    go : (b : Bool) → holds_one (pick b (left r x) x) ≡ true → holds_one x ≡ true
    go true d = absurd (false≢true (sym (ap (by_segment false (λ t. true)) (left_none r x)) ∙ d))
    go false d = d

own_given_up : (r : Run) → holds_one (freed r (held r.head)) ≡ false
own_given_up r =
    ap (λ (b : Bool). holds_one (pick b (left r (held r.head)) (held r.head))) (among_mem (segments r) r.head (Memᴰ.head refl))
    ∙ ap (by_segment false (λ t. true)) (left_none r (held r.head))

-- so each taking leaves fewer
pub held_fewer : (r : Run) (cs : List Cell) → Held r.head cs → number_of holds_one (clear r cs) < number_of holds_one cs
held_fewer r cs h = number_fewer holds_one (freed r) (given_up r) cs (held r.head) h refl (own_given_up r)

-- ---- takes, one after the other

module _ (next : ℕ → ℕ) (span : ℕ) (inj : (x y : ℕ) → next x ≡ next y → x ≡ y) where
  module _ (own : Run) (o : Opened next own) (fits : length own.rest ≤ span) where
    -- the message is found where all of it is there
    pub own_found : (cs : List Cell) → There cs (segments own) → Held own.head cs × Found next span cs own
    own_found cs f = (
      (look_held cs own.head.key own.head.counter own.head (f own.head (Memᴰ.head refl))).0,
      record {
        opens = o.opens;
        finds =
            rest_all next span span cs own.head.key (next own.head.counter) own.rest o.follows fits
            (λ t m. f t (Memᴰ.tail m));
      },
    )

    -- a message all of which is there is handed out
    pub hand_out :
        (ns : List ℕ) (cs : List Cell) → Whole own cs → number_of holds_one cs ≤ length ns → LongEnough next span cs ns →
        HandsOut next span (λ (r : Run). r ≡ own) cs ns
    unfolding after
    hand_out [] cs w l e =
        absurd (let h = number_some holds_one cs (held own.head) (own_found cs w.there).0 refl in omega arith)
    hand_out (n ∷ ns) cs w l e =
        go (hand_out ns) (picked_some next span cs own (own_found cs w.there).0 (own_found cs w.there).1) e
      where
        go : ((xs : List Cell) → Whole own xs → number_of holds_one xs ≤ length ns →
            LongEnough next span xs ns → HandsOut next span (λ (r : Run). r ≡ own) xs ns) →
            (r : Run) × (picked next span cs ≡ some r) →
            ((x y : List ℕ) (long : ℕ) (r : Run) → n ∷ ns ≡ x ++ long ∷ y →
            picked next span (after next span cs (map takes x)) ≡ some r → length (writing r) ≤ long) →
            (x : List ℕ) × (long : ℕ) × (y : List ℕ) × (n ∷ ns ≡ x ++ long ∷ y) ×
            ((r : Run) × (taken_from next span (after next span cs (map takes x)) long ≡ message r) × (r ≡ own))
        go ih z e' =
            by (found_apart next span inj own o cs (whole_beside own cs w) r (picked_held next span cs r z.1)
            (picked_lowest next span cs r z.1).1)
          where
            r : Run
            r = z.0

            takes_it : taken_from next span cs n ≡ message r
            takes_it = picked_taken next span cs n r z.1 (e' [] ns n r refl z.1)

            further : HandsOut next span (λ (u : Run). u ≡ own) (stepped next span cs (takes n)) ns →
                (x : List ℕ) × (long : ℕ) × (y : List ℕ) × (n ∷ ns ≡ x ++ long ∷ y) ×
                ((v : Run) × (taken_from next span (after next span cs (map takes x)) long ≡ message v) × (v ≡ own))
            further v = (n ∷ v.0, v.1, v.2, ap (λ (g : List ℕ). n ∷ g) v.3, v.4)

            by : (r ≡ own) ⊎ Off own (segments r) →
                (x : List ℕ) × (long : ℕ) × (y : List ℕ) × (n ∷ ns ≡ x ++ long ∷ y) ×
                ((v : Run) × (taken_from next span (after next span cs (map takes x)) long ≡ message v) × (v ≡ own))
            by (inl d) = ([], n, ns, refl, (r, takes_it, d))
            by (inr q) =
                let c : stepped next span cs (takes n) ≡ clear r cs = taken_cells next span cs n r takes_it in
                let f : number_of holds_one (clear r cs) < number_of holds_one cs = held_fewer r cs (picked_held next span cs r z.1) in
                further
                (ih (stepped next span cs (takes n)) (rw c (clear_whole own cs r q w)) (rw c (omega arith))
                (λ x y k u d. e' (n ∷ x) y k u (ap (λ (g : List ℕ). n ∷ g) d)))

  -- every complete message is handed out
  pub progress :
      (cs : List Cell) → Single cs → (k : List ℕ) (c n : ℕ) → Complete next span cs k c n → (ns : List ℕ) → length cs ≤ length ns →
      LongEnough next span cs ns →
      HandsOut next span (λ (r : Run). (r.head.key ≡ k) × (r.head.counter ≡ c) × (length r.rest ≡ n)) cs ns
  progress cs s k c n d ns l e =
      let v =
      hand_out own (found_opened next span cs own f) short ns cs w (omega (arith, number_most holds_one cs)) e in
      (v.0, v.1, v.2, v.3, (v.4.0, v.4.1, its v.4.0 v.4.2))
    where
      z : (r : Run) × Held r.head cs × Found next span cs r × (r.head.key ≡ k) × (r.head.counter ≡ c) × (length r.rest ≡ n)
      z = complete_found next span cs s k c n d

      own : Run
      own = z.0

      f : Found next span cs own
      f = z.2

      short : length own.rest ≤ span
      short = rest_short next span span cs own.head.key (next own.head.counter) own.rest f.finds

      all : There cs (segments own)
      all = found_there next span cs own s z.1 f

      w : Whole own cs
      w = record { single = s; there = all }

      its : (r : Run) → r ≡ own → (r.head.key ≡ k) × (r.head.counter ≡ c) × (length r.rest ≡ n)
      its r q = (
        ap (λ (x : Run). x.head.key) q ∙ z.3,
        ap (λ (x : Run). x.head.counter) q ∙ z.4,
        ap (λ (x : Run). length x.rest) q ∙ z.5,
      )
