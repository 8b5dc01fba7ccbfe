-- Segments that lie in cells of their own: those of a message do, since their counters go on by one step each and do not come round. So
-- whatever segments weigh, a message's cells weigh together as much as its segments.
-- Assumes nothing.
use Prim.Native.Nat.{ℕ, zero, suc, ◌+◌, ◌≤◌}
use mathlib.Core.Path.{◌≡◌, refl, ap, sym, ◌∙◌}
use mathlib.Core.Logic.{◌≢◌, ◌⊎◌, inl, inr, ⊎_elim}
use mathlib.Core.Bool.{Bool, true, false}
use mathlib.Core.List.{List, [], ◌∷◌}
use mathlib.Core.Option.{Option, none, some}
use native.Mathlib.Omega.{arith}
use lib.Dec.{eqb}
use Rattle.octets.specs.Octets.{pick, most32}
use Rattle.packet.specs.Numbers.{next_counter, steps_most}
use Rattle.cells.specs.Segments.{Seg, carries, reaches}
use Rattle.cells.specs.Rows.{Cell, free, held, segment_in, by_segment}
use Rattle.cells.proofs.CellSegments.{segment_or, segment_freed}
use Rattle.cells.specs.Messages.{listed, look, Role, first, middle, last, role_of, link_by, link, rest_from, or, among, among_in}
use Rattle.cells.proofs.Distinct.{carries_true, carries_yes}
use Rattle.cells.proofs.Listed.{Among, among_cases, among_first, among_more}
use Rattle.cells.proofs.Looking.{look_some}
use Rattle.cells.proofs.Reaches.{reaches_back}

-- ---- sums

-- over n numbers from i on
unfoldable pub sum : (ℕ → ℕ) → ℕ → ℕ → ℕ
sum f zero i = 0
sum f (suc n) i = f i + sum f n (suc i)

pub sum_most : (f g : ℕ → ℕ) (n i : ℕ) → ((k : ℕ) → Among n i k → f k ≤ g k) → sum f n i ≤ sum g n i
unfolding sum
sum_most f g zero i h = omega arith
sum_most f g (suc n) i h =
    let a = sum_most f g n (suc i) (λ k b. h k (among_more b)) in
    let b = h i (among_first n i) in
    omega arith

pub sum_none : (n i : ℕ) → sum (λ k. 0) n i ≡ 0
unfolding sum
sum_none zero i = refl
sum_none (suc n) i = let a = sum_none n (suc i) in omega arith

-- all are at most as much but one, which is a more or b less
pub sum_but :
    (f g : ℕ → ℕ) (a b n i j : ℕ) → Among n i j → f j + a ≤ g j + b → ((k : ℕ) → k ≢ j → Among n i k → f k ≤ g k) →
    sum f n i + a ≤ sum g n i + b
unfolding sum
sum_but f g a b zero i j m e h = absurd (omega (arith, m.low, m.top))
sum_but f g a b (suc n) i j m e h =
    go (λ l. sum_but f g a b n (suc i) j l e (λ k d q. h k d (among_more q))) (among_cases m)
  where
    go :
        (Among n (suc i) j → sum f n (suc i) + a ≤ sum g n (suc i) + b) → (j ≡ i) ⊎ Among n (suc i) j →
        f i + sum f n (suc i) + a ≤ g i + sum g n (suc i) + b
    go ih (inl d) =
        let r = sum_most f g n (suc i) (λ k q. h k (λ z. omega (arith, q.low)) (among_more q)) in
        let t : f i + a ≤ g i + b = rw d at e in
        omega arith
    go ih (inr l) =
        let r = ih l in
        let t = h i (λ z. omega (arith, l.low)) (among_first n i) in
        omega arith

-- ---- what is weighed

-- the segment in a cell, and those of a list
abbrev pub in_cell : (Seg → ℕ) → Cell → ℕ
in_cell w x = by_segment 0 w (segment_in x)

unfoldable pub weights : (Seg → ℕ) → List Seg → ℕ
weights w [] = 0
weights w (t ∷ ts) = w t + weights w ts

either_false : (a b : Bool) → pick a true b ≡ false → (a ≡ false) × (b ≡ false)
either_false true b e = let z : ◌≡◌ {A = ℕ} 0 1 = cc in absurd (omega arith)
either_false false b e = (refl, e)

-- ---- a message's segments lie in cells of their own

module _ (f : ℕ → Cell) (n : ℕ) where
  -- at most m segments, with counters from c on, one step each, each in a cell
  pub data Climbs : ℕ → ℕ → List Seg → Type 0 where
    done : {m c : ℕ} → Climbs m c []
    on : {m c : ℕ} {t : Seg} {ts : List Seg} → t.counter ≡ c → (j : ℕ) → Among n 0 j → f j ≡ held t → Climbs m (next_counter c) ts → Climbs (suc m) c (t ∷ ts)

  link_climbs :
      (m c : ℕ) (o : Option Seg) (q : Option (List Seg)) (ts : List Seg) →
      ((t : Seg) → o ≡ some t → (t.counter ≡ c) × ((j : ℕ) × Among n 0 j × (f j ≡ held t))) →
      ((us : List Seg) → q ≡ some us → Climbs m (next_counter c) us) → link o q ≡ some ts → Climbs (suc m) c ts
  link_climbs m c none q ts h ih e = let z : ◌≡◌ {A = ℕ} 0 1 = cc e in absurd (omega arith)
  link_climbs m c (some t) q ts h ih e = go (role_of t.flags) q ih e
    where
      a : (t.counter ≡ c) × ((j : ℕ) × Among n 0 j × (f j ≡ held t))
      a = h t refl

      go : (x : Role) (q : Option (List Seg)) → ((us : List Seg) → q ≡ some us → Climbs m (next_counter c) us) → link_by x t q ≡ some ts → Climbs (suc m) c ts
      go first q k d = let z : ◌≡◌ {A = ℕ} 0 1 = cc d in absurd (omega arith)
      go middle none k d = let z : ◌≡◌ {A = ℕ} 0 1 = cc d in absurd (omega arith)
      go middle (some us) k d =
          let g : t ∷ us ≡ ts = cc d in
          let w : Climbs (suc m) c (t ∷ us) = on a.0 a.1.0 a.1.1 a.1.2 (k us refl) in
          rw g at w
      go last q k d =
          let g : t ∷ [] ≡ ts = cc d in
          let w : Climbs (suc m) c (t ∷ []) = on a.0 a.1.0 a.1.1 a.1.2 done in
          rw g at w

  pub rest_climbs : (m : ℕ) (k : List ℕ) (c : ℕ) (ts : List Seg) → rest_from next_counter steps_most m (listed f n 0) k c ≡ some ts → Climbs m c ts
  unfolding rest_from
  rest_climbs zero k c ts e = let z : ◌≡◌ {A = ℕ} 0 1 = cc e in absurd (omega arith)
  rest_climbs (suc m) k c ts e =
      link_climbs m c (look (listed f n 0) k c) (rest_from next_counter steps_most m (listed f n 0) k (next_counter c)) ts here
      (λ us d. rest_climbs m k (next_counter c) us d) e
    where
      here : (t : Seg) → look (listed f n 0) k c ≡ some t → (t.counter ≡ c) × ((j : ℕ) × Among n 0 j × (f j ≡ held t))
      here t d = let a = look_some f k c n 0 t d in (sym (carries_true k c t a.3).1, (a.0, a.1, a.2))

  -- a segment with a counter that they do not reach is none of them
  climbs_past : {m c : ℕ} {ts : List Seg} → Climbs m c ts → (u : Seg) → reaches next_counter m c u.counter ≡ false → among ts u ≡ false
  unfolding among carries reaches
  climbs_past done u h = refl
  climbs_past (on {m} {c} {t} {ts} e j q d w) u h =
      let b = either_false (eqb c u.counter) (reaches next_counter m (next_counter c) u.counter) h in
      let a = climbs_past w u b.1 in
      rw (e, b.0, a) refl

  -- ---- they are freed, by any weight

  module _ (w : Seg → ℕ) where
    abbrev freed : List Seg → Cell → Cell
    freed us x = pick (among_in us x) free x

    abbrev pub left : List Seg → ℕ → ℕ
    left us j = in_cell w (freed us (f j))

    -- a cell that holds none has no weight, freed or not
    freed_nothing : (us : List Seg) (x : Cell) → segment_in x ≡ none → in_cell w (freed us x) ≡ 0
    freed_nothing us x n = ap (λ (o : Option Seg). by_segment 0 w o) (segment_freed (among_in us x) x ∙ ap (pick (among_in us x) none) n) ∙ both_none (among_in us x)
      where
        both_none : (b : Bool) → by_segment 0 w (pick b none none) ≡ 0
        both_none true = refl
        both_none false = refl

    freed_less : (u : Seg) (us : List Seg) (x : Cell) → in_cell w (freed (u ∷ us) x) ≤ in_cell w (freed us x)
    unfolding among
    freed_less u us x =
        ⊎_elim
        (λ y. rw y.1 (go y.0 (carries u.key u.counter y.0) (among us y.0)))
        (λ n. rw (freed_nothing (u ∷ us) x n, freed_nothing us x n) (omega arith))
        (segment_or x)
      where
        go : (t : Seg) (a b : Bool) → in_cell w (pick (or a b) free (held t)) ≤ in_cell w (pick b free (held t))
        go t true true = omega arith
        go t true false = omega arith
        go t false true = omega arith
        go t false false = omega arith

    freed_this : (u : Seg) (us : List Seg) (x : Cell) → x ≡ held u → among us u ≡ false → in_cell w (freed (u ∷ us) x) + w u ≤ in_cell w (freed us x) + 0
    unfolding among
    freed_this u us x e a =
        let b : carries u.key u.counter u ≡ true = carries_yes u.key u.counter u refl refl in
        rw (e, b, a) (omega arith)

    freed_none : (x : Cell) → in_cell w (freed [] x) ≤ in_cell w x
    unfolding among
    freed_none x = ⊎_elim (λ y. rw y.1 (omega arith)) (λ n. omega (arith, freed_nothing [] x n)) (segment_or x)

    pub climbs_less : {m c : ℕ} {ts : List Seg} → Climbs m c ts → m ≤ most32 → sum (left ts) n 0 + weights w ts ≤ sum (λ j. in_cell w (f j)) n 0
    unfolding weights
    climbs_less done h =
        let a = sum_most (left []) (λ j. in_cell w (f j)) n 0 (λ j m. freed_none (f j)) in
        omega arith
    climbs_less (on {m} {c} {t} {ts} e j i d x) h =
        let a = climbs_less x (omega arith) in
        let b = climbs_past x t (ap (reaches next_counter m (next_counter c)) e ∙ reaches_back m c (omega arith)) in
        let g = sum_but (left (t ∷ ts)) (left ts) (w t) 0 n 0 j i (freed_this t ts (f j) d b) (λ k z q. freed_less t ts (f k)) in
        omega arith
