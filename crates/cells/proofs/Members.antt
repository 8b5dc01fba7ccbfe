-- The segments of a message that is picked are held in cells: its first in a cell, the others as `look` finds them. And when a segment
-- has the key and counter of one of some segments.
-- Assumes nothing.
use Prim.Native.Nat.{ℕ, zero, suc}
use mathlib.Core.Path.{◌≡◌, refl, ap, sym, ◌∙◌, subst}
use mathlib.Core.Logic.{◌⊎◌, inl, inr}
use mathlib.Core.Bool.{Bool, true, false}
use mathlib.Core.List.Memᴰ
use mathlib.Core.List.{List, [], ◌∷◌, Memᴰ}
use mathlib.Core.Option.{Option, none, some, none-ne-some}
use native.Mathlib.Omega.{arith}
use Rattle.cells.specs.Segments.{Seg, carries}
use Rattle.cells.specs.Rows.{Cell, held, segment_in, by_segment}
use Rattle.cells.proofs.CellSegments.{segment_or}
use Rattle.cells.specs.Messages.{listed, look, Role, first, middle, last, role_of, Run, segments, link_by, link, opens_by, rest_from, run_from, run_in, pick_in, or, among}
use Rattle.cells.proofs.Listed.{Among, among_first, among_more}
use Rattle.cells.proofs.Distinct.{carries_true, carries_yes}
use Rattle.cells.proofs.Looking.{or_some, look_some}

-- a segment is one of these
abbrev pub In : Seg → List Seg → Type 0
In t us = Memᴰ t us

-- ---- the key and counter of one of some segments

or_yes : (a b : Bool) → (a ≡ true) ⊎ (b ≡ true) → or a b ≡ true
or_yes true b e = refl
or_yes false b (inl e) = let z : ◌≡◌ {A = ℕ} 0 1 = cc in absurd (omega arith)
or_yes false b (inr e) = e

or_cases : (a b : Bool) → or a b ≡ true → (a ≡ true) ⊎ (b ≡ true)
or_cases true b e = inl refl
or_cases false b e = inr e

pub among_yes : (us : List Seg) (t u : Seg) → In t us → t.key ≡ u.key → t.counter ≡ u.counter → among us u ≡ true
unfolding among
among_yes [] t u m p q = absurd (Memᴰ.not-nil m)
among_yes (v ∷ us) t u m p q = or_yes (carries v.key v.counter u) (among us u) (go (λ h. among_yes us t u h p q) (Memᴰ.cases_cons m))
  where
    go : (In t us → among us u ≡ true) → (t ≡ v) ⊎ In t us → (carries v.key v.counter u ≡ true) ⊎ (among us u ≡ true)
    go ih (inl e) = inl (carries_yes v.key v.counter u (ap (λ (x : Seg). x.key) (sym e) ∙ p) (ap (λ (x : Seg). x.counter) (sym e) ∙ q))
    go ih (inr h) = inr (ih h)

pub among_some : (us : List Seg) (u : Seg) → among us u ≡ true → (t : Seg) × In t us × (t.key ≡ u.key) × (t.counter ≡ u.counter)
unfolding among
among_some [] u e = let z : ◌≡◌ {A = ℕ} 0 1 = cc in absurd (omega arith)
among_some (v ∷ us) u e = go (among_some us u) (or_cases (carries v.key v.counter u) (among us u) e)
  where
    go : (among us u ≡ true → (t : Seg) × In t us × (t.key ≡ u.key) × (t.counter ≡ u.counter)) →
        (carries v.key v.counter u ≡ true) ⊎ (among us u ≡ true) → (t : Seg) × In t (v ∷ us) × (t.key ≡ u.key) × (t.counter ≡ u.counter)
    go ih (inl d) = let a = carries_true v.key v.counter u d in (v, Memᴰ.head refl, a.0, a.1)
    go ih (inr d) = let a = ih d in (a.0, Memᴰ.tail a.1, a.2, a.3)

-- ---- a run's segments

-- what a run begins with, and what follows it
link_tells : (o : Option Seg) (x : Option (List Seg)) (ts : List Seg) → link o x ≡ some ts →
    (t : Seg) × (o ≡ some t) × ((ts ≡ t ∷ []) ⊎ ((us : List Seg) × (x ≡ some us) × (ts ≡ t ∷ us)))
link_tells none x ts e = let z : ◌≡◌ {A = ℕ} 0 1 = cc in absurd (omega arith)
link_tells (some t) x ts e = (t, refl, go (role_of t.flags) x e)
  where
    go : (r : Role) (y : Option (List Seg)) → link_by r t y ≡ some ts → (ts ≡ t ∷ []) ⊎ ((us : List Seg) × (y ≡ some us) × (ts ≡ t ∷ us))
    go first y d = let z : ◌≡◌ {A = ℕ} 0 1 = cc in absurd (omega arith)
    go middle none d = let z : ◌≡◌ {A = ℕ} 0 1 = cc in absurd (omega arith)
    go middle (some us) d = let a : ts ≡ t ∷ us = cc in inr (us, refl, a)
    go last y d = let a : ts ≡ t ∷ [] = cc in inl a

opens_tells : (r : Role) (t : Seg) (x : Option (List Seg)) (m : Run) → opens_by r t x ≡ some m → (m.head ≡ t) × (x ≡ some m.rest)
opens_tells first t none m e = let z : ◌≡◌ {A = ℕ} 0 1 = cc in absurd (omega arith)
opens_tells first t (some ts) m e =
    let a : ◌≡◌ {A = Run} (record { head = t; rest = ts }) m = cc in
    (ap (λ (y : Run). y.head) (sym a), ap (λ (y : Run). some y.rest) a)
opens_tells middle t x m e = let z : ◌≡◌ {A = ℕ} 0 1 = cc in absurd (omega arith)
opens_tells last t x m e = let z : ◌≡◌ {A = ℕ} 0 1 = cc in absurd (omega arith)

module _ (next : ℕ → ℕ) (span : ℕ) (cs : List Cell) where
  -- each segment of a run is found under some counter
  rest_found : (n : ℕ) (k : List ℕ) (c : ℕ) (ts : List Seg) → rest_from next span n cs k c ≡ some ts → (t : Seg) → In t ts → (d : ℕ) × (look cs k d ≡ some t)
  unfolding rest_from
  rest_found zero k c ts e t m = let z : ◌≡◌ {A = ℕ} 0 1 = cc in absurd (omega arith)
  rest_found (suc n) k c ts e t m = go (rest_found n k (next c)) (link_tells (look cs k c) (rest_from next span n cs k (next c)) ts e)
    where
      go : ((us : List Seg) → rest_from next span n cs k (next c) ≡ some us → (u : Seg) → In u us → (d : ℕ) × (look cs k d ≡ some u)) →
          (v : Seg) × (look cs k c ≡ some v) × ((ts ≡ v ∷ []) ⊎ ((us : List Seg) × (rest_from next span n cs k (next c) ≡ some us) × (ts ≡ v ∷ us))) →
          (d : ℕ) × (look cs k d ≡ some t)
      go ih w = on w.2
        where
          at : (us : List Seg) → (In t us → (d : ℕ) × (look cs k d ≡ some t)) → (t ≡ w.0) ⊎ In t us → (d : ℕ) × (look cs k d ≡ some t)
          at us f (inl a) = (c, w.1 ∙ ap some (sym a))
          at us f (inr a) = f a

          on : (ts ≡ w.0 ∷ []) ⊎ ((us : List Seg) × (rest_from next span n cs k (next c) ≡ some us) × (ts ≡ w.0 ∷ us)) → (d : ℕ) × (look cs k d ≡ some t)
          on (inl a) = at [] (λ x. absurd (Memᴰ.not-nil x)) (Memᴰ.cases_cons (subst (In t) a m))
          on (inr a) = at a.0 (ih a.0 a.1 t) (Memᴰ.cases_cons (subst (In t) a.2 m))

  run_tells : (t : Seg) (r : Run) → run_from next span cs t ≡ some r → (r.head ≡ t) × (rest_from next span span cs t.key (next t.counter) ≡ some r.rest)
  unfolding run_from
  run_tells t r e = opens_tells (role_of t.flags) t (rest_from next span span cs t.key (next t.counter)) r e

  module _ (f : ℕ → Cell) where
    -- what is picked opens in a cell
    pub opening : (n i : ℕ) (r : Run) → pick_in next span cs (listed f n i) ≡ some r →
        (j : ℕ) × Among n i j × (f j ≡ held r.head) × (rest_from next span span cs r.head.key (next r.head.counter) ≡ some r.rest)
    unfolding pick_in listed
    opening zero i r e = let z : ◌≡◌ {A = ℕ} 0 1 = cc in absurd (omega arith)
    opening (suc n) i r e = go (opening n (suc i) r) (or_some (run_in next span cs (f i)) (pick_in next span cs (listed f n (suc i))) r e)
      where
        here : (x : Cell) → run_in next span cs x ≡ some r → (x ≡ held r.head) × (rest_from next span span cs r.head.key (next r.head.counter) ≡ some r.rest)
        here x d = by (segment_or x)
          where
            by : ((t : Seg) × (x ≡ held t)) ⊎ (segment_in x ≡ none) →
                (x ≡ held r.head) × (rest_from next span span cs r.head.key (next r.head.counter) ≡ some r.rest)
            by (inl w) =
                let a = run_tells w.0 r (sym (ap (run_in next span cs) w.1) ∙ d) in
                (w.1 ∙ ap held (sym a.0), ap (λ (y : Seg). rest_from next span span cs y.key (next y.counter)) a.0 ∙ a.1)
            by (inr n) = absurd (none-ne-some r (sym (ap (by_segment none (run_from next span cs)) n) ∙ d))

        go :
            (pick_in next span cs (listed f n (suc i)) ≡ some r →
            (j : ℕ) × Among n (suc i) j × (f j ≡ held r.head) × (rest_from next span span cs r.head.key (next r.head.counter) ≡ some r.rest)) →
            (run_in next span cs (f i) ≡ some r) ⊎ (pick_in next span cs (listed f n (suc i)) ≡ some r) →
            (j : ℕ) × Among (suc n) i j × (f j ≡ held r.head) × (rest_from next span span cs r.head.key (next r.head.counter) ≡ some r.rest)
        go ih (inl d) = let a = here (f i) d in (i, among_first n i, a.0, a.1)
        go ih (inr d) = let a = ih d in (a.0, among_more a.1, a.2, a.3)

-- each segment of a message that is picked is held in a cell
pub picked_held : (next : ℕ → ℕ) (span : ℕ) (f : ℕ → Cell) (n : ℕ) (r : Run) → pick_in next span (listed f n 0) (listed f n 0) ≡ some r → (t : Seg) → In t (segments r) →
    (j : ℕ) × Among n 0 j × (f j ≡ held t)
picked_held next span f n r e t m = go (Memᴰ.cases_cons m)
  where
    a : (j : ℕ) × Among n 0 j × (f j ≡ held r.head) × (rest_from next span span (listed f n 0) r.head.key (next r.head.counter) ≡ some r.rest)
    a = opening next span (listed f n 0) f n 0 r e

    go : (t ≡ r.head) ⊎ In t r.rest → (j : ℕ) × Among n 0 j × (f j ≡ held t)
    go (inl d) = (a.0, a.1, a.2 ∙ ap held (sym d))
    go (inr h) =
        let b = rest_found next span (listed f n 0) span r.head.key (next r.head.counter) r.rest a.3 t h in
        let c = look_some f r.head.key b.0 n 0 t b.1 in
        (c.0, c.1, c.2)
