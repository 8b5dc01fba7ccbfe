-- Things listed by number: listed alike where each is alike; the list with each thing changed; the lowest number of which a test holds.
-- Assumes nothing.
use Prim.Native.Nat.{ℕ, zero, suc, ◌+◌, ◌≤◌, ◌<◌}
use mathlib.Core.Path.{◌≡◌, refl, ap, ap₂, sym, ◌∙◌}
use mathlib.Core.Logic.{◌⊎◌, inl, inr, ⊎_elim}
use mathlib.Core.Bool.{Bool, true, false}
use mathlib.Core.List.{◌∷◌, map}
use native.Mathlib.Omega.{arith}
use Rattle.octets.proofs.Lists.{bool, below_or}
use Rattle.cells.specs.Rows.{Cell, free, held, taken, broken}
use Rattle.cells.specs.Order.{is_free, lowest}
use Rattle.cells.specs.Messages.{listed}

-- a number among the n from i on
pub record Among (n i j : ℕ) : Type 0 where
  pub low : i ≤ j
  pub top : j < i + n

pub among_below : {n j : ℕ} → j < n → Among n 0 j
among_below h = record { low = omega arith; top = omega arith }

pub among_more : {n i j : ℕ} → Among n (suc i) j → Among (suc n) i j
among_more a = record { low = omega (arith, a.low); top = omega (arith, a.top) }

pub among_first : (n i : ℕ) → Among (suc n) i i
among_first n i = record { low = omega arith; top = omega arith }

pub among_cases : {n i j : ℕ} → Among (suc n) i j → (j ≡ i) ⊎ Among n (suc i) j
among_cases {n} {i} {j} a = go (below_or i j)
  where
    go : (i < j) ⊎ (j ≤ i) → (j ≡ i) ⊎ Among n (suc i) j
    go (inl h) = inr (record { low = omega arith; top = omega (arith, a.top) })
    go (inr h) = inl (omega (arith, a.low))

-- ---- listed alike

pub listed_same : {A : Type 0} (f g : ℕ → A) (n i : ℕ) → ((j : ℕ) → Among n i j → f j ≡ g j) → listed f n i ≡ listed g n i
unfolding listed
listed_same f g zero i h = refl
listed_same f g (suc n) i h = ap₂ ◌∷◌ (h i (among_first n i)) (listed_same f g n (suc i) (λ j a. h j (among_more a)))

pub listed_map : {A B : Type 0} (h : A → B) (f : ℕ → A) (n i : ℕ) → map h (listed f n i) ≡ listed (λ j. h (f j)) n i
unfolding listed
listed_map h f zero i = refl
listed_map h f (suc n) i = ap (λ xs. h (f i) ∷ xs) (listed_map h f n (suc i))

-- ---- the lowest

module _ (f : ℕ → Bool) where
  pub lowest_end : (i : ℕ) → lowest f 0 i ≡ i
  unfolding lowest
  lowest_end i = refl

  pub lowest_hit : (n i : ℕ) → f i ≡ true → lowest f (suc n) i ≡ i
  unfolding lowest
  lowest_hit n i e = rw e refl

  pub lowest_miss : (n i : ℕ) → f i ≡ false → lowest f (suc n) i ≡ lowest f n (suc i)
  unfolding lowest
  lowest_miss n i e = rw e refl

  -- where the test holds of one, it holds of the lowest, which is there and no higher; below it the test holds of none
  pub record Lowest (n i k : ℕ) : Type 0 where
    pub place : lowest f n i ≡ k
    pub there : Among n i k
    pub holds : f k ≡ true
    pub none : (j : ℕ) → i ≤ j → j < k → f j ≡ false

  pub lowest_is : (n i : ℕ) → lowest f n i < i + n → Lowest n i (lowest f n i)
  unfolding lowest
  lowest_is zero i h = absurd (omega arith)
  lowest_is (suc n) i h = go (lowest_is n (suc i)) (bool (f i))
    where
      go : (lowest f n (suc i) < suc i + n → Lowest n (suc i) (lowest f n (suc i))) → (f i ≡ true) ⊎ (f i ≡ false) → Lowest (suc n) i (lowest f (suc n) i)
      go ih (inl e) =
          let k = lowest_hit n i e in
          record { place = refl; there = rw k (among_first n i); holds = rw k e; none = λ j a b. absurd (omega (arith, k)) }
      go ih (inr e) =
          let k = lowest_miss n i e in
          let l = ih (omega (arith, k)) in
          record {
            place = refl;
            there = rw k (among_more l.there);
            holds = rw k l.holds;
            none = λ j a b. ⊎_elim (λ c. l.none j c (omega (arith, k))) (λ c. let d : i ≡ j = omega arith in ap f (sym d) ∙ e) (below_or i j);
          }

  pub lowest_some : (n i j : ℕ) → Among n i j → f j ≡ true → lowest f n i ≤ j
  lowest_some zero i j a e = absurd (omega (arith, a.low, a.top))
  lowest_some (suc n) i j a e = go (lowest_some n (suc i) j) (bool (f i)) (among_cases a)
    where
      go : (Among n (suc i) j → f j ≡ true → lowest f n (suc i) ≤ j) → (f i ≡ true) ⊎ (f i ≡ false) → (j ≡ i) ⊎ Among n (suc i) j → lowest f (suc n) i ≤ j
      go ih (inl d) b = omega (arith, lowest_hit n i d, a.low)
      go ih (inr d) (inl b) = let z : true ≡ false = sym e ∙ ap f b ∙ d in absurd (let y : ◌≡◌ {A = ℕ} 0 1 = cc in omega arith)
      go ih (inr d) (inr b) = omega (arith, lowest_miss n i d, ih b e)

-- a cell that is told as free
pub is_free_lem : (c : Cell) → is_free c ≡ true → c ≡ free
is_free_lem free e = refl
is_free_lem (held t) e = let z : ◌≡◌ {A = ℕ} 0 1 = cc in absurd (omega arith)
is_free_lem (taken g) e = let z : ◌≡◌ {A = ℕ} 0 1 = cc in absurd (omega arith)
is_free_lem broken e = let z : ◌≡◌ {A = ℕ} 0 1 = cc in absurd (omega arith)
