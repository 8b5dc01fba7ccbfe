-- The lowest number of which a test holds: numbers of which it does not are passed over.
-- Assumes nothing.
use Prim.Native.Nat.{ℕ, zero, suc, ◌+◌, ◌-◌, ◌≤◌, ◌<◌}
use mathlib.Core.Path.{◌≡◌, refl, ap, sym, ◌∙◌}
use mathlib.Core.Logic.{◌⊎◌, inl, inr, ⊎_elim, ◌≢◌}
use mathlib.Core.Bool.{Bool, true, false, not}
use native.Mathlib.Omega.{arith}
use Rattle.octets.specs.Octets.{pick}
use Rattle.octets.proofs.Lists.{bool, below_or}
use Rattle.cells.specs.Order.{lowest, all_to}
use Rattle.cells.proofs.Scans.{one_more}
use Rattle.cells.proofs.Apart.{all_at}

pub same_or : (m n : ℕ) → (m ≡ n) ⊎ (m ≢ n)
same_or m n =
    ⊎_elim
    (λ a. inr (λ e. omega arith))
    (λ a. ⊎_elim (λ b. inr (λ e. omega arith)) (λ b. inl (omega arith)) (below_or n m))
    (below_or m n)

pub lowest_hit : (f : ℕ → Bool) (n i : ℕ) → i < n → f i ≡ true → lowest f (n - i) i ≡ i
lowest_hit f n i h e = one_more f n i h ∙ ap (λ (b : Bool). pick b i (lowest f (n - suc i) (suc i))) e

pub lowest_miss : (f : ℕ → Bool) (n i : ℕ) → i < n → f i ≡ false → lowest f (n - i) i ≡ lowest f (n - suc i) (suc i)
lowest_miss f n i h e = one_more f n i h ∙ ap (λ (b : Bool). pick b i (lowest f (n - suc i) (suc i))) e

-- d numbers from a on are passed over
lowest_over : (f : ℕ → Bool) (n a d : ℕ) → a + d ≤ n → ((k : ℕ) → a ≤ k → k < a + d → f k ≡ false) → lowest f (n - a) a ≡ lowest f (n - (a + d)) (a + d)
lowest_over f n a zero h g = let e : a ≡ a + 0 = omega arith in ap (λ (x : ℕ). lowest f (n - x) x) e
lowest_over f n a (suc d) h g =
    let e : suc a + d ≡ a + suc d = omega arith in
    lowest_miss f n a (omega arith) (g a (omega arith) (omega arith))
    ∙ lowest_over f n (suc a) d (omega arith) (λ k p q. g k (omega arith) (omega arith))
    ∙ ap (λ (x : ℕ). lowest f (n - x) x) e

pub lowest_skip : (f : ℕ → Bool) (n a b : ℕ) → a ≤ b → b ≤ n → ((k : ℕ) → a ≤ k → k < b → f k ≡ false) → lowest f (n - a) a ≡ lowest f (n - b) b
lowest_skip f n a b h l g =
    let e : a + (b - a) ≡ b = omega arith in
    lowest_over f n a (b - a) (omega arith) (λ k p q. g k p (omega arith)) ∙ ap (λ (x : ℕ). lowest f (n - x) x) e

-- where all are passed over there is none
pub lowest_none : (f : ℕ → Bool) (n a : ℕ) → a ≤ n → ((k : ℕ) → a ≤ k → k < n → f k ≡ false) → lowest f (n - a) a ≡ n
unfolding lowest
lowest_none f n a h g =
    let e : n - n ≡ 0 = omega arith in
    lowest_skip f n a n h (omega arith) g ∙ ap (λ (k : ℕ). lowest f k n) e

-- none is lower than one of which it holds
lowest_le : (f : ℕ → Bool) (k a j : ℕ) → a ≤ j → j < a + k → f j ≡ true → lowest f k a ≤ j
unfolding lowest
lowest_le f zero a j l m e = absurd (omega arith)
lowest_le f (suc k) a j l m e = go (bool (f a)) (same_or a j) (λ q. lowest_le f k (suc a) j q (omega arith) e)
  where
    go : (f a ≡ true) ⊎ (f a ≡ false) → (a ≡ j) ⊎ (a ≢ j) → (suc a ≤ j → lowest f k (suc a) ≤ j) → pick (f a) a (lowest f k (suc a)) ≤ j
    go (inl t) w ih = rw t l
    go (inr t) (inl w) ih = let u : true ≡ false = sym e ∙ ap f (sym w) ∙ t in let z : ◌≡◌ {A = ℕ} 0 1 = cc in absurd (omega arith)
    go (inr t) (inr w) ih = rw t (ih (strict (below_or a j)))
      where
        strict : (a < j) ⊎ (j ≤ a) → suc a ≤ j
        strict (inl x) = omega arith
        strict (inr x) = absurd (w (omega arith))

-- ---- none is found exactly if the test fails for each

pub all_each : (f : ℕ → Bool) (n : ℕ) → ((j : ℕ) → j < n → f j ≡ true) → all_to f n ≡ true
unfolding all_to
all_each f zero h = refl
all_each f (suc n) h = rw (all_each f n (λ j l. h j (omega arith)), h n (omega arith)) refl

pub not_is : (b : Bool) → not b ≡ true → b ≡ false
not_is true e = let z : ◌≡◌ {A = ℕ} 0 1 = cc in absurd (omega arith)
not_is false e = refl

pub none_new : (f : ℕ → Bool) (n : ℕ) → lowest f n 0 ≡ n → all_to (λ j. not (f j)) n ≡ true
none_new f n e = all_each (λ j. not (f j)) n (λ j l. ⊎_elim (λ t. absurd (out j l t)) (λ t. ap not t) (bool (f j)))
  where
    out : (j : ℕ) → j < n → f j ≡ true → ⊥
    out j l t = let w = lowest_le f n 0 j (omega arith) (omega arith) t in omega arith

pub some_known : (f : ℕ → Bool) (n : ℕ) → (lowest f n 0 ≡ n → ⊥) → all_to (λ j. not (f j)) n ≡ false
some_known f n h = ⊎_elim (λ t. absurd (h (none t))) (λ t. t) (bool (all_to (λ j. not (f j)) n))
  where
    none : all_to (λ j. not (f j)) n ≡ true → lowest f n 0 ≡ n
    none t =
        let e : n - 0 ≡ n = omega arith in
        ap (λ (k : ℕ). lowest f k 0) (sym e) ∙ lowest_none f n 0 (omega arith) (λ j p q. not_is (f j) (all_at (λ k. not (f k)) n j t q))
