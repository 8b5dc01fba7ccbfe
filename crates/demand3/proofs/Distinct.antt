-- Where no two cells have equal key and counter, a held segment is what is found under its own; so it is in a store in order.
-- Assumes nothing.
use Prim.Native.Nat.{ℕ, zero, suc, ◌+◌, ◌≤◌, ◌<◌}
use mathlib.Core.Path.{◌≡◌, refl, sym, ◌∙◌, ap}
use mathlib.Core.Logic.{◌⊎◌, inl, inr}
use mathlib.Core.Bool.{true, false, not, true≢false}
use mathlib.Core.Option.{some, Option}
use mathlib.Core.List.Memᴰ
use mathlib.Core.List.{List, [], ◌∷◌, Memᴰ}
use native.Mathlib.Omega.{arith}
use Rattle.octets.proofs.Lists.{bool}
use Rattle.walk.specs.declared.Settings.{Settings}
use Rattle.cells.specs.Segments.{Seg, carries}
use Rattle.cells.specs.Rows.{Cell, held}
use Rattle.cells.specs.Order.{carries_in, cell_at, all_to, new_to, new_at, distinct}
use Rattle.cells.proofs.Apart.{all_at}
use Rattle.cells.proofs.Lowest.{not_is}
use Rattle.cells.specs.Messages.{listed, cells_of, look, or_else, held_as}
use Rattle.cells.proofs.Distinct.{carries_yes, carries_held}
use Rattle.cells.proofs.Looking.{held_yes, held_none}
use Rattle.demand3.specs.Complete.{Held, Distinct, Single}

-- ---- lists of cells

distinct_tail : (x : Cell) (cs : List Cell) → Distinct (x ∷ cs) → Distinct cs
distinct_tail x cs d p q t u e = d (x ∷ p) q t u (ap (λ (y : List Cell). x ∷ y) e)

pub distinct_single : (cs : List Cell) → Distinct cs → Single cs
unfolding look
distinct_single [] d t m = absurd (Memᴰ.not-nil m)
distinct_single (x ∷ cs) d t m =
    go (distinct_single cs (distinct_tail x cs d) t) (Memᴰ.cases_cons m) (bool (carries_in t.key t.counter x))
  where
    go : (Held t cs → look cs t.key t.counter ≡ some t) → (held t ≡ x) ⊎ Held t cs →
        (carries_in t.key t.counter x ≡ true) ⊎ (carries_in t.key t.counter x ≡ false) →
        or_else (held_as t.key t.counter x) (look cs t.key t.counter) ≡ some t
    go ih (inl e) b =
        ap (λ (o : Option Seg). or_else o (look cs t.key t.counter))
        (held_yes t.key t.counter x t (sym e) (carries_yes t.key t.counter t refl refl))
    go ih (inr h) (inl b) =
        let q = carries_held t.key t.counter x b in
        absurd (d [] cs q.0 t (ap (λ (y : Cell). y ∷ cs) q.1) h (sym q.2) (sym q.3))
    go ih (inr h) (inr b) = ap (λ (o : Option Seg). or_else o (look cs t.key t.counter)) (held_none t.key t.counter x b) ∙ ih h

-- ---- a store's octets

-- a listed element has a number
pub listed_at : {A : Type 0} (f : ℕ → A) (n i : ℕ) (x : A) → Memᴰ x (listed f n i) → (j : ℕ) × (i ≤ j) × (j < n + i) × (x ≡ f j)
unfolding listed
listed_at f zero i x m = absurd (Memᴰ.not-nil m)
listed_at {A} f (suc n) i x m = go (listed_at f n (suc i) x) (Memᴰ.cases_cons m)
  where
    go : (Memᴰ x (listed f n (suc i)) → (j : ℕ) × (suc i ≤ j) × (j < n + suc i) × (x ≡ f j)) →
        (x ≡ f i) ⊎ Memᴰ x (listed f n (suc i)) →
        (j : ℕ) × (i ≤ j) × (j < suc n + i) × (x ≡ f j)
    go ih (inl e) = (i, omega arith, omega arith, e)
    go ih (inr h) = let z = ih h in (z.0, omega (arith, z.1), omega (arith, z.2), z.3)

-- a list of cells of which no later one has the key and counter of an earlier one
listed_distinct : (f : ℕ → Cell) (n i : ℕ) →
    ((a b : ℕ) (t u : Seg) → i ≤ a → a < b → b < n + i → f a ≡ held t → f b ≡ held u → carries u.key u.counter t ≡ false) →
    Distinct (listed f n i)
unfolding listed
listed_distinct f zero i h [] q t u e m k c = absurd (let z : ◌≡◌ {A = ℕ} 0 1 = cc in omega arith)
listed_distinct f zero i h (x ∷ p) q t u e m k c = absurd (let z : ◌≡◌ {A = ℕ} 0 1 = cc in omega arith)
listed_distinct f (suc n) i h [] q t u e m k c =
    let a : f i ≡ held t = cc e in
    let b : listed f n (suc i) ≡ q = cc e in
    let z = listed_at f n (suc i) (held u) (rw (← b) at m) in
    true≢false (sym (carries_yes u.key u.counter t (sym k) (sym c))
    ∙ h i z.0 t u (omega arith) (omega (arith, z.1)) (omega (arith, z.2)) a (sym z.3))
listed_distinct f (suc n) i h (x ∷ p) q t u e m k c =
    listed_distinct f n (suc i) (λ a b v w l o g. h a b v w (omega arith) o (omega arith)) p q t u (cc e) m k c

-- no two cells of a store in order have equal key and counter
pub order_distinct : (s : Settings) (Z : ℕ) (st : List ℕ) (n : ℕ) → distinct s Z st n ≡ true → Distinct (cells_of s Z st n)
unfolding distinct new_at new_to
order_distinct s Z st n e = listed_distinct (cell_at s Z st) n 0 two_cells
  where
    two_cells : (a b : ℕ) (t u : Seg) → 0 ≤ a → a < b → b < n + 0 → cell_at s Z st a ≡ held t → cell_at s Z st b ≡ held u →
        carries u.key u.counter t ≡ false
    two_cells a b t u o l m p q =
        let f : new_at s Z st b (cell_at s Z st b) ≡ true = all_at (λ i. new_at s Z st i (cell_at s Z st i)) n b e (omega arith) in
        let g : all_to (λ j. not (carries_in u.key u.counter (cell_at s Z st j))) b ≡ true = ap (new_at s Z st b) (sym q) ∙ f in
        let h : not (carries_in u.key u.counter (cell_at s Z st a)) ≡ true =
        all_at (λ j. not (carries_in u.key u.counter (cell_at s Z st j))) b a g l in
        not_is (carries u.key u.counter t) (ap (λ (x : Cell). not (carries_in u.key u.counter x)) (sym p) ∙ h)

pub order_single : (s : Settings) (Z : ℕ) (st : List ℕ) (n : ℕ) → distinct s Z st n ≡ true → Single (cells_of s Z st n)
order_single s Z st n e = distinct_single (cells_of s Z st n) (order_distinct s Z st n e)
