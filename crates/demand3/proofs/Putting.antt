-- A segment put into the lowest free cell of a list, and whether there is such a cell; and a record forgotten in a list of cells.
-- Assumes nothing.
use Prim.Native.Nat.{ℕ, zero, suc, ◌+◌, ◌≤◌, ◌<◌}
use mathlib.Core.Path.{◌≡◌, refl, ap, ap₂, sym, ◌∙◌}
use mathlib.Core.Logic.{◌≢◌, ◌⊎◌, inl, inr}
use mathlib.Core.Bool.{Bool, true, false}
use mathlib.Core.List.{List, ◌∷◌}
use native.Mathlib.Omega.{arith}
use lib.Dec.{ltb}
use borrow.Author.Tests.{lt-ltb, le-ltb}
use Rattle.octets.specs.Octets.{pick}
use Rattle.octets.proofs.Lists.{bool}
use Rattle.cells.specs.Segments.{Seg}
use Rattle.cells.specs.Rows.{Cell, free, held}
use Rattle.cells.specs.Order.{is_free, lowest}
use Rattle.cells.specs.Messages.{listed, or}
use Rattle.cells.proofs.Listed.{listed_same, lowest_end, lowest_hit, lowest_miss, lowest_is}
use Rattle.taking.specs.Forgetting.{is_record}
use Rattle.demand3.specs.Cells.{put, has_free, forgotten}

pub put_free : (c : Cell) (xs : List Cell) (t : Seg) → is_free c ≡ true → put (c ∷ xs) t ≡ held t ∷ xs
unfolding put
put_free c xs t e = ap (λ (b : Bool). pick b (held t ∷ xs) (c ∷ put xs t)) e

pub put_on : (c : Cell) (xs : List Cell) (t : Seg) → is_free c ≡ false → put (c ∷ xs) t ≡ c ∷ put xs t
unfolding put
put_on c xs t e = ap (λ (b : Bool). pick b (held t ∷ xs) (c ∷ put xs t)) e

-- g is f but for the lowest free cell, which holds t
pub listed_put :
    (f g : ℕ → Cell) (t : Seg) (n i k : ℕ) → lowest (λ j. is_free (f j)) n i ≡ k → k < i + n → g k ≡ held t → ((j : ℕ) → j ≢ k → g j ≡ f j) →
    listed g n i ≡ put (listed f n i) t
unfolding listed
listed_put f g t zero i k e l h o = absurd (omega (arith, e, lowest_end (λ j. is_free (f j)) i))
listed_put f g t (suc n) i k e l h o = go (listed_put f g t n (suc i) k) (bool (is_free (f i)))
  where
    go : (lowest (λ j. is_free (f j)) n (suc i) ≡ k → k < suc i + n → g k ≡ held t → ((j : ℕ) → j ≢ k → g j ≡ f j) → listed g n (suc i) ≡ put (listed f n (suc i)) t) →
        (is_free (f i) ≡ true) ⊎ (is_free (f i) ≡ false) → g i ∷ listed g n (suc i) ≡ put (f i ∷ listed f n (suc i)) t
    go ih (inl d) =
        let a : i ≡ k = sym (lowest_hit (λ j. is_free (f j)) n i d) ∙ e in
        ap₂ ◌∷◌ (ap g a ∙ h) (listed_same g f n (suc i) (λ j b. o j (λ c. omega (arith, b.low))))
        ∙ sym (put_free (f i) (listed f n (suc i)) t d)
    go ih (inr d) =
        let a : lowest (λ j. is_free (f j)) n (suc i) ≡ k = sym (lowest_miss (λ j. is_free (f j)) n i d) ∙ e in
        let b = lowest_is (λ j. is_free (f j)) n (suc i) (omega arith) in
        ap₂ ◌∷◌ (o i (λ c. omega (arith, b.there.low))) (ih a (omega arith) h o)
        ∙ sym (put_on (f i) (listed f n (suc i)) t d)

-- some cell is free exactly if the lowest free one is there
pub listed_free : (f : ℕ → Cell) (n i : ℕ) → has_free (listed f n i) ≡ ltb (lowest (λ j. is_free (f j)) n i) (i + n)
unfolding listed has_free
listed_free f zero i = let h : i + 0 ≤ lowest (λ j. is_free (f j)) 0 i = omega (arith, lowest_end (λ j. is_free (f j)) i) in sym (le-ltb (lowest (λ j. is_free (f j)) 0 i) (i + 0) h)
listed_free f (suc n) i = go (listed_free f n (suc i)) (bool (is_free (f i)))
  where
    go : has_free (listed f n (suc i)) ≡ ltb (lowest (λ j. is_free (f j)) n (suc i)) (suc i + n) → (is_free (f i) ≡ true) ⊎ (is_free (f i) ≡ false) →
        or (is_free (f i)) (has_free (listed f n (suc i))) ≡ ltb (lowest (λ j. is_free (f j)) (suc n) i) (i + suc n)
    go ih (inl e) =
        let h : lowest (λ j. is_free (f j)) (suc n) i < i + suc n = omega (arith, lowest_hit (λ j. is_free (f j)) n i e) in
        ap (λ (b : Bool). or b (has_free (listed f n (suc i)))) e ∙ sym (lt-ltb (lowest (λ j. is_free (f j)) (suc n) i) (i + suc n) h)
    go ih (inr e) =
        let k : suc i + n ≡ i + suc n = omega arith in
        ap (λ (b : Bool). or b (has_free (listed f n (suc i)))) e
        ∙ ih
        ∙ ap₂ ltb (sym (lowest_miss (λ j. is_free (f j)) n i e)) k

-- ---- a record is forgotten

-- g is f but for cell x, which had a record and is free
pub listed_forgotten :
    (f g : ℕ → Cell) (n i k x : ℕ) → x ≡ i + k → k < n → is_record (f x) ≡ true → g x ≡ free → ((j : ℕ) → j ≢ x → g j ≡ f j) →
    listed g n i ≡ forgotten k (listed f n i)
unfolding listed forgotten
listed_forgotten f g zero i k x e l r h o = absurd (omega arith)
listed_forgotten f g (suc n) i zero x e l r h o =
    let a : x ≡ i = omega arith in
    ap₂ ◌∷◌ (ap g (sym a) ∙ h ∙ sym (ap (λ (b : Bool). pick b free (f i)) (ap (λ (y : ℕ). is_record (f y)) (sym a) ∙ r)))
    (listed_same g f n (suc i) (λ j b. o j (λ c. omega (arith, b.low))))
listed_forgotten f g (suc n) i (suc k) x e l r h o =
    ap₂ ◌∷◌ (o i (λ c. omega arith)) (listed_forgotten f g n (suc i) k x (omega arith) (omega arith) r h o)

-- no record has this number
pub listed_unforgotten :
    (f : ℕ → Cell) (n i k x : ℕ) → x ≡ i + k → (k < n → is_record (f x) ≡ false) → forgotten k (listed f n i) ≡ listed f n i
unfolding listed forgotten
listed_unforgotten f zero i k x e h = refl
listed_unforgotten f (suc n) i zero x e h =
    let a : x ≡ i = omega arith in
    let l : 0 < suc n = omega arith in
    ap (λ (b : Bool). pick b free (f i) ∷ listed f n (suc i)) (ap (λ (y : ℕ). is_record (f y)) (sym a) ∙ h l)
listed_unforgotten f (suc n) i (suc k) x e h =
    ap (λ (l : List Cell). f i ∷ l) (listed_unforgotten f n (suc i) k x (omega arith) (λ l. h (let m : suc k < suc n = omega arith in m)))
