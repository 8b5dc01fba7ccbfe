-- How many of some cells pass a test: after a segment is put in, after the cells of a message are given up, after a record is forgotten.
-- What a store's room, the progress of takings and the records of one message are counted by.
-- Assumes nothing.
use Prim.Native.Nat.{ℕ, zero, suc, ◌≤◌, ◌<◌, suc-le-suc, zero-le}
use mathlib.Core.Path.{◌≡◌, refl, sym, ◌∙◌, ap}
use mathlib.Core.Logic.{◌⊎◌, inl, inr}
use mathlib.Core.Bool.{Bool, true, false, true≢false, false≢true}
use mathlib.Core.List.Memᴰ
use mathlib.Core.List.{List, [], ◌∷◌, map, Memᴰ}
use native.Mathlib.Omega.{arith}
use lib.ListN.{length, get_or}
use Rattle.octets.specs.Octets.{pick}
use Rattle.octets.proofs.Lists.{bool}
use Rattle.cells.specs.Segments.{Seg}
use Rattle.cells.specs.Rows.{Cell, free, held}
use Rattle.cells.specs.Order.{is_free}
use Rattle.taking.specs.Forgetting.{is_record}
use Rattle.demand3.specs.Cells.{put, forgotten}

unfoldable pub number_of : (Cell → Bool) → List Cell → ℕ
number_of f [] = 0
number_of f (x ∷ xs) = pick (f x) (suc (number_of f xs)) (number_of f xs)

module _ (f : Cell → Bool) where
  pub number_most : (cs : List Cell) → number_of f cs ≤ length cs
  unfolding number_of
  number_most [] = zero-le
  number_most (x ∷ cs) = go (number_most cs) (f x)
    where
      go : number_of f cs ≤ length cs → (b : Bool) → pick b (suc (number_of f cs)) (number_of f cs) ≤ suc (length cs)
      go ih true = suc-le-suc ih
      go ih false = omega arith

  pub number_some : (cs : List Cell) (y : Cell) → Memᴰ y cs → f y ≡ true → 0 < number_of f cs
  unfolding number_of
  number_some [] y h e = absurd (Memᴰ.not-nil h)
  number_some (x ∷ cs) y h e = go (λ k. number_some cs y k e) (Memᴰ.cases_cons h)
    where
      more : (b : Bool) → 0 < number_of f cs → 0 < pick b (suc (number_of f cs)) (number_of f cs)
      more true k = suc-le-suc zero-le
      more false k = k

      go : (Memᴰ y cs → 0 < number_of f cs) → (y ≡ x) ⊎ Memᴰ y cs → 0 < pick (f x) (suc (number_of f cs)) (number_of f cs)
      go ih (inl p) = let d : f x ≡ true = ap f (sym p) ∙ e in rw d (suc-le-suc zero-le)
      go ih (inr k) = more (f x) (ih k)

  pub number_has : (cs : List Cell) → 0 < number_of f cs → (y : Cell) × Memᴰ y cs × (f y ≡ true)
  unfolding number_of
  number_has [] h = absurd (omega arith)
  number_has (x ∷ cs) h = go (number_has cs) (bool (f x))
    where
      go : (0 < number_of f cs → (y : Cell) × Memᴰ y cs × (f y ≡ true)) → (f x ≡ true) ⊎ (f x ≡ false) →
          (y : Cell) × Memᴰ y (x ∷ cs) × (f y ≡ true)
      go ih (inl e) = (x, Memᴰ.head refl, e)
      go ih (inr e) = let z = ih (rw e at h) in (z.0, Memᴰ.tail z.1, z.2)

  -- a new head, and one less or the same number of others
  heads_less : (x y : Cell) (m n : ℕ) → (f y ≡ true → f x ≡ true) → m ≤ n → pick (f y) (suc m) m ≤ pick (f x) (suc n) n
  heads_less x y m n h l = go (f y) (f x) refl refl
    where
      go : (a b : Bool) → f y ≡ a → f x ≡ b → pick a (suc m) m ≤ pick b (suc n) n
      go true true d e = suc-le-suc l
      go true false d e = absurd (false≢true (sym e ∙ h d))
      go false true d e = omega arith
      go false false d e = l

  -- each cell is replaced by one that passes no sooner
  module _ (g : Cell → Cell) (no_sooner : (x : Cell) → f (g x) ≡ true → f x ≡ true) where
    pub number_map : (cs : List Cell) → number_of f (map g cs) ≤ number_of f cs
    unfolding number_of
    number_map [] = zero-le
    number_map (x ∷ cs) = heads_less x (g x) (number_of f (map g cs)) (number_of f cs) (no_sooner x) (number_map cs)

    pub number_fewer : (cs : List Cell) (y : Cell) → Memᴰ y cs → f y ≡ true → f (g y) ≡ false → number_of f (map g cs) < number_of f cs
    unfolding number_of
    number_fewer [] y h p q = absurd (Memᴰ.not-nil h)
    number_fewer (x ∷ cs) y h p q = go (λ k. number_fewer cs y k p q) (Memᴰ.cases_cons h)
      where
        on : number_of f (map g cs) < number_of f cs → (a b : Bool) → f (g x) ≡ a → f x ≡ b →
            pick a (suc (number_of f (map g cs))) (number_of f (map g cs)) < pick b (suc (number_of f cs)) (number_of f cs)
        on l true true d e = suc-le-suc l
        on l true false d e = absurd (false≢true (sym e ∙ no_sooner x d))
        on l false true d e = omega arith
        on l false false d e = l

        go : (Memᴰ y cs → number_of f (map g cs) < number_of f cs) → (y ≡ x) ⊎ Memᴰ y cs →
            pick (f (g x)) (suc (number_of f (map g cs))) (number_of f (map g cs)) < pick (f x) (suc (number_of f cs)) (number_of f cs)
        go ih (inl e) =
            let a : f x ≡ true = ap f (sym e) ∙ p in
            let b : f (g x) ≡ false = ap (λ (z : Cell). f (g z)) (sym e) ∙ q in
            rw (a, b) (suc-le-suc (number_map cs))
        go ih (inr k) = on (ih k) (f (g x)) (f x) refl refl

  -- a segment is put in
  pub number_put : (cs : List Cell) (t : Seg) → number_of f (put cs t) ≤ suc (number_of f cs)
  unfolding number_of put
  number_put [] t = zero-le
  number_put (x ∷ cs) t = go (number_put cs t) (bool (is_free x))
    where
      new : (a b : Bool) → pick a (suc (number_of f cs)) (number_of f cs) ≤ suc (pick b (suc (number_of f cs)) (number_of f cs))
      new true true = omega arith
      new true false = omega arith
      new false true = omega arith
      new false false = omega arith

      on : number_of f (put cs t) ≤ suc (number_of f cs) → (b : Bool) →
          pick b (suc (number_of f (put cs t))) (number_of f (put cs t)) ≤ suc (pick b (suc (number_of f cs)) (number_of f cs))
      on ih true = suc-le-suc ih
      on ih false = ih

      go : number_of f (put cs t) ≤ suc (number_of f cs) → (is_free x ≡ true) ⊎ (is_free x ≡ false) →
          number_of f (pick (is_free x) (held t ∷ cs) (x ∷ put cs t)) ≤ suc (pick (f x) (suc (number_of f cs)) (number_of f cs))
      go ih (inl h) = rw h (new (f (held t)) (f x))
      go ih (inr h) = rw h (on ih (f x))

  -- one that does not pass
  pub number_put_same : (cs : List Cell) (t : Seg) → f (held t) ≡ false → number_of f (put cs t) ≤ number_of f cs
  unfolding number_of put
  number_put_same [] t n = zero-le
  number_put_same (x ∷ cs) t n = go (number_put_same cs t n) (bool (is_free x))
    where
      new : (b : Bool) → number_of f cs ≤ pick b (suc (number_of f cs)) (number_of f cs)
      new true = omega arith
      new false = omega arith

      go : number_of f (put cs t) ≤ number_of f cs → (is_free x ≡ true) ⊎ (is_free x ≡ false) →
          number_of f (pick (is_free x) (held t ∷ cs) (x ∷ put cs t)) ≤ pick (f x) (suc (number_of f cs)) (number_of f cs)
      go ih (inl h) = rw (h, n) (new (f x))
      go ih (inr h) = rw h (heads_less x x (number_of f (put cs t)) (number_of f cs) (λ e. e) ih)

  -- a record is forgotten
  module _ (empty : f free ≡ false) where
    dropped : (b : Bool) (x : Cell) → f (pick b free x) ≡ true → f x ≡ true
    dropped true x e = absurd (false≢true (sym empty ∙ e))
    dropped false x e = e

    pub number_forgotten : (i : ℕ) (cs : List Cell) → number_of f (forgotten i cs) ≤ number_of f cs
    unfolding number_of forgotten
    number_forgotten i [] = zero-le
    number_forgotten zero (x ∷ cs) =
        heads_less x (pick (is_record x) free x) (number_of f cs) (number_of f cs) (dropped (is_record x) x) (omega arith)
    number_forgotten (suc i) (x ∷ cs) = heads_less x x (number_of f (forgotten i cs)) (number_of f cs) (λ e. e) (number_forgotten i cs)

    pub number_less : (i : ℕ) (cs : List Cell) (y : Cell) → get_or cs i free ≡ y → is_record y ≡ true → f y ≡ true →
        number_of f (forgotten i cs) < number_of f cs
    unfolding number_of forgotten
    number_less i [] y e r p = absurd (true≢false (sym p ∙ ap f (sym e) ∙ empty))
    number_less zero (x ∷ cs) y e r p =
        let a : is_record x ≡ true = ap is_record e ∙ r in
        let b : f x ≡ true = ap f e ∙ p in
        rw (a, b, empty) (omega arith)
    number_less (suc i) (x ∷ cs) y e r p = go (f x) (number_less i cs y e r p)
      where
        go : (b : Bool) → number_of f (forgotten i cs) < number_of f cs →
            pick b (suc (number_of f (forgotten i cs))) (number_of f (forgotten i cs)) < pick b (suc (number_of f cs)) (number_of f cs)
        go true l = suc-le-suc l
        go false l = l
