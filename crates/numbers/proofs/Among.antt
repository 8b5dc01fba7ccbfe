-- Numbers among those of a list, told by a test that computes.
-- Assumes nothing.
use Prim.Native.Nat.{ℕ}
use mathlib.Core.Path.{◌≡◌}
use mathlib.Core.Logic.{◌⊎◌, inl, inr}
use mathlib.Core.Bool.{Bool, true, false, false≢true}
use mathlib.Core.List.Memᴰ
use mathlib.Core.List.{List, [], ◌∷◌, Memᴰ}
use lib.Dec.{eqb}
use borrow.Author.Tests.{eqb-true}
use Rattle.octets.specs.Octets.{pick}
use Rattle.octets.proofs.Lists.{bool}
use Rattle.cells.specs.Segments.{both}
use Rattle.cells.proofs.Held.{both_true}

abbrev pub has : List ℕ → ℕ → Bool
has [] n = false
has (x ∷ l) n = pick (eqb n x) true (has l n)

pub among : (l : List ℕ) (n : ℕ) → has l n ≡ true → Memᴰ n l
among [] n e = absurd (false≢true e)
among (x ∷ l) n e = go (bool (eqb n x)) (among l n)
  where
    go : (eqb n x ≡ true) ⊎ (eqb n x ≡ false) → (has l n ≡ true → Memᴰ n l) → Memᴰ n (x ∷ l)
    go (inl d) ih = Memᴰ.head (eqb-true n x d)
    go (inr d) ih = Memᴰ.tail (ih (rw d at e))

-- all of a list are in another
abbrev pub has_all : List ℕ → List ℕ → Bool
has_all [] l = true
has_all (x ∷ k) l = both (has l x) (has_all k l)

pub among_all : (k l : List ℕ) → has_all k l ≡ true → (n : ℕ) → Memᴰ n k → Memᴰ n l
among_all [] l e n h = absurd (Memᴰ.not-nil h)
among_all (x ∷ k) l e n h =
    let b = both_true (has l x) (has_all k l) e in
    go b (among_all k l b.1 n) (Memᴰ.cases_cons h)
  where
    go : (has l x ≡ true) × (has_all k l ≡ true) → (Memᴰ n k → Memᴰ n l) → (n ≡ x) ⊎ Memᴰ n k → Memᴰ n l
    go b ih (inl d) = Memᴰ.cast d (among l x b.0)
    go b ih (inr m) = ih m
