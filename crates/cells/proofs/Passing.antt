-- A pass over numbers of which a test holds so far: it holds of all, or fails of one.
-- Assumes nothing.
use Prim.Native.Nat.{ℕ, zero, suc, ◌+◌, ◌-◌, ◌≤◌, ◌<◌}
use mathlib.Core.Path.{◌≡◌, refl, ap, ap₂, sym, ◌∙◌}
use mathlib.Core.Logic.{⊎_elim}
use mathlib.Core.Bool.{Bool, true, false, ◌&&◌}
use mathlib.Core.List.{List}
use denote.Param.Members.{Mut}
use Rattle.std.proofs.Common.{Option}
use Rattle.std.proofs.iter.Yields.{nat_range_steps}
use Rattle.std.proofs.lemmas.Iterator.{YieldsList-from_range}
use Rattle.std.proofs.lemmas.Iterator.Search.{all_from_yields_List}
use Rattle.std.specs.Fn.{Called}
use Rattle.std.specs.Iterator.{YieldsThen}
use Rattle.std.specs.List.{FoldsTo, list_all, range_with_len}
use Rattle.std.specs.Option.{MatchOption}
use Rattle.std.specs.declared.ops.Range.{Range}
use Rattle.cells.specs.Segments.{both}
use native.Mathlib.Numerals.{add-one}
use native.Mathlib.Omega.{arith}
use Rattle.octets.proofs.Lists.{bool}
use Rattle.cells.specs.Order.{all_to}
use Rattle.cells.proofs.Carries.{not_held}
use Rattle.cells.proofs.Apart.{all_at}

-- one fails
pub all_fault : (f : ℕ → Bool) (n i : ℕ) → i < n → f i ≡ false → false ≡ all_to f n
all_fault f n i h e = ⊎_elim (λ a. absurd (not_held (all_at f n i a h) e)) (λ a. sym a) (bool (all_to f n))

pub record Passing (f : ℕ → Bool) (n i : ℕ) : Type 0 where
  pub most : i ≤ n
  pub so_far : all_to f i ≡ true

pub passing_first : (f : ℕ → Bool) (n : ℕ) → Passing f n 0
unfolding all_to
passing_first f n = record { most = omega arith; so_far = refl }

module _ {f : ℕ → Bool} {n i : ℕ} (p : Passing f n i) where
  pub passing_turn : i < n → f i ≡ true → Passing f n (i + 1)
  unfolding all_to
  passing_turn h e = record { most = omega arith; so_far = rw (add-one i, p.so_far, e) refl }

  pub passing_fault : i < n → f i ≡ false → false ≡ all_to f n
  passing_fault h e = all_fault f n i h e

  -- all passed
  pub passing_all : n ≤ i → true ≡ all_to f n
  passing_all h = let e : i ≡ n = omega (arith, p.most) in sym p.so_far ∙ ap (all_to f) e

-- ---- a pass over a range

one_more : (b : Bool) → (b && true) ≡ b
one_more true = refl
one_more false = refl

turned : (a b c : Bool) → (a && both b c) ≡ both (a && b) c
turned true b c = refl
turned false b c = refl

range_more : (f : ℕ → Bool) (a n : ℕ) → list_all f (range_with_len a (suc n)) ≡ both (list_all f (range_with_len a n)) (f (a + n))
range_more f a zero = let e : a ≡ a + 0 = omega arith in one_more (f a) ∙ ap f e
range_more f a (suc n) =
    let e : (a + 1) + n ≡ a + suc n = omega arith in
    ap (λ (b : Bool). f a && b) (range_more f (a + 1) n ∙ ap (λ (k : ℕ). both (list_all f (range_with_len (a + 1) n)) (f k)) e)
    ∙ turned (f a) (list_all f (range_with_len (a + 1) n)) (f (a + suc n))

all_range : (f : ℕ → Bool) (n : ℕ) → list_all f (range_with_len 0 n) ≡ all_to f n
unfolding all_to
all_range f zero = refl
all_range f (suc n) = let e : 0 + n ≡ n = omega arith in range_more f 0 n ∙ ap₂ both (all_range f n) (ap f e)

-- what `all` answers of a range, where the closure is the test f, is whether f holds of all numbers below its end
pub all_in_range :
    {F : Type 0} {g : Mut F (ℕ × Unit {0}) Bool} {s : Range ℕ} (f : ℕ → Bool) (n : ℕ) (u : Range ℕ) (h : F) (r : Bool) →
    (xs : List ℕ) × (o : Option ℕ) × (j : F) × YieldsThen nat_range_steps s xs o u × FoldsTo (λ p x q. Called g p (x, tt) true q) h xs j
    × MatchOption o (r ≡ true) (λ x. (r ≡ false) × ((k : F) × Called g j (x, tt) false k)) →
    s ≡ record { start = 0; end = n } → ((x : ℕ) (b : Bool) (q : F) → Called g h (x, tt) b q → (q ≡ h) × (b ≡ f x)) → r ≡ all_to f n
all_in_range f n u h r ran e k =
    let m : n - 0 ≡ n = omega arith in
    all_from_yields_List f u h r ran (YieldsList-from_range 0 n n e m) k ∙ all_range f n
