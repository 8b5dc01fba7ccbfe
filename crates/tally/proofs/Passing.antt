-- Counting along the cells, on plain values.
-- Assumes nothing.
use Prim.Native.Nat.{ℕ, zero, suc, ◌+◌, ◌≤◌, ◌<◌}
use mathlib.Core.Path.{◌≡◌, refl, ap, ap₂, ◌∙◌}
use mathlib.Core.Bool.{Bool, true, false}
use mathlib.Core.List.{List}
use native.Mathlib.Numerals.{add-one}
use native.Mathlib.Omega.{arith}
use mir.Val.{bool_byte}
use Rattle.octets.specs.Octets.{pick}
use Rattle.octets.proofs.Lists.{bit_top}
use Rattle.walk.specs.declared.Settings.{Settings}
use Rattle.tally.specs.declared.Tallied.{Tallied}
use Rattle.tally.specs.Counting.{count_to, segments_in, keys_in, cells_in, left_in}

-- no more are counted than there are
pub count_most_lem : (f : ℕ → Bool) (n : ℕ) → count_to f n ≤ n
unfolding count_to
count_most_lem f zero = omega arith
count_most_lem f (suc n) = omega (arith, count_most_lem f n, bit_top (f n))

-- ---- a test as a number

byte_is : (b : Bool) → bool_byte b ≡ pick b 1 0
byte_is true = refl
byte_is false = refl

pub byte_top : {k : ℕ} (b : Bool) → k ≡ bool_byte b → k ≤ 1
byte_top {k} b e = omega (arith, e ∙ byte_is b, bit_top b)

pub byte_more : (m : ℕ) {k : ℕ} (b : Bool) → k ≡ bool_byte b → m + k ≡ m + pick b 1 0
byte_more m b e = ap (λ (x : ℕ). m + x) (e ∙ byte_is b)

-- ---- the loop that counts: i cells are passed, and m of them counted

pub record Counted (f : ℕ → Bool) (n m i : ℕ) : Type 0 where
  pub most : i ≤ n
  pub same : m ≡ count_to f i

pub counted_first : (f : ℕ → Bool) (n : ℕ) → Counted f n 0 0
unfolding count_to
counted_first f n = record { most = omega arith; same = refl }

pub counted_low : {f : ℕ → Bool} {n m i k : ℕ} → Counted f n m i → i < n → n ≤ k → m < k
counted_low {f} {n} {m} {i} p h l = omega (arith, p.same, count_most_lem f i)

pub counted_turn : {f : ℕ → Bool} {n m i r : ℕ} {b : Bool} → Counted f n m i → i < n → b ≡ f i → r ≡ m + pick b 1 0 → Counted f n r (i + 1)
unfolding count_to
counted_turn {f} {n} {m} {i} {r} {b} p h eb er =
    record {
      most = omega arith;
      same = rw (add-one i) (er ∙ ap₂ (λ (x : ℕ) (y : Bool). x + pick y 1 0) p.same eb);
    }

pub counted_done : {f : ℕ → Bool} {n m i : ℕ} → Counted f n m i → n ≤ i → m ≡ count_to f n
counted_done {f} {n} {m} {i} p h = let e : i ≡ n = omega (arith, p.most) in p.same ∙ ap (count_to f) e

abbrev tallied : ℕ → ℕ → Tallied
tallied a b = record { segments = a; keys = b }

module _ (s : Settings) (Z : ℕ) (st : List ℕ) where
  -- both counts, over the cells that there are
  pub left_told : {n a b : ℕ} → n ≡ cells_in Z st → a ≡ segments_in s Z st n → b ≡ keys_in s Z st n → record { segments = a; keys = b } ≡ left_in s Z st
  left_told en ea eb =
      ap₂ tallied (ea ∙ ap (segments_in s Z st) en) (eb ∙ ap (keys_in s Z st) en)
