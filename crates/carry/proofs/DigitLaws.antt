-- Ids as digits: what is written reads back as the number, and a text that is an id is the digits of what it says.
-- Assumes nothing.
use Prim.Native.Nat.{ℕ, ◌+◌, ◌-◌, ◌*◌, ◌/◌, ◌%◌, ◌≤◌, ◌<◌}
use mathlib.Core.Path.{◌≡◌, refl, ap, ap₂, sym, ◌∙◌}
use mathlib.Core.Logic.{◌⊎◌, inl, inr, ⊎_elim}
use mathlib.Core.Bool.{Bool, true, false}
use mathlib.Core.List.{List, [], ◌∷◌}
use native.Mathlib.Omega.{arith}
use lib.ListN.{length}
use lib.Dec.{leb}
use borrow.Author.Tests.{leb-true, le-leb, lt-leb, lt-ltb, le-ltb, ne_eqb}
use Rattle.octets.specs.Octets.{pick, octet_at, alike}
use Rattle.octets.proofs.Lists.{bool, below_or, alike_self, alike_true}
use Rattle.carry.specs.Digits.{digits, value_of, is_id}

pub digits_one : (n : ℕ) → n < 10 → digits n ≡ (48 + n) ∷ []
unfolding digits
digits_one n h = simp (lt-ltb n 10 h)

pub digits_two : (n : ℕ) → 10 ≤ n → n < 100 → digits n ≡ (48 + n / 10) ∷ (48 + n % 10) ∷ []
unfolding digits
digits_two n h l = simp (le-ltb n 10 h, lt-ltb n 100 l)

pub digits_three : (n : ℕ) → 100 ≤ n → digits n ≡ (48 + n / 100) ∷ (48 + n / 10 % 10) ∷ (48 + n % 10) ∷ []
unfolding digits
digits_three n h = simp (le-ltb n 10 (omega arith), le-ltb n 100 h)

value_one : (n : ℕ) → n < 10 → value_of (digits n) ≡ n
unfolding value_of
value_one n h = rw (digits_one n h) (omega arith)

value_two : (n : ℕ) → 10 ≤ n → n < 100 → value_of (digits n) ≡ n
unfolding value_of
value_two n h l = rw (digits_two n h l) (omega arith)

value_three : (n : ℕ) → 100 ≤ n → n < 1000 → value_of (digits n) ≡ n
unfolding value_of
value_three n h l = rw (digits_three n h) (omega arith)

-- the digits of a number say it
pub value_back : (n : ℕ) → n < 256 → value_of (digits n) ≡ n
value_back n h =
    ⊎_elim
    (λ (a : n < 10). value_one n a)
    (λ (a : 10 ≤ n). ⊎_elim (λ (b : n < 100). value_two n a b) (λ (b : 100 ≤ n). value_three n b (omega arith)) (below_or n 100))
    (below_or n 10)

pub id_back : (n : ℕ) → n < 256 → is_id (digits n) ≡ true
unfolding is_id
id_back n h = rw (value_back n h, le-leb n 255 (omega arith)) (alike_self (digits n))

pub id_only : (t : List ℕ) → is_id t ≡ true → (value_of t < 256) × (digits (value_of t) ≡ t)
unfolding is_id
id_only t h = go (bool (leb (value_of t) 255)) h
  where
    go : (leb (value_of t) 255 ≡ true) ⊎ (leb (value_of t) 255 ≡ false) → pick (leb (value_of t) 255) (alike t (digits (value_of t))) false ≡ true →
        (value_of t < 256) × (digits (value_of t) ≡ t)
    go (inl e) k = let l = leb-true (value_of t) 255 e in (omega arith, sym (alike_true t (digits (value_of t)) (rw e at k)))
    go (inr e) k = let q = rw e at k in let z : ◌≡◌ {A = ℕ} 0 1 = cc in absurd (omega arith)

-- ---- as the code has them

module _ (t : List ℕ) {a b c : ℕ} (ea : a ≡ octet_at t 0 - 48) (eb : b ≡ octet_at t 1 - 48) (ec : c ≡ octet_at t 2 - 48) where
  pub one_octet : length t ≡ 1 → a ≡ value_of t
  unfolding value_of
  one_octet e = ea ∙ rw e refl

  pub two_octets_lem : length t ≡ 2 → a * 10 + b ≡ value_of t
  unfolding value_of
  two_octets_lem e = ap₂ (λ (x y : ℕ). x * 10 + y) ea eb ∙ rw e refl

  pub more_octets : (length t ≡ 1 → ⊥) → (length t ≡ 2 → ⊥) → a * 100 + b * 10 + c ≡ value_of t
  unfolding value_of
  more_octets e f =
      ap₂ (λ (x y : ℕ). x * 100 + y * 10 + c) ea eb ∙ ap (λ (z : ℕ). (octet_at t 0 - 48) * 100 + (octet_at t 1 - 48) * 10 + z) ec
      ∙ rw (ne_eqb (length t) 1 e, ne_eqb (length t) 2 f) refl

pub no_id : (t : List ℕ) {v : ℕ} → v ≡ value_of t → 255 < v → false ≡ is_id t
unfolding is_id
no_id t {v} e h = rw (← e, lt-leb v 255 h) refl

pub id_same : (t x : List ℕ) {v : ℕ} {b : Bool} → v ≡ value_of t → v ≤ 255 → x ≡ digits v → b ≡ alike t x → b ≡ is_id t
unfolding is_id
id_same t x {v} {b} e h d q = q ∙ ap (alike t) d ∙ rw (← e, le-leb v 255 h) refl
