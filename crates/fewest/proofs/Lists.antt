-- Lists of lists: what holds of each, their contents joined, and the first n of what is numbered from 0.
-- Assumes nothing.
use Prim.Native.Nat.{ℕ, zero, suc, ◌+◌, ◌*◌, ◌≤◌, ◌<◌}
use mathlib.Core.Path.{◌≡◌, refl, ap, ap₂, sym, ◌∙◌}
use mathlib.Core.Logic.{⊎_elim}
use mathlib.Core.List.{List, [], ◌∷◌, ◌++◌, append_assoc, append-nil}
use native.Mathlib.Omega.{arith}
use native.Mathlib.Numerals.{add-one}
use native.Mathlib.Nat.{add-zero}
use lib.ListN.{length, get_or, length-append, get_or-append}
use lib.Seq.{get_or_at}
use Rattle.octets.proofs.Lists.{below_or}
use Rattle.fields.specs.Form.{joined}
use Rattle.packet.specs.Format.{Each}
use Rattle.fewest.specs.Carrying.{first_of}

module _ {A : Type 0} where
  -- ---- each

  -- of both, what follows from both
  pub each_both : {P Q R : A → Type 0} → ((x : A) → P x → Q x → R x) → (l : List A) → Each P l → Each Q l → Each R l
  unfolding Each
  each_both f [] h g = tt
  each_both f (x ∷ l) h g = (f x h.0 g.0, each_both f l h.1 g.1)

  pub each_append : (P : A → Type 0) (l m : List A) → Each P l → Each P m → Each P (l ++ m)
  unfolding Each
  each_append P [] m h g = g
  each_append P (x ∷ l) m h g = (h.0, each_append P l m h.1 g)

  -- ---- joined

  pub joined_append : (W : A → List ℕ) (l m : List A) → joined W (l ++ m) ≡ joined W l ++ joined W m
  unfolding joined
  joined_append W [] m = refl
  joined_append W (x ∷ l) m = ap (λ (y : List ℕ). W x ++ y) (joined_append W l m) ∙ sym (append_assoc (W x) (joined W l) (joined W m))

  pub joined_one : (W : A → List ℕ) (x : A) → joined W (x ∷ []) ≡ W x
  unfolding joined
  joined_one W x = append-nil (W x)

  -- contents of at most c octets each
  pub joined_most_lem : (W : A → List ℕ) (c : ℕ) (l : List A) → Each (λ (x : A). length (W x) ≤ c) l → length (joined W l) ≤ length l * c
  unfolding Each joined
  joined_most_lem W c [] h = omega arith
  joined_most_lem W c (x ∷ l) h =
      let k = joined_most_lem W c l h.1 in
      let a = h.0 in
      simp length-append (omega arith)

  -- ---- the first n

  pub first_length : (f : ℕ → A) (n : ℕ) → length (first_of f n) ≡ n
  unfolding first_of
  first_length f zero = refl
  first_length f (suc n) = length-append (first_of f n) (f n ∷ []) ∙ ap (λ (k : ℕ). k + 1) (first_length f n) ∙ add-one n

  pub first_each : (P : A → Type 0) (f : ℕ → A) (n : ℕ) → ((i : ℕ) → i < n → P (f i)) → Each P (first_of f n)
  unfolding first_of Each
  first_each P f zero h = tt
  first_each P f (suc n) h =
      each_append P (first_of f n) (f n ∷ []) (first_each P f n (λ i l. h i (omega arith))) (h n (omega arith), tt)

  pub first_same : (f g : ℕ → A) (n : ℕ) → ((i : ℕ) → i < n → f i ≡ g i) → first_of f n ≡ first_of g n
  unfolding first_of
  first_same f g zero h = refl
  first_same f g (suc n) h =
      ap₂ (λ (l : List A) (x : A). l ++ (x ∷ [])) (first_same f g n (λ i l. h i (omega arith))) (h n (omega arith))

  pub first_at : (f : ℕ → A) (n i : ℕ) (d : A) → i < n → get_or (first_of f n) i d ≡ f i
  unfolding first_of
  first_at f zero i d h = absurd (omega arith)
  first_at f (suc n) i d h =
      ⊎_elim
      (λ l. get_or-append (first_of f n) (f n ∷ []) d i (omega (arith, first_length f n)) ∙ first_at f n i d l)
      (λ l.
      let e : i ≡ n = omega arith in
      ap (get_or (first_of f n ++ (f n ∷ [])) i) refl ∙ get_or_at (first_of f n) (f n) [] d i (first_length f n ∙ sym e) ∙ ap f (sym e))
      (below_or i n)

  -- some, and then more
  pub first_more : (f : ℕ → A) (n m : ℕ) → first_of f (n + m) ≡ first_of f n ++ first_of (λ (i : ℕ). f (n + i)) m
  unfolding first_of
  first_more f n zero = ap (first_of f) (add-zero n) ∙ sym (append-nil (first_of f n))
  first_more f n (suc m) =
      let e : n + suc m ≡ suc (n + m) = omega arith in
      ap (first_of f) e ∙ ap (λ (l : List A). l ++ (f (n + m) ∷ [])) (first_more f n m)
      ∙ append_assoc (first_of f n) (first_of (λ (i : ℕ). f (n + i)) m) (f (n + m) ∷ [])

  pub joined_suc : (W : A → List ℕ) (f : ℕ → A) (n : ℕ) → joined W (first_of f (suc n)) ≡ joined W (first_of f n) ++ W (f n)
  unfolding first_of
  joined_suc W f n =
      joined_append W (first_of f n) (f n ∷ []) ∙ ap (λ (y : List ℕ). joined W (first_of f n) ++ y) (joined_one W (f n))

  pub joined_none : (W : A → List ℕ) → joined W [] ≡ []
  unfolding joined
  joined_none W = refl

-- joined, by the contents alone
pub joined_first :
    {A : Type 0} (W : A → List ℕ) (f : ℕ → A) (n : ℕ) →
    joined W (first_of f n) ≡ joined (λ (x : List ℕ). x) (first_of (λ (i : ℕ). W (f i)) n)
unfolding first_of
joined_first W f zero = joined_none W ∙ sym (joined_none (λ (x : List ℕ). x))
joined_first W f (suc n) =
    joined_suc W f n ∙ ap (λ (y : List ℕ). y ++ W (f n)) (joined_first W f n)
    ∙ sym (joined_suc (λ (x : List ℕ). x) (λ (i : ℕ). W (f i)) n)
