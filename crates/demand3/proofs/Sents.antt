-- A message as demand 3 over cells has it: the same key, first counter, body and segments.
-- Assumes nothing.
use Prim.Native.Nat.{ℕ, zero, suc, ◌+◌, ◌-◌, ◌≤◌, ◌<◌}
use mathlib.Core.Path.{◌≡◌, refl, ap, ap₂, sym, ◌∙◌, subst}
use mathlib.Core.Logic.{◌⊎◌, inl, inr}
use mathlib.Core.List.Memᴰ
use mathlib.Core.List.{List, [], ◌∷◌, Memᴰ}
use native.Mathlib.Omega.{arith}
use lib.ListN.{length, get_or, length-append}
use borrow.Author.Tests.{eq-eqb, ne_eqb}
use Rattle.octets.proofs.Lists.{below_or}
use Rattle.octets.specs.Laying.{together}
use Rattle.walk.specs.declared.Settings.{Settings}
use Rattle.packet.specs.Numbers.{next_counter, steps_most}
use Rattle.format.proofs.Frame.{identification_long}
use Rattle.cells.specs.Segments.{Seg}
use Rattle.cells.specs.Messages.{listed}
use Rattle.demand3.specs.Traffic.{Sent, body_in, flags_before, later, run_of, segments_of, steps_in}
use Rattle.demand3.specs.Sendings.{Sending, whole_body, flags_in, many_of, segment_at, identification_of, header_of, key_in, header_size, start_of, steps_to, IsCut}
use Rattle.demand3.proofs.ReadAs.{same_seg}
use Rattle.demand3.proofs.AnyCut.{part_of}
use Rattle.sender.specs.Sending.{steps_of}
use Rattle.sender.proofs.Stepping.{steps_last}

-- ---- rows of things

module _ {A : Type 0} (f : ℕ → A) where
  pub listed_in : (n i x : ℕ) → i ≤ x → x < i + n → Memᴰ (f x) (listed f n i)
  unfolding listed
  listed_in zero i x a b = absurd (omega arith)
  listed_in (suc n) i x a b = go (listed_in n (suc i) x) (below_or i x)
    where
      go : (suc i ≤ x → x < suc i + n → Memᴰ (f x) (listed f n (suc i))) → (i < x) ⊎ (x ≤ i) → Memᴰ (f x) (f i ∷ listed f n (suc i))
      go ih (inl l) = Memᴰ.tail (ih l (omega arith))
      go ih (inr l) = let e : x ≡ i = omega arith in Memᴰ.head (ap f e)

  in_listed : (n i : ℕ) (y : A) → Memᴰ y (listed f n i) → (x : ℕ) × (x < i + n) × (y ≡ f x)
  unfolding listed
  in_listed zero i y h = absurd (Memᴰ.not-nil h)
  in_listed (suc n) i y h = go (in_listed n (suc i) y) (Memᴰ.cases_cons h)
    where
      go : (Memᴰ y (listed f n (suc i)) → (x : ℕ) × (x < suc i + n) × (y ≡ f x)) → (y ≡ f i) ⊎ Memᴰ y (listed f n (suc i)) →
          (x : ℕ) × (x < i + suc n) × (y ≡ f x)
      go ih (inl e) = (i, omega arith, e)
      go ih (inr k) = let v = ih k in (v.0, omega (arith, v.1), v.2)

  listed_on : (n i : ℕ) → listed f n (suc i) ≡ listed (λ (x : ℕ). f (suc x)) n i
  unfolding listed
  listed_on zero i = refl
  listed_on (suc n) i = ap (λ (y : List A). f (suc i) ∷ y) (listed_on n (suc i))

  pub listed_long : (n i : ℕ) → length (listed f n i) ≡ n
  unfolding listed
  listed_long zero i = refl
  listed_long (suc n) i = ap suc (listed_long n (suc i))

-- a list is what it has at its places
listed_all : {A : Type 0} (d : A) (l : List A) → listed (λ (i : ℕ). get_or l i d) (length l) 0 ≡ l
unfolding listed
listed_all d [] = refl
listed_all d (x ∷ l) = ap (λ (y : List _). x ∷ y) (listed_on (λ (i : ℕ). get_or (x ∷ l) i d) (length l) 0 ∙ listed_all d l)

-- ---- segments in a row

module _ (k : List ℕ) (a n : ℕ) (f : ℕ → List ℕ) (g : ℕ → ℕ) (final : (i : ℕ) → 1 ≤ i → suc i ≡ n → g i ≡ 2)
    (inner : (i : ℕ) → 1 ≤ i → suc i < n → g i ≡ 0) where
  abbrev row_of : ℕ → Seg
  row_of i = record { key = k; counter = steps_of next_counter i a; flags = g i; body = f i }

  flags_before_lem : (j i : ℕ) → 1 ≤ i → suc i + j ≡ n → flags_before (listed f j (suc i)) ≡ g i
  unfolding listed
  flags_before_lem zero i l e = sym (final i l (omega arith))
  flags_before_lem (suc j) i l e = sym (inner i l (omega arith))

  later_listed : (j i c : ℕ) → 1 ≤ i → i + j ≡ n → c ≡ steps_of next_counter i a → later next_counter k c (listed f j i) ≡ listed row_of j i
  unfolding listed later
  later_listed zero i c l e h = refl
  later_listed (suc j) i c l e h =
      ap₂ ◌∷◌ (same_seg refl h (flags_before_lem j i l (omega arith)) refl)
      (later_listed j (suc i) (next_counter c) (omega arith) (omega arith) (ap next_counter h ∙ sym (steps_last next_counter i a)))

-- ---- a message

-- the message over cells
abbrev pub sent_of : Settings → Sending → Sent
sent_of s m =
    record {
      key = key_in s m;
      start = start_of s m;
      one = part_of s m 0;
      two = part_of s m 1;
      more = listed (part_of s m) (many_of s m - 2) 2;
    }

module _ (s : Settings) (Z : ℕ) (m : Sending) (k : IsCut s Z m) where
  abbrev q : ℕ
  q = many_of s m - 2

  twice : suc (suc q) ≡ many_of s m
  twice = omega (arith, k.many)

  segments_are : segments_of next_counter (sent_of s m) ≡ listed (segment_at s m) (many_of s m) 0
  unfolding run_of listed flags_in steps_of
  segments_are =
      ap₂ ◌∷◌ (same_seg refl refl refl refl)
      (later_listed (key_in s m) (start_of s m) (many_of s m) (part_of s m) (flags_in (many_of s m))
      (λ i l e. rw (ne_eqb i 0 (λ z. omega arith), eq-eqb (suc i) (many_of s m) e))
      (λ i l e. rw (ne_eqb i 0 (λ z. omega arith), ne_eqb (suc i) (many_of s m) (λ z. omega arith)))
      (suc q) 1 (next_counter (start_of s m)) (omega arith) (omega (arith, twice)) refl)
      ∙ ap (λ (n : ℕ). listed (segment_at s m) n 0) twice

  -- the first is segment 0
  pub first_is : (run_of next_counter (sent_of s m)).head ≡ segment_at s m 0
  unfolding run_of flags_in steps_of
  first_is = same_seg refl refl refl refl

  -- segment i is one of its segments
  pub own_in : (i : ℕ) → i < many_of s m → Memᴰ (segment_at s m i) (segments_of next_counter (sent_of s m))
  own_in i l =
      subst (Memᴰ (segment_at s m i)) (sym segments_are) (listed_in (segment_at s m) (many_of s m) 0 i (omega arith) (omega arith))

  -- and there are no others
  pub in_own : (t : Seg) → Memᴰ t (segments_of next_counter (sent_of s m)) → (i : ℕ) × (i < many_of s m) × (t ≡ segment_at s m i)
  in_own t h =
      let v = in_listed (segment_at s m) (many_of s m) 0 t (subst (Memᴰ t) segments_are h) in
      (v.0, omega (arith, v.1), v.2)

  -- their bodies joined are the message's
  pub body_is : body_in (sent_of s m) ≡ whole_body m
  unfolding listed
  body_is = ap (λ (n : ℕ). together (listed (part_of s m) n 0)) twice ∙ ap together (listed_all [] m.bodies)

  pub end_is : steps_in (sent_of s m) ≡ steps_to s m
  end_is = omega (arith, twice, listed_long (part_of s m) q 2)

  -- no more segments than a message may have (DEMANDS 3.2)
  pub short : steps_in (sent_of s m) ≤ steps_most
  short = omega (arith, end_is, k.most, k.many)

  -- identification and H octets
  pub key_long_lem : length (key_in s m) ≡ 2 + header_size s m
  key_long_lem =
      length-append (identification_of s m) (header_of s m)
      ∙ ap (λ (n : ℕ). n + header_size s m) (identification_long m.head)
