-- What is told beside 5 and 27 is right: a slice that is refused by 5 has so many octets too few, and one that is refused by 27 so many
-- too many. With so many more, or without the last ones, it is as long as its length field says.
-- Assumes nothing.
use Prim.Native.Nat.{ℕ, suc, ◌+◌, ◌-◌, ◌≤◌, ◌<◌}
use mathlib.Core.Path.{◌≡◌, refl, ap, sym, ◌∙◌}
use mathlib.Core.Logic.{⊎_elim}
use mathlib.Core.Bool.{false}
use mathlib.Core.List.{List, ◌++◌}
use native.Mathlib.Omega.{arith}
use lib.ListN.{length, take, drop, length-append, length-take, take-append-drop}
use borrow.Author.Tests.{leb-false, lt-leb}
use Rattle.octets.proofs.Lists.{bool, below_or}
use Rattle.octets.proofs.Has.{Has, has_self, has_first, has_at_lem}
use Rattle.walk.specs.declared.Settings.{Settings}
use Rattle.walk.specs.Walk.{Reading, goes, going, check, begun}
use Rattle.walk.proofs.Steps.{check_refused}
use Rattle.packet.specs.Reading.{wanted, primary_tests, start_at, ended, refusal_of, refused_header, accepted_header, read_packet}
use Rattle.format.proofs.Refusals.{OfFields, check_ok, fields_keep, ended_has}
use Rattle.format.proofs.Frame.{word_is}

-- neither 5 nor 27, unless A and B hold
abbrev Lengthy : Type 0 → Type 0 → ℕ → Type 0
Lengthy A B n = (n ≡ 5 → A) × (n ≡ 27 → B)

module _ (A B : Type 0) where
  others : (s : Settings) → OfFields s (Lengthy A B)
  others s =
      record {
        none = (λ e. absurd (omega (arith, e)), λ e. absurd (omega (arith, e)));
        six = (λ e. absurd (omega (arith, e)), λ e. absurd (omega (arith, e)));
        seven = (λ e. absurd (omega (arith, e)), λ e. absurd (omega (arith, e)));
        eight = (λ e. absurd (omega (arith, e)), λ e. absurd (omega (arith, e)));
        nine = (λ e. absurd (omega (arith, e)), λ e. absurd (omega (arith, e)));
        ten = λ d. (λ e. absurd (omega (arith, e)), λ e. absurd (omega (arith, e)));
        eleven = (λ e. absurd (omega (arith, e)), λ e. absurd (omega (arith, e)));
        twelve = (λ e. absurd (omega (arith, e)), λ e. absurd (omega (arith, e)));
        thirteen = (λ e. absurd (omega (arith, e)), λ e. absurd (omega (arith, e)));
        fourteen = (λ e. absurd (omega (arith, e)), λ e. absurd (omega (arith, e)));
        twenty_eight = (λ e. absurd (omega (arith, e)), λ e. absurd (omega (arith, e)));
      }

  other : (n : ℕ) → (n ≡ 5 → ⊥) → (n ≡ 27 → ⊥) → Lengthy A B n
  other n f g = (λ e. absurd (f e), λ e. absurd (g e))

module _ (s : Settings) (p : List ℕ) where
  -- ---- when 5 and 27 are told

  by_length : Lengthy (length p < wanted p) (wanted p < length p) (ended s p).refused
  by_length =
      ended_has s (Lengthy (length p < wanted p) (wanted p < length p)) (others _ _ s) p
      (record {
        fifteen = other _ _ 15 (λ e. omega (arith, e)) (λ e. omega (arith, e));
        one = other _ _ 1 (λ e. omega (arith, e)) (λ e. omega (arith, e));
        two = other _ _ 2 (λ e. omega (arith, e)) (λ e. omega (arith, e));
        three = other _ _ 3 (λ e. omega (arith, e)) (λ e. omega (arith, e));
        four = other _ _ 4 (λ e. omega (arith, e)) (λ e. omega (arith, e));
        five = λ f. (λ e. leb-false (wanted p) (length p) f, λ e. absurd (omega (arith, e)));
        twenty_seven = λ f. (λ e. absurd (omega (arith, e)), λ e. leb-false (length p) (wanted p) f);
      })

  -- with fewer than six octets reading is refused by 15 or 1
  first_not : (b : Reading) → going (check false 1 b) ≡ false
  unfolding check
  first_not b = ⊎_elim (λ e. rw e refl) (λ e. rw e e) (bool (going b))

  few_start : length p < 6 → start_at s p ≡ check false 1 (begun s)
  unfolding primary_tests
  few_start l =
      let w = check false 1 (begun s) in
      let n = first_not (begun s) in
      rw (lt-leb 6 (length p) l)
      (ap (check _ 27) (ap (check _ 5) (ap (check _ 4) (ap (check _ 3) (check_refused _ 2 w n) ∙ check_refused _ 3 w n) ∙ check_refused _ 4 w n)
      ∙ check_refused _ 5 w n) ∙ check_refused _ 27 w n)

  few_not : length p < 6 → Lengthy ⊥ ⊥ (ended s p).refused
  unfolding begun
  few_not l =
      let k = others ⊥ ⊥ s in
      let f = other ⊥ ⊥ 15 (λ e. omega (arith, e)) (λ e. omega (arith, e)) in
      let o = other ⊥ ⊥ 1 (λ e. omega (arith, e)) (λ e. omega (arith, e)) in
      let c = check_ok (Lengthy ⊥ ⊥) in
      fields_keep s (Lengthy ⊥ ⊥) k p (rw (few_start l) (c false 1 _ o (c _ 15 _ f (c _ 15 _ f (c _ 15 (goes 6) f k.none)))))

  -- ---- what they tell

  refusal_is : (n : ℕ) → (read_packet s p).refusal.number ≡ suc n → (read_packet s p).refusal ≡ refusal_of p (ended s p)
  unfolding read_packet accepted_header refused_header
  refusal_is n h = ⊎_elim (λ e. absurd (omega (arith, rw e at h))) (λ e. rw e refl) (bool (going (ended s p)))

  pub number_is : (n : ℕ) → (read_packet s p).refusal.number ≡ suc n → (ended s p).refused ≡ suc n
  unfolding refusal_of
  number_is n h = sym (ap (λ (r : _). r.number) (refusal_is n h)) ∙ h

  module _ (h : (read_packet s p).refusal.number ≡ 5) where
    pub short_told : (0 < (read_packet s p).refusal.octets) × (length p + (read_packet s p).refusal.octets ≡ wanted p)
    unfolding refusal_of
    short_told =
        let a = number_is 4 h in
        let l = by_length.0 a in
        let o : (read_packet s p).refusal.octets ≡ wanted p - length p = ap (λ (r : _). r.octets) (refusal_is 4 h) ∙ rw a refl in
        (omega (arith, o), omega (arith, o))

    pub short_six : 6 ≤ length p
    short_six = ⊎_elim (λ l. absurd ((few_not l).0 (number_is 4 h))) (λ l. l) (below_or (length p) 6)

  module _ (h : (read_packet s p).refusal.number ≡ 27) where
    pub long_told : (0 < (read_packet s p).refusal.octets) × (length p ≡ wanted p + (read_packet s p).refusal.octets)
    unfolding refusal_of
    long_told =
        let a = number_is 26 h in
        let l = by_length.1 a in
        let o : (read_packet s p).refusal.octets ≡ length p - wanted p = ap (λ (r : _). r.octets) (refusal_is 26 h) ∙ rw a refl in
        (omega (arith, o), omega (arith, o))

-- ---- so many octets more, or fewer

-- the length field stands in the first six octets
field_same : (p x : List ℕ) → 6 ≤ length p → wanted (p ++ x) ≡ wanted p
field_same p x l =
    let h : Has (p ++ x) 0 p = has_first p x (has_self (p ++ x)) in
    omega (arith, word_is (p ++ x) 4, word_is p 4, has_at_lem p 4 h (omega arith), has_at_lem p 5 h (omega arith))

pub short_right :
    (s : Settings) (p x : List ℕ) → (read_packet s p).refusal.number ≡ 5 → length x ≡ (read_packet s p).refusal.octets →
    length (p ++ x) ≡ wanted (p ++ x)
short_right s p x h e = simp length-append (omega (arith, (short_told s p h).1, field_same p x (short_six s p h)))

pub long_right :
    (s : Settings) (p : List ℕ) → (read_packet s p).refusal.number ≡ 27 →
    length (take (length p - (read_packet s p).refusal.octets) p) ≡ wanted (take (length p - (read_packet s p).refusal.octets) p)
long_right s p h =
    let m = length p - (read_packet s p).refusal.octets in
    let t = long_told s p h in
    let n : m ≡ wanted p = omega (arith, t.1) in
    let k : length (take m p) ≡ wanted p = length-take m p ∙ (omega (arith, t.1)) in
    let f = field_same (take m p) (drop m p) (omega (arith, k)) in
    k ∙ ap wanted (sym (take-append-drop m p)) ∙ f
