-- What is tested for text, on plain values: the invariant of the loop over the parts of a domain.
-- Assumes nothing.
use Prim.Native.Nat.{ℕ, ◌+◌, ◌-◌, ◌≤◌, ◌<◌}
use mathlib.Core.Path.{◌≡◌, refl, ap, sym, ◌∙◌}
use mathlib.Core.Bool.{Bool, true, false}
use mathlib.Core.List.{List, [], ◌∷◌}
use native.Mathlib.Numerals.{add-one}
use native.Mathlib.Omega.{arith}
use lib.ListN.{length, get_or, take, drop, drop_of_length-le}
use Rattle.octets.specs.Octets.{room_of}
use Rattle.utf8.specs.Test.{both, is_text, all_single}
use Rattle.utf8.proofs.Laws.{is_text_lem}
use Rattle.utf8.proofs.Single.{single_text, single_take, single_drop}
use Rattle.fields.specs.Form.{split, all_text}
use Rattle.fields.proofs.Written.{split_more}

both_assoc : (p q r : Bool) → both p (both q r) ≡ both (both p q) r
both_assoc true q r = refl
both_assoc false q r = refl

both_true : (p : Bool) → both p true ≡ p
both_true true = refl
both_true false = refl

-- k parts are tested, up to `from` of the text: the flag and what is left tell of all
pub record Judged (x ns : List ℕ) (flag : Bool) (from k : ℕ) : Type 0 where
  pub inside : from ≤ length x
  pub most : k ≤ length ns
  pub all : all_text (split ns x) ≡ both flag (all_text (split (drop k ns) (drop from x)))

pub judged_first : (x ns : List ℕ) → Judged x ns true 0 0
judged_first x ns = record { inside = omega arith; most = omega arith; all = refl }

module _ {x ns : List ℕ} {flag : Bool} {from k : ℕ} (p : Judged x ns flag from k) where
  pub judged_inside : (n : ℕ) → from + room_of (length x) from n ≤ length x
  judged_inside n = omega (arith, p.inside)

  pub judged_turn :
      k < length ns → {end : ℕ} → end ≡ from + room_of (length x) from (get_or ns k 0) →
      Judged x ns (both flag (is_text (take (end - from) (drop from x)))) end (k + 1)
  unfolding all_text
  judged_turn h {end} e =
      record {
        inside = omega (arith, e, judged_inside (get_or ns k 0));
        most = omega arith;
        all =
            rw (add-one k)
            (p.all
            ∙ ap (λ (y : List (List ℕ)). both flag (all_text y)) (split_more x ns from k p.inside h e)
            ∙ both_assoc flag _ _);
      }

  pub judged_done : length ns ≤ k → flag ≡ all_text (split ns x)
  unfolding split all_text
  judged_done h =
      sym
      (p.all
      ∙ ap (λ (y : List ℕ). both flag (all_text (split y (drop from x)))) (drop_of_length-le ns h)
      ∙ both_true flag)

-- parts of octets that are characters by themselves
pub single_parts : (ns x : List ℕ) → all_single x ≡ true → true ≡ all_text (split ns x)
unfolding split all_text
single_parts [] x h = refl
single_parts (n ∷ ns) x h =
    rw ((is_text_lem _).1 (single_text _ (single_take n x h))) (single_parts ns _ (single_drop n x h))
