-- The sizes of fields, on plain values, and the invariant of the loop over a domain's parts.
-- Assumes nothing.
use Prim.Native.Nat.{ℕ, suc, ◌+◌, ◌-◌, ◌≤◌, ◌<◌}
use mathlib.Core.Path.{◌≡◌, ap, ap₂, sym, ◌∙◌}
use mathlib.Core.List.{List, [], ◌∷◌}
use native.Mathlib.Numerals.{add-one}
use native.Mathlib.Omega.{arith}
use lib.ListN.{length, get_or, take, drop, length-append, drop_of_length-le}
use Rattle.octets.specs.Octets.{room_of}
use Rattle.octets.proofs.Has.{part_length}
use Rattle.walk.specs.declared.Settings.{Settings}
use Rattle.fields.specs.Form.{uinteger_octets, blob_octets, text_octets, part_octets, joined, domain_octets, split}
use Rattle.fields.specs.Inner.{capped_to}
use Rattle.fields.proofs.Written.{length_split, split_more}

pub text_long : (s : Settings) (x : List ℕ) → length (text_octets s x) ≡ length (uinteger_octets s (length x)) + length x
unfolding text_octets blob_octets
text_long s x = length-append (uinteger_octets s _) x

pub blob_long : (s : Settings) (x : List ℕ) → length (blob_octets s x) ≡ length (uinteger_octets s (length x)) + length x
unfolding blob_octets
blob_long s x = length-append (uinteger_octets s _) x

part_long : (s : Settings) (x : List ℕ) → length (part_octets s x) ≡ 1 + (length (uinteger_octets s (length x)) + length x)
unfolding part_octets
part_long s x = omega (arith, length-append (1 ∷ []) (text_octets s x), text_long s x)

-- a sum of sizes, each told up to the limit
pub cap_right : (top a b : ℕ) → capped_to top (a + capped_to top b) ≡ capped_to top (a + b)
cap_right top a b = omega arith

pub cap_both : (top a b : ℕ) → capped_to top (capped_to top a + capped_to top b) ≡ capped_to top (a + b)
cap_both top a b = omega arith

-- what k parts take, up to `from` of the text, and what is left
pub record Sizing (top : ℕ) (s : Settings) (x ns : List ℕ) (size from k : ℕ) : Type 0 where
  pub inside : from ≤ length x
  pub most : k ≤ length ns
  pub done : ℕ
  pub told : size ≡ capped_to top done
  pub all : length (domain_octets s (split ns x)) ≡ done + length (joined (part_octets s) (split (drop k ns) (drop from x)))

pub sizing_first : (top : ℕ) (s : Settings) (x ns : List ℕ) {n size : ℕ} → n ≡ length (uinteger_octets s (length ns)) → size ≡ capped_to top (0 + n) → Sizing top
    s x ns size 0 0
unfolding domain_octets
sizing_first top s x ns {n} {size} e h =
    record {
      inside = omega arith;
      most = omega arith;
      done = n;
      told = omega arith;
      all =
          length-append (uinteger_octets s _) (joined _ _)
          ∙ ap (λ (j : ℕ). length (uinteger_octets s j) + length (joined (part_octets s) (split ns x))) (length_split ns x)
          ∙ ap (λ (j : ℕ). j + length (joined (part_octets s) (split ns x))) (sym e);
    }

more : (d c : ℕ) {a b : ℕ} → a ≡ b → d + (a + c) ≡ d + b + c
more d c e = omega arith

module _ {top : ℕ} {s : Settings} {x ns : List ℕ} {size from k : ℕ} (p : Sizing top s x ns size from k) where
  told_more :
      (u : ℕ) {t o size' : ℕ} → t ≡ capped_to top u → o ≡ capped_to top (1 + t) → size' ≡ capped_to top (size + o) → size' ≡ capped_to top (p.done + (1 + u))
  told_more u {t} {o} {size'} et eo es =
      let a : o ≡ capped_to top (1 + u) = eo ∙ ap (λ (j : ℕ). capped_to top (1 + j)) et ∙ cap_right top 1 u in
      es ∙ ap₂ (λ (i j : ℕ). capped_to top (i + j)) p.told a ∙ cap_both top p.done (1 + u)

  pub sizing_turn :
      k < length ns → {end t o size' : ℕ} → end ≡ from + room_of (length x) from (get_or ns k 0) →
      t ≡ capped_to top (length (uinteger_octets s (end - from)) + (end - from)) → o ≡ capped_to top (1 + t) → size' ≡ capped_to top (size + o) →
      Sizing top s x ns size' end (k + 1)
  unfolding joined
  sizing_turn h {end} {t} {o} {size'} e et eo es =
      let i : end ≤ length x = omega (arith, p.inside) in
      let g : from ≤ end = omega arith in
      let j : from + (end - from) ≡ end = omega arith in
      let pl : length (take (end - from) (drop from x)) ≡ end - from = part_length x from _ (omega arith) in
      let sp = split_more x ns from k p.inside h e in
      let w : length (part_octets s (take (end - from) (drop from x))) ≡ 1 + (length (uinteger_octets s (end - from)) + (end - from)) =
      part_long s _ ∙ ap (λ (n : ℕ). 1 + (length (uinteger_octets s n) + n)) pl in
      let a =
      p.all
      ∙ ap (λ (y : List (List ℕ)). p.done + length (joined (part_octets s) y)) sp
      ∙ ap (λ (n : ℕ). p.done + n)
      (length-append (part_octets s (take (end - from) (drop from x))) (joined (part_octets s) (split (drop (suc k) ns) (drop end x)))) in
      record {
        inside = i;
        most = omega arith;
        done = p.done + (1 + (length (uinteger_octets s (end - from)) + (end - from)));
        told = told_more (length (uinteger_octets s (end - from)) + (end - from)) et eo es;
        all = rw (add-one k) (a ∙ more p.done _ w);
      }

  pub sizing_done : length ns ≤ k → size ≡ capped_to top (length (domain_octets s (split ns x)))
  unfolding split joined
  sizing_done h =
      let z : length (joined (part_octets s) (split (drop k ns) (drop from x))) ≡ 0 =
      ap (λ (y : List ℕ). length (joined (part_octets s) (split y (drop from x)))) (drop_of_length-le ns h) in
      omega (arith, p.told, p.all)
