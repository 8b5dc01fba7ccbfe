-- Octets from one place to another that are characters by themselves: each stretch of them is text.
-- Assumes nothing.
use Prim.Native.Nat.{ℕ, zero, suc, ◌+◌, ◌-◌, ◌≤◌, ◌<◌}
use mathlib.Core.Path.{◌≡◌, refl}
use mathlib.Core.Logic.{⊎_elim}
use mathlib.Core.Bool.{Bool, true, false}
use mathlib.Core.List.{List}
use native.Mathlib.Omega.{arith}
use lib.Dec.{ltb, eqb}
use lib.ListN.{length, drop_of_length-le}
use lib.Seq.{drop-cons}
use borrow.Author.Tests.{lt-ltb, ltb-true}
use Rattle.octets.specs.Octets.{octet_at, part as stretch}
use Rattle.octets.proofs.Lists.{below_or}
use Rattle.utf8.specs.Test.{both, is_text, all_single}
use Rattle.utf8.proofs.Single.{single_text}
use Rattle.utf8.proofs.Laws.{is_text_lem}
use Rattle.walk.specs.declared.Settings.{Settings}
use Rattle.walk.specs.Walk.{goes, header_bound, uinteger}
use Rattle.fields.specs.Fields.{place, part}
use Rattle.light.proofs.Plain.{no}
use Rattle.filling.specs.Filling.{Within, Found, Single, Quick}
use Rattle.filling.proofs.Fields.{moved, number_one, text_is, part_is}

-- ---- by places

held : (p q : Bool) → both p q ≡ true → (p ≡ true) × (q ≡ true)
held true q h = (refl, h)
held false q h = no h

stretch_single : (p : List ℕ) (n at : ℕ) → ((j : ℕ) → at ≤ j → j < at + n → octet_at p j < 128) → all_single (stretch p at n) ≡ true
unfolding all_single
stretch_single p zero at h = refl
stretch_single p (suc n) at h =
    let b = stretch_single p n (suc at) (λ j u v. h j (omega arith) (omega arith)) in
    let a = lt-ltb (octet_at p at) 128 (h at (omega arith) (omega arith)) in
    ⊎_elim (λ l. rw (drop-cons p at 0 l, a) b) (λ l. rw (drop_of_length-le p l) refl) (below_or at (length p))

single_each :
    (p : List ℕ) (n at : ℕ) → at + n ≤ length p → all_single (stretch p at n) ≡ true → (j : ℕ) → at ≤ j → j < at + n → octet_at p j < 128
unfolding all_single
single_each p zero at l h j u v = absurd (omega arith)
single_each p (suc n) at l h j u v =
    let c = drop-cons p at 0 (omega arith) in
    let s = held (ltb (octet_at p at) 128) (all_single (stretch p (suc at) n)) (rw c at h) in
    ⊎_elim (λ q. single_each p n (suc at) (omega arith) s.1 j (omega arith) (omega arith))
    (λ q. let e : j ≡ at = omega arith in rw e (ltb-true (octet_at p at) 128 s.0))
    (below_or at j)

-- ---- a run of them

pub single_none : (p : List ℕ) {lim from to : ℕ} → to ≤ lim → to ≤ from → Single p lim from to
single_none p t h = record { top = t; each = λ j u v. absurd (omega arith) }

pub single_more :
    (p : List ℕ) {lim from to end : ℕ} → Single p lim from to → to ≤ end → end ≤ lim → lim ≤ length p → all_single (stretch p to (end - to)) ≡ true →
    Single p lim from end
single_more p {lim} {from} {to} {end} s e t l h =
    record {
      top = t;
      each =
          λ j u v.
          ⊎_elim (λ q. s.each j u q) (λ q. single_each p (end - to) to (omega arith) h j q (omega arith)) (below_or j to);
    }

pub run_text :
    (p : List ℕ) {lim from to : ℕ} (at end : ℕ) → Single p lim from to → from ≤ at → end ≤ to → is_text (stretch p at (end - at)) ≡ true
run_text p at end s f e =
    (is_text_lem (stretch p at (end - at))).1
    (single_text _ (stretch_single p (end - at) at (λ j u v. s.each j (omega arith) (omega arith))))

-- ---- a domain part among them

module _
    (s : Settings)
    (p : List ℕ)
    {lim from to at r : ℕ}
    (w : Within p lim at)
    (g : Single p lim from to)
    (q : Quick p from to at r)
    (v : eqb s.profile 1 ≡ false) where
  after : Within p lim (at + 1)
  after = moved (at + 1) w (omega (arith, q.ends, q.top, g.top))

  length_found : Found p (uinteger s header_bound p (goes (at + 1))) lim (at + 2) (octet_at p (at + 1))
  length_found =
      record {
        within = moved (at + 2) w (omega (arith, q.ends, q.top, g.top));
        same =
            let small = g.each (at + 1) (omega (arith, q.after)) (omega (arith, q.ends, q.top)) in
            let e : at + 1 + 1 ≡ at + 2 = omega arith in
            rw e at (number_one s p after v (omega (arith, q.ends, q.top, g.top)) refl small);
      }

  pub quick_part : part s header_bound p (goes at) ≡ record { walk = goes r; value = place (at + 2) (r - (at + 2)) }
  quick_part =
      let n : octet_at p (at + 1) ≡ r - (at + 2) = omega (arith, q.ends) in
      let e : at + 2 + (r - (at + 2)) ≡ r = omega (arith, q.ends) in
      let f : Found p (uinteger s header_bound p (goes (at + 1))) lim (at + 2) (r - (at + 2)) = rw n at length_found in
      let x = run_text p (at + 2) r g (omega (arith, q.after)) q.top in
      let t = text_is s p (at + 1) f (omega (arith, e, q.top, g.top)) x in
      rw e at (part_is s p w (omega (arith, q.ends, q.top, g.top)) q.mark t)
