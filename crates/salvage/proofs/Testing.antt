-- When a place is kept, and when not; and what testing it comes to.
-- Assumes nothing.
use Prim.Native.Nat.{ℕ, ◌+◌, ◌-◌, ◌≤◌, ◌<◌}
use mathlib.Core.Path.{◌≡◌, refl, ap, sym, ◌∙◌}
use mathlib.Core.Logic.{⊎_elim}
use mathlib.Core.Bool.{Bool, true, false}
use Rattle.std.specs.Prelude.{Option, Some, None}
use mathlib.Core.List.{List, [], ◌∷◌, ◌++◌}
use native.Mathlib.Omega.{arith}
use lib.ListN.{length, take, drop}
use lib.Dec.{eqb, leb}
use borrow.Author.Tests.{le-leb, lt-leb, leb-true, eq-eqb, ne_eqb, eqb-true}
use Rattle.octets.specs.Octets.{pick, octet_at, number, part}
use Rattle.octets.proofs.Lists.{pick_false, bool}
use Rattle.walk.specs.declared.Settings.{Settings}
use Rattle.packet.specs.Answer.{Header}
use Rattle.packet.specs.Reading.{read_packet}
use Rattle.salvage.specs.Listing.{marked, size_at, width_at, kept, kept_entry, stop, stretch, listed, onward}

-- reading the packet that stands after a mark at a place
abbrev pub read_at : Settings → List ℕ → ℕ → ℕ
read_at s x at = (read_packet s (part x (at + 2) (size_at x at))).refusal.number

-- what a kept place has
pub record Keeps (s : Settings) (x : List ℕ) (at : ℕ) : Type 0 where
  pub mark : marked x at ≡ true
  pub inside : at + width_at x at ≤ length x
  pub reads : read_at s x at ≡ 0

three : (a b c : Bool) → pick a (pick b c false) false ≡ true → (a ≡ true) × ((b ≡ true) × (c ≡ true))
three true true true e = (refl, (refl, refl))
three true true false e = (refl, (refl, e))
three true false c e = let z : ◌≡◌ {A = ℕ} 0 1 = cc in absurd (omega arith)
three false b c e = let z : ◌≡◌ {A = ℕ} 0 1 = cc in absurd (omega arith)

module _ (s : Settings) (x : List ℕ) (at : ℕ) where
  pub kept_has : kept s x at ≡ true → Keeps s x at
  unfolding kept
  kept_has e =
      let t = three (marked x at) (leb (at + width_at x at) (length x)) (eqb (read_at s x at) 0) e in
      record { mark = t.0; inside = leb-true _ _ t.1.0; reads = eqb-true _ _ t.1.1 }

  pub kept_so : Keeps s x at → kept s x at ≡ true
  unfolding kept
  kept_so k = rw (k.mark, le-leb _ _ k.inside, eq-eqb _ _ k.reads)

  pub kept_unmarked : marked x at ≡ false → kept s x at ≡ false
  unfolding kept
  kept_unmarked e = rw e

  pub kept_outside : length x < at + width_at x at → kept s x at ≡ false
  unfolding kept
  kept_outside h = rw (lt-leb _ _ h) (pick_false (marked x at))

  pub kept_refused : (read_at s x at ≡ 0 → ⊥) → kept s x at ≡ false
  unfolding kept
  kept_refused h =
      rw (ne_eqb _ _ h) (ap (λ (b : Bool). pick (marked x at) b false) (pick_false (leb (at + width_at x at) (length x))) ∙ pick_false (marked x at))

-- ---- what the test of a place comes to

module _ (s : Settings) (x : List ℕ) (b at : ℕ) where
  pub listed_kept : kept s x at ≡ true → listed s x (stop b at) ≡ stretch (stop b at) ++ (kept_entry at (width_at x at) ∷ [])
  unfolding listed
  listed_kept e = rw e

  pub listed_none : kept s x at ≡ false → listed s x (stop b at) ≡ []
  unfolding listed
  listed_none e = rw e

  pub onward_kept : kept s x at ≡ true → onward s x (stop b at) ≡ stop (at + width_at x at) (at + width_at x at)
  unfolding onward
  onward_kept e = rw e

  pub onward_none : kept s x at ≡ false → onward s x (stop b at) ≡ stop b (at + 1)
  unfolding onward
  onward_none e = rw e

-- ---- the test in the code, answer by answer

-- the octets of mark and packet if the place is kept
abbrev pub wide_at : Settings → List ℕ → ℕ → Option ℕ
wide_at s x at = pick (kept s x at) (Some (width_at x at)) None

module _ (s : Settings) (x : List ℕ) (at : ℕ) where
  none : kept s x at ≡ false → None ≡ wide_at s x at
  none e = rw e

  pub width_short : length x - at < 9 → None ≡ wide_at s x at
  width_short h = none (kept_outside s x at (omega arith))

  pub width_unmarked :
      {r : Bool} → r ≡ pick (eqb (octet_at x at) 0x4d) (eqb (octet_at x (at + 1)) 0x50) false → r ≡ false → None ≡ wide_at s x at
  unfolding marked
  width_unmarked e h = none (kept_unmarked s x at (sym e ∙ h))

  module _ {m : ℕ} (e : m ≡ number 2 x (at + 6)) where
    pub width_outside : length x - at < 2 + (m + 7) → None ≡ wide_at s x at
    width_outside h = none (kept_outside s x at (omega arith))

    part_is : take (at + 2 + (m + 7) - (at + 2)) (drop (at + 2) x) ≡ part x (at + 2) (size_at x at)
    part_is =
        let n : at + 2 + (m + 7) - (at + 2) ≡ size_at x at = omega arith in
        ap (λ (k : ℕ). take k (drop (at + 2) x)) n

    module _ {h : Header} (r : h ≡ read_packet s (take (at + 2 + (m + 7) - (at + 2)) (drop (at + 2) x))) where
      number_is : h.refusal.number ≡ read_at s x at
      number_is = ap (λ (y : Header). y.refusal.number) (r ∙ ap (read_packet s) part_is)

      pub width_refused : (h.refusal.number ≡ 0 → ⊥) → None ≡ wide_at s x at
      width_refused f = none (kept_refused s x at (λ z. f (number_is ∙ z)))

      pub width_kept :
          {q : Bool} → q ≡ pick (eqb (octet_at x at) 0x4d) (eqb (octet_at x (at + 1)) 0x50) false → q ≡ true → 2 + (m + 7) ≤ length x - at →
          h.refusal.number ≡ 0 → Some (2 + (m + 7)) ≡ wide_at s x at
      unfolding marked
      width_kept p q i z =
          let n : 2 + (m + 7) ≡ width_at x at = omega arith in
          ap (λ (k : ℕ). Some k) n
          ∙ rw (kept_so s x at (record { mark = sym p ∙ q; inside = omega arith; reads = sym number_is ∙ z }))

-- what its answer tells
module _ (s : Settings) (x : List ℕ) (at : ℕ) where
  pub not_kept : None ≡ wide_at s x at → kept s x at ≡ false
  not_kept e = ⊎_elim (λ k. let q = rw k at e in cc) (λ k. k) (bool (kept s x at))

  pub is_kept : {v : ℕ} → Some v ≡ wide_at s x at → kept s x at ≡ true
  is_kept e = ⊎_elim (λ k. k) (λ k. let q = rw k at e in cc) (bool (kept s x at))

  pub is_wide : {v : ℕ} → Some v ≡ wide_at s x at → v ≡ width_at x at
  is_wide e = let q = rw (is_kept e) at e in cc
