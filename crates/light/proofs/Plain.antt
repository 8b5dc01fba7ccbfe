-- A packet with no flag set: its optional fields are a counter or nothing, and so is what a light reading tells of it.
-- Assumes nothing.
use Prim.Native.Nat.{ℕ, ◌/◌, ◌≤◌, ◌<◌}
use mathlib.Core.Path.{◌≡◌, refl, ap, sym, ◌∙◌}
use mathlib.Core.Bool.{Bool, true, false, not}
use mathlib.Core.List.{List}
use native.Mathlib.Omega.{arith}
use lib.Dec.{eqb}
use lib.ListN.{length}
use borrow.Author.Tests.{eqb-true}
use Rattle.octets.specs.Octets.{pick, octet_at, number}
use Rattle.walk.specs.declared.Settings.{Settings}
use Rattle.walk.specs.Walk.{Reading, Step, goes, header_bound, wide_field}
use Rattle.walk.proofs.Steps.{octets_goes}
use Rattle.fields.specs.Fields.{opt}
use Rattle.packet.specs.declared.Ids.{Ids}
use Rattle.packet.specs.FixedPart.{flags_of}
use Rattle.packet.specs.Reading.{primary_of, ids_of, texts_of, body_test, segmented, read_packet}
use Rattle.light.specs.Light.{Ready, light_of, no_texts}
use Rattle.light.proofs.Header.{header_is, body_there}

pub no : {A : Type 0} → false ≡ true → A
no h = let z : ◌≡◌ {A = ℕ} 1 0 = ap (λ b. pick b 0 1) h in absurd (omega arith)

pub no_texts_there : (s : Settings) (p : List ℕ) (w : Reading) → texts_of s header_bound (flags_of 0) p w ≡ record { walk = w; value = no_texts }
unfolding texts_of flags_of
no_texts_there s p w = refl

-- the counter stands right after the fixed part
counter_there : (p : List ℕ) → 31 ≤ length p → wide_field 4 header_bound p (goes 27) ≡ record { walk = goes 31; value = number 4 p 27 }
unfolding wide_field
counter_there p l =
    let e = octets_goes header_bound p 4 (goes 27) refl (omega arith) l in
    λ i. record { walk = e i; value = number 4 p 27 }

not_segmented : (p : List ℕ) → segmented p ≡ false → octet_at p 2 / 64 ≡ 3
not_segmented p e = eqb-true (octet_at p 2 / 64) 3 (go (eqb (octet_at p 2 / 64) 3) e)
  where
    go : (b : Bool) → not b ≡ false → b ≡ true
    go true h = refl
    go false h = sym h

module _ (s : Settings) (p : List ℕ) (r : Ready s p) (e0 : octet_at p 26 ≡ 0) where
  module _ {d c : ℕ} (e : opt (segmented p) 0 (wide_field 4 header_bound p) (goes 27) ≡ record { walk = goes d; value = c })
      (b : body_test p (goes d) ≡ goes d) where
    ids_plain :
        ids_of s header_bound (segmented p) (flags_of 0) p (goes 27)
        ≡ record { walk = goes d; value = record { source = 0; destination = 0; counter = record { 0 = c }; priority = 0 } }
    unfolding ids_of flags_of
    ids_plain = rw e

    plain_light : record { refusal = 0; flags = octet_at p 2 / 64; counter = record { 0 = c }; body = d } ≡ light_of (read_packet s p)
    unfolding light_of primary_of
    plain_light =
        let ei = ap (λ (x : Step Ids). x.walk) ids_plain in
        let et = ap (λ (x : Step _). x.walk) (no_texts_there s p (goes d)) in
        let h = header_is s p r (ap flags_of (sym e0)) ei et b in
        let k = ap (λ (x : Step Ids). x.value.counter) (sym ids_plain) in
        (λ i. record { refusal = 0; flags = octet_at p 2 / 64; counter = k i; body = d }) ∙ ap light_of h

  pub segment_light :
      segmented p ≡ true → 31 < length p →
      record { refusal = 0; flags = octet_at p 2 / 64; counter = record { 0 = number 4 p 27 }; body = 31 } ≡ light_of (read_packet s p)
  segment_light q l = plain_light (rw q (counter_there p (omega arith))) (body_there p 31 (λ h. l))

  pub whole_light :
      segmented p ≡ false → record { refusal = 0; flags = 3; counter = record { 0 = 0 }; body = 27 } ≡ light_of (read_packet s p)
  whole_light q =
      let f = sym (not_segmented p q) in
      (λ i. record { refusal = 0; flags = f i; counter = record { 0 = 0 }; body = 27 })
      ∙ plain_light (rw q refl) (body_there p 27 (λ h. no (sym q ∙ h)))
