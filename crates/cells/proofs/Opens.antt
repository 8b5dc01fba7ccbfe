-- An accepted packet has passed the tests of its primary header, so its length is its length field and 7 more. A refusal stays to
-- the end of a reading, so where there is none at the end there was none before.
-- Assumes nothing.
use Prim.Native.Nat.{ℕ, zero, suc}
use mathlib.Core.Path.{◌≡◌, ap, sym, ◌∙◌}
use mathlib.Core.Logic.{⊎_elim}
use mathlib.Core.Bool.{Bool, true, false}
use mathlib.Core.List.{List}
use lib.Dec.{leb, eqb}
use Rattle.octets.specs.Octets.{pick, octet_at}
use Rattle.octets.proofs.Lists.{bool}
use Rattle.utf8.specs.Test.{is_text}
use Rattle.walk.specs.declared.Settings.{Settings}
use Rattle.walk.specs.Walk.{Reading, Step, going, octets, check, uinteger, header_bound}
use Rattle.walk.proofs.Steps.{field_went, octets_there, check_held}
use Rattle.fields.specs.Fields.{marked_text, opt, nowhere, content_at, block, blob, text, part, domain, part_at, parts_to, Parts, no_parts, parts_most}
use Rattle.packet.specs.declared.Present.{Present}
use Rattle.packet.specs.FixedPart.{octet_field, wide_field, after_sdu, after_area, after_service, after_operation, after_version, after_session}
use Rattle.packet.specs.FixedPart.{after_secondary, after_qualifier, after_transaction, after_presence, fixed_end}
use Rattle.packet.specs.Reading.{segmented, ids_of, texts_of, start_at, has_at, ids_at, texts_at, read_packet}
use Rattle.format.proofs.Encoding.{encoding}
use Rattle.format.proofs.Start.{Opens, start_only, body_only, answered}

-- a step that goes on has gone on before
abbrev Stays : (Reading → Reading) → Type 0
Stays f = (w : Reading) → going (f w) ≡ true → going w ≡ true

module _ {A : Type 0} where
  stays_opt : (b : Bool) (a : A) (f : Reading → Step A) → Stays (λ w. (f w).walk) → Stays (λ w. (opt b a f w).walk)
  stays_opt true a f h w g = h w g
  stays_opt false a f h w g = g

module _ (s : Settings) (p : List ℕ) where
  stays_octets : (n : ℕ) → Stays (octets header_bound p n)
  stays_octets n w g = (octets_there header_bound p n w g).went

  stays_number : Stays (λ w. (uinteger s header_bound p w).walk)
  stays_number w g = ⊎_elim (λ e. e) (λ e. sym (ap going ((encoding s).stays header_bound p w e)) ∙ g) (bool (going w))

  stays_blob : Stays (λ w. (blob s header_bound p w).walk)
  unfolding blob
  stays_blob w g = stays_number w (stays_octets (uinteger s header_bound p w).value (uinteger s header_bound p w).walk (field_went w _ g))

  stays_text : Stays (λ w. (text s header_bound p w).walk)
  unfolding text
  stays_text w g = stays_blob w (check_held (is_text (content_at p (blob s header_bound p w).value)) 27 (blob s header_bound p w).walk g).went

  stays_block : (n : ℕ) → Stays (λ w. (block n header_bound p w).walk)
  unfolding block
  stays_block n w g = stays_octets n w g

  stays_part : Stays (λ w. (part s header_bound p w).walk)
  unfolding part marked_text
  stays_part w g =
      let a = stays_text (check (eqb (octet_at p w.at) 1) 11 (octets header_bound p 1 w)) (field_went w _ g) in
      stays_octets 1 w (check_held (eqb (octet_at p w.at) 1) 10 (octets header_bound p 1 w) a).went

  stays_parts : (n : ℕ) (d : Step Parts) → going (parts_to s header_bound p n d).walk ≡ true → going d.walk ≡ true
  unfolding parts_to part_at
  stays_parts zero d g = g
  stays_parts (suc n) d g = stays_parts n d (stays_part (parts_to s header_bound p n d).walk g)

  stays_domain : Stays (λ w. (domain s header_bound p w).walk)
  unfolding domain
  stays_domain w g = stays_number w (go (leb (uinteger s header_bound p w).value parts_most) g)
    where
      go :
          (b : Bool) →
          going
          (pick b (parts_to s header_bound p (uinteger s header_bound p w).value (record { walk = (uinteger s header_bound p w).walk; value = no_parts (uinteger s header_bound p w).value }))
          (record { walk = check false 13 (uinteger s header_bound p w).walk; value = no_parts 0 })).walk ≡ true →
          going (uinteger s header_bound p w).walk ≡ true
      go true h = stays_parts (uinteger s header_bound p w).value (record { walk = (uinteger s header_bound p w).walk; value = no_parts (uinteger s header_bound p w).value }) h
      go false h = (check_held false 12 (uinteger s header_bound p w).walk h).went

  stays_fixed : Stays (fixed_end header_bound p)
  unfolding after_sdu after_area after_service after_operation after_version after_session after_secondary after_qualifier after_transaction after_presence
  stays_fixed w g =
      let a = stays_octets 8 _ (stays_octets 1 _ g) in
      let b = stays_octets 1 _ (field_went _ _ (stays_octets 2 _ a)) in
      let c = stays_octets 1 _ (check_held _ 8 _ b).went in
      let d = stays_octets 2 _ (stays_octets 2 _ (stays_octets 2 _ (stays_octets 1 _ c))) in
      stays_octets 1 w (check_held _ 6 _ (check_held _ 7 _ d).went).went

  stays_ids : (has : Present) → Stays (λ w. (ids_of s header_bound (segmented p) has p w).walk)
  unfolding ids_of octet_field wide_field
  stays_ids has w g =
      let d = stays_opt has.priority 0 (uinteger s header_bound p) stays_number _ g in
      let c = stays_opt (segmented p) 0 (wide_field 4 header_bound p) (stays_octets 4) _ d in
      let b = stays_opt has.destination 0 (octet_field header_bound p) (stays_octets 1) _ c in
      stays_opt has.source 0 (octet_field header_bound p) (stays_octets 1) w b

  stays_texts : (has : Present) → Stays (λ w. (texts_of s header_bound has p w).walk)
  unfolding texts_of
  stays_texts has w g =
      let e = stays_opt has.authentication nowhere (blob s header_bound p) stays_blob _ g in
      let d = stays_opt has.domain (no_parts 0) (domain s header_bound p) stays_domain _ e in
      let c = stays_opt has.session_name nowhere (text s header_bound p) stays_text _ d in
      let b = stays_opt has.zone nowhere (text s header_bound p) stays_text _ c in
      stays_opt has.timestamp nowhere (block s.t header_bound p) (stays_block s.t) w b

  -- 15 and 1 to 5 were passed
  pub opens : (read_packet s p).refusal.number ≡ 0 → Opens s p
  opens z =
      let b = body_only s p (texts_at s p).walk (answered s p z) in
      let t = stays_texts (has_at s p) (ids_at s p).walk b.went in
      let i = stays_ids (has_at s p) (fixed_end header_bound p (start_at s p)) t in
      (start_only s p (stays_fixed (start_at s p) i)).1
