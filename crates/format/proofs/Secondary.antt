-- The optional fields as one field, by the presence flags and whether there is a segment counter; and with the fixed part the whole
-- secondary header as one field: its steps are the reading's, its octets the format's.
-- Assumes nothing.
use Prim.Native.Nat.{ℕ}
use mathlib.Core.Path.{◌≡◌, refl, ap, sym, ◌∙◌}
use mathlib.Core.List.{List, [], ◌∷◌, map}
use mathlib.Core.Bool.{Bool, true, false}
use Rattle.octets.specs.Octets.{pick}
use Rattle.walk.specs.declared.Settings.{Settings}
use Rattle.walk.specs.declared.Bound.{Bound}
use Rattle.walk.specs.Walk.{Reading, Step, uinteger}
use Rattle.fields.specs.declared.Place.{Place}
use Rattle.fields.specs.Fields.{nowhere, opt, block, blob, text, domain, no_parts}
use Rattle.packet.specs.declared.Present.{Present}
use Rattle.packet.specs.FixedPart.{octet_field, wide_field}
use Rattle.format.specs.Told.{content}
use Rattle.format.proofs.Field.{Field, then, seq, maybe, told}
use Rattle.format.proofs.Numbers.{wide_f, octet_f, block_f}
use Rattle.format.proofs.Encoding.{number_f}
use Rattle.format.proofs.Contents.{blob_f, text_f}
use Rattle.format.proofs.Domain.{places_of, domain_f}
use Rattle.format.proofs.FixedPart.{Fixed, fixed_f}

-- ---- a step that may be absent, as the reading has it

module _ {R : Type 0} where
  pub opt_step :
      (b : Bool) (none : R) (read : Reading → Step R) (w u : Reading) → (read w).walk ≡ u → (opt b none read w).walk ≡ pick b u w
  opt_step true none read w u e = e
  opt_step false none read w u e = refl

  pub opt_look :
      {A : Type 0} (b : Bool) (none : R) (read : Reading → Step R) (look : R → A) (w : Reading) (x : A) → look (read w).value ≡ x →
      look (opt b none read w).value ≡ pick b x (look none)
  opt_look true none read look w x e = e
  opt_look false none read look w x e = refl

  pub opt_spots :
      (b : Bool) (none : R) (read : Reading → Step R) (look : R → List Place) (w : Reading) (x : List Place) →
      look (read w).value ≡ x → pick b (look (opt b none read w).value) [] ≡ pick b x []
  opt_spots true none read look w x e = e
  opt_spots false none read look w x e = refl

pub no_spots : (b : Bool) → ◌≡◌ {A = List Place} [] (pick b [] [])
no_spots true = refl
no_spots false = refl

-- source id, destination id, counter, priority, timestamp, zone, session name, domain, authentication id
abbrev pub Optional : Type 0
Optional = ℕ × (ℕ × (ℕ × (ℕ × (List ℕ × (List ℕ × (List ℕ × (List (List ℕ) × List ℕ)))))))

module _ (s : Settings) (bound : Bound) (p : List ℕ) where
  -- an optional number, and an optional content
  abbrev pub opt_number :
      (b : Bool) (read : Reading → Step ℕ) (F : Field bound p ℕ) → ((w : Reading) → (read w).walk ≡ F.step w) →
      ((w : Reading) → (read w).value ≡ F.value w) → ((w : Reading) → F.spots w ≡ []) → Field bound p ℕ
  opt_number b read F st vt qt =
      told bound p (maybe bound p b 0 F) (λ w. (opt b 0 read w).walk) (λ w. (opt b 0 read w).value) (λ w. [])
      (λ w. opt_step b 0 read w (F.step w) (st w)) (λ w. opt_look b 0 read (λ x. x) w (F.value w) (vt w))
      (λ w. no_spots b ∙ ap (λ (x : List Place). pick b x []) (sym (qt w)))

  abbrev pub opt_content :
      {R A : Type 0} (b : Bool) (none : R) (read : Reading → Step R) (look : R → A) (spots : R → List Place) (F : Field bound p A) →
      ((w : Reading) → (read w).walk ≡ F.step w) → ((w : Reading) → look (read w).value ≡ F.value w) →
      ((w : Reading) → spots (read w).value ≡ F.spots w) → Field bound p A
  opt_content {R} {A} b none read look spots F st vt qt =
      told bound p (maybe bound p b (look none) F) (λ w. (opt b none read w).walk) (λ w. look (opt b none read w).value)
      (λ w. pick b (spots (opt b none read w).value) []) (λ w. opt_step b none read w (F.step w) (st w))
      (λ w. opt_look b none read look w (F.value w) (vt w)) (λ w. opt_spots b none read spots w (F.spots w) (qt w))

  pub octet_step : (w : Reading) → (octet_field bound p w).walk ≡ (octet_f bound p).step w
  unfolding octet_field
  octet_step w = refl

  pub octet_value : (w : Reading) → (octet_field bound p w).value ≡ (octet_f bound p).value w
  unfolding octet_field
  octet_value w = refl

  abbrev pub id_f : Bool → Field bound p ℕ
  id_f b = opt_number b (octet_field bound p) (octet_f bound p) octet_step octet_value (λ w. refl)

  pub wide_step : (w : Reading) → (wide_field 4 bound p w).walk ≡ (wide_f bound p 4).step w
  unfolding wide_field
  wide_step w = refl

  pub wide_value : (w : Reading) → (wide_field 4 bound p w).value ≡ (wide_f bound p 4).value w
  unfolding wide_field
  wide_value w = refl

  abbrev pub counter_f : Bool → Field bound p ℕ
  counter_f b = opt_number b (wide_field 4 bound p) (wide_f bound p 4) wide_step wide_value (λ w. refl)

  abbrev pub priority_f : Bool → Field bound p ℕ
  priority_f b = opt_number b (uinteger s bound p) (number_f bound p s) (λ w. refl) (λ w. refl) (λ w. refl)

  pub block_step : (w : Reading) → (block s.t bound p w).walk ≡ (block_f bound p s.t).step w
  unfolding block
  block_step w = refl

  pub block_value : (w : Reading) → content p (block s.t bound p w).value ≡ (block_f bound p s.t).value w
  unfolding block
  block_value w = refl

  pub block_spots : (w : Reading) → (block s.t bound p w).value ∷ [] ≡ (block_f bound p s.t).spots w
  unfolding block
  block_spots w = refl

  abbrev pub timestamp_f : Bool → Field bound p (List ℕ)
  timestamp_f b = opt_content b nowhere (block s.t bound p) (content p) (λ a. a ∷ []) (block_f bound p s.t) block_step block_value block_spots

  abbrev pub name_f : Bool → Field bound p (List ℕ)
  name_f b = opt_content b nowhere (text s bound p) (content p) (λ a. a ∷ []) (text_f s bound p) (λ w. refl) (λ w. refl) (λ w. refl)

  abbrev pub authentication_f : Bool → Field bound p (List ℕ)
  authentication_f b = opt_content b nowhere (blob s bound p) (content p) (λ a. a ∷ []) (blob_f s bound p) (λ w. refl) (λ w. refl) (λ w. refl)

  abbrev pub parts_f : Bool → Field bound p (List (List ℕ))
  parts_f b =
      opt_content b (no_parts 0) (domain s bound p) (λ d. map (content p) (places_of d)) places_of (domain_f s bound p) (λ w. refl) (λ w. refl)
      (λ w. refl)

  abbrev pub optionals_f : Present → Bool → Field bound p Optional
  optionals_f h q =
      seq bound p (id_f h.source)
      (seq bound p (id_f h.destination)
      (seq bound p (counter_f q)
      (seq bound p (priority_f h.priority)
      (seq bound p (timestamp_f h.timestamp)
      (seq bound p (name_f h.zone)
      (seq bound p (name_f h.session_name) (seq bound p (parts_f h.domain) (authentication_f h.authentication))))))))

  -- the flags decide the rest
  abbrev pub secondary_f : Bool → Field bound p (Fixed × Optional)
  secondary_f q = then bound p (fixed_f bound p) (λ x. optionals_f x.1.1.1.1.1.1.1.1 q)
