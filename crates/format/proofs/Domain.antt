-- The domain as a field: a count of at most sixteen, and as many parts. The definition takes the last part last and sets its place
-- in a list of sixteen; the field takes the first part first: they tell the same.
-- Assumes nothing.
use Prim.Native.Nat.{ℕ, zero, suc, ◌≤◌, ◌<◌}
use mathlib.Core.Path.{◌≡◌, refl, ap, sym, ◌∙◌}
use mathlib.Core.List.{List, [], ◌∷◌, ◌++◌, map}
use mathlib.Core.Bool.{Bool, true, false}
use native.Mathlib.Omega.{arith}
use lib.ListN.{length, take, length-set, length-replicate}
use lib.Seq.{take-suc-set}
use lib.Dec.{leb}
use borrow.Author.Tests.{leb-true, le-leb}
use Rattle.octets.specs.Octets.{pick}
use Rattle.utf8.specs.Text.{Text}
use Rattle.walk.specs.declared.Settings.{Settings}
use Rattle.walk.specs.declared.Bound.{Bound}
use Rattle.walk.specs.Walk.{Reading, Step, check, uinteger}
use Rattle.fields.specs.declared.Place.{Place}
use Rattle.fields.specs.Fields.{nowhere, part, parts_most, Parts, no_parts, part_at, parts_to, domain}
use Rattle.fields.specs.Form.{domain_octets}
use Rattle.packet.specs.Format.{Each}
use Rattle.format.specs.Told.{content}
use Rattle.format.proofs.Field.{Field, told}
use Rattle.format.proofs.Combine.{guard, dep, formed}
use Rattle.format.proofs.Encoding.{number_f}
use Rattle.format.proofs.Contents.{part_f}
use Rattle.format.proofs.Many.{steps, values, spots, many, steps_last, spots_last}

-- the places of the parts that a domain tells
abbrev pub places_of : Parts → List Place
places_of d = take d.count d.places

-- what reading has before the first part
abbrev before : ℕ → Reading → Step Parts
before n w = record { walk = w; value = no_parts n }

module _ (s : Settings) (bound : Bound) (p : List ℕ) where
  -- ---- the definition's parts, first part first

  to_walk : (n : ℕ) (d : Step Parts) → (parts_to s bound p n d).walk ≡ steps bound p (part_f s bound p) n d.walk
  unfolding parts_to part_at steps
  to_walk zero d = refl
  to_walk (suc n) d = ap (λ (w : Reading). (part s bound p w).walk) (to_walk n d) ∙ sym (steps_last bound p (part_f s bound p) n d.walk)

  to_count : (n : ℕ) (d : Step Parts) → (parts_to s bound p n d).value.count ≡ d.value.count
  unfolding parts_to part_at
  to_count zero d = refl
  to_count (suc n) d = to_count n d

  to_length : (n : ℕ) (d : Step Parts) → length (parts_to s bound p n d).value.places ≡ length d.value.places
  unfolding parts_to part_at
  to_length zero d = refl
  to_length (suc n) d = simp length-set (to_length n d)

  to_spots :
      (n : ℕ) (d : Step Parts) → n ≤ length d.value.places →
      take n (parts_to s bound p n d).value.places ≡ spots bound p (part_f s bound p) n d.walk
  unfolding parts_to part_at spots
  to_spots zero d l = refl
  to_spots (suc n) d l =
      let a = to_spots n d (omega arith) in
      let k : n < length (parts_to s bound p n d).value.places = rw (to_length n d) l in
      take-suc-set (parts_to s bound p n d).value.places n (part s bound p (parts_to s bound p n d).walk).value k
      ∙ ap (λ (r : List Place). r ++ ((part s bound p (parts_to s bound p n d).walk).value ∷ [])) a
      ∙ ap (λ (w : Reading). spots bound p (part_f s bound p) n d.walk ++ ((part s bound p w).value ∷ [])) (to_walk n d)
      ∙ sym (spots_last bound p (part_f s bound p) n d.walk)

  spots_told : (n : ℕ) (w : Reading) → map (content p) (spots bound p (part_f s bound p) n w) ≡ values bound p (part_f s bound p) n w
  unfolding spots values
  spots_told zero w = refl
  spots_told (suc n) w = ap (λ (r : List (List ℕ)). content p (part s bound p w).value ∷ r) (spots_told n (part s bound p w).walk)

  -- ---- at most sixteen

  abbrev pub counted : Field bound p (List (List ℕ))
  counted = dep bound p (number_f bound p s) (λ n. guard bound p (leb n parts_most) 12 [] (many bound p (part_f s bound p) n)) length (λ n x f. f.0.0)

  which_walk :
      (b : Bool) (n : ℕ) (w : Reading) →
      (pick b (parts_to s bound p n (before n w)) (before 0 (check false 13 w))).walk ≡ pick b (steps bound p (part_f s bound p) n w) (check false 13 w)
  which_walk true n w = to_walk n (before n w)
  which_walk false n w = refl

  which_spots :
      (b : Bool) (n : ℕ) (w : Reading) → leb n parts_most ≡ b →
      places_of (pick b (parts_to s bound p n (before n w)) (before 0 (check false 13 w))).value ≡ pick b (spots bound p (part_f s bound p) n w) []
  which_spots true n w e =
      ap (λ (k : ℕ). take k (parts_to s bound p n (before n w)).value.places) (to_count n (before n w))
      ∙ to_spots n (before n w) (rw (length-replicate 16 nowhere) (leb-true _ _ e))
  which_spots false n w e = refl

  which_values :
      (b : Bool) (n : ℕ) (w : Reading) → map (content p) (pick b (spots bound p (part_f s bound p) n w) []) ≡ pick b (values bound p (part_f s bound p) n w) []
  which_values true n w = spots_told n w
  which_values false n w = refl

  pub domain_step : (w : Reading) → (domain s bound p w).walk ≡ counted.step w
  unfolding domain
  domain_step w = which_walk (leb (uinteger s bound p w).value parts_most) (uinteger s bound p w).value (uinteger s bound p w).walk

  pub domain_spots : (w : Reading) → places_of (domain s bound p w).value ≡ counted.spots w
  unfolding domain
  domain_spots w = which_spots (leb (uinteger s bound p w).value parts_most) (uinteger s bound p w).value (uinteger s bound p w).walk refl

  pub domain_value : (w : Reading) → map (content p) (places_of (domain s bound p w).value) ≡ counted.value w
  domain_value w =
      ap (map (content p)) (domain_spots w)
      ∙ which_values (leb (uinteger s bound p w).value parts_most) (uinteger s bound p w).value (uinteger s bound p w).walk

  which_count : (b : Bool) (n : ℕ) (w : Reading) → leb n parts_most ≡ b →
      (pick b (parts_to s bound p n (before n w)) (before 0 (check false 13 w))).value.count ≤ parts_most
  which_count true n w e = rw (to_count n (before n w)) (leb-true n parts_most e)
  which_count false n w e = omega arith

  which_all : (b : Bool) (n : ℕ) (w : Reading) →
      length (pick b (parts_to s bound p n (before n w)) (before 0 (check false 13 w))).value.places ≡ parts_most
  which_all true n w = to_length n (before n w) ∙ length-replicate 16 nowhere
  which_all false n w = length-replicate 16 nowhere

  -- there are at most sixteen parts, in a list of sixteen places
  pub domain_count : (w : Reading) → (domain s bound p w).value.count ≤ parts_most
  unfolding domain
  domain_count w = which_count (leb (uinteger s bound p w).value parts_most) (uinteger s bound p w).value (uinteger s bound p w).walk refl

  pub domain_all : (w : Reading) → length (domain s bound p w).value.places ≡ parts_most
  unfolding domain
  domain_all w = which_all (leb (uinteger s bound p w).value parts_most) (uinteger s bound p w).value (uinteger s bound p w).walk

  abbrev pub DomainFit : List (List ℕ) → Type 0
  DomainFit x = (length x ≤ parts_most) × Each Text x

  pub domain_form : (x : List (List ℕ)) → domain_octets s x ≡ counted.form x
  unfolding domain_octets
  domain_form x = refl

  pub domain_fit : (x : List (List ℕ)) → DomainFit x → length (domain_octets s x) < 4294967296 → counted.Fit x
  domain_fit x f l = ((omega (arith, f.0), ((refl, f.1), le-leb (length x) parts_most f.0)), refl)

  abbrev pub domain_f : Field bound p (List (List ℕ))
  domain_f =
      told bound p
      (formed bound p counted (domain_octets s) DomainFit domain_form domain_fit (λ x f. (leb-true _ _ f.0.1.1, f.0.1.0.1)))
      (λ w. (domain s bound p w).walk) (λ w. map (content p) (places_of (domain s bound p w).value)) (λ w. places_of (domain s bound p w).value)
      domain_step domain_value domain_spots
