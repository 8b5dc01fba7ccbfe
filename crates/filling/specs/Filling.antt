-- Reading into a lent answer, field by field: what each step of it tells. If a step answers None the long way is taken, and nothing is
-- told of the answer.
-- Assumes nothing: these are definitions.
use Rattle.std.specs.Prelude.{ℕ, ◌+◌, ◌-◌, ◌≤◌, ◌<◌, ◌≡◌, List, [], ◌∷◌, ◌++◌, length, get_or}
use Rattle.std.proofs.lemmas.List.Edits.{sets}
use Rattle.octets.specs.Octets.{octet_at}
use Rattle.walk.specs.Walk.{Step, goes, header_end}
use Rattle.fields.specs.declared.Place.{Place}
use Rattle.fields.specs.Fields.{Parts, nowhere}
use Rattle.packet.specs.Format.{bit}
use Rattle.packet.specs.FixedPart.{flags_of}
use Rattle.packet.specs.Reading.{primary_of, body_test, counter_size}
use Rattle.light.specs.Light.{fixed_here}
use Rattle.flat.specs.Told.{primary_numbers, name_numbers, routing_numbers, present_numbers, places_to}

-- a place up to a limit: the header's, and the packet's end
pub record Within (p : List ℕ) (lim at : ℕ) : Type 0 where
  pub limit : lim ≤ header_end
  pub inside : lim ≤ length p
  pub here : at ≤ lim

-- a step of reading that found a number; n is the place after it
pub record Found (p : List ℕ) (step : Step ℕ) (lim n v : ℕ) : Type 0 where
  pub within : Within p lim n
  pub same : step ≡ record { walk = goes n; value = v }

-- a step of reading whose numbers were laid over l from k on, which is m; r is the place after the field
pub record Into {A : Type 0} (p : List ℕ) (step : Step A) (told : A → List ℕ) (k lim : ℕ) (l m : List ℕ) (r : ℕ) : Type 0 where
  pub within : Within p lim r
  pub walk : step.walk ≡ goes r
  pub same : m ≡ sets l k (told step.value)

abbrev pub one : ℕ → List ℕ
one x = x ∷ []

-- the octets from one place to another are characters by themselves
pub record Single (p : List ℕ) (lim from to : ℕ) : Type 0 where
  pub top : to ≤ lim
  pub each : (j : ℕ) → from ≤ j → j < to → octet_at p j < 128

-- a domain part that ends at r, all of it among single octets
pub record Quick (p : List ℕ) (from to at r : ℕ) : Type 0 where
  pub after : from ≤ at
  pub mark : octet_at p at ≡ 1
  pub ends : r ≡ at + 2 + octet_at p (at + 1)
  pub top : r ≤ to

-- a domain's count and its sixteen places
abbrev pub parts_numbers : Parts → List ℕ
parts_numbers d = d.count ∷ places_to 16 d.places

-- no places from the k-th on
abbrev pub NoneFrom : List Place → ℕ → Type 0
NoneFrom ps k = (j : ℕ) → k ≤ j → get_or ps j nowhere ≡ nowhere

-- what is told up to the presence flags, which are those of f: no refusal, and the values
abbrev pub front_numbers : ℕ → List ℕ → List ℕ
front_numbers f p =
    (0 ∷ primary_numbers (primary_of p)) ++ (name_numbers (fixed_here p) ++ (routing_numbers (fixed_here p) ++ present_numbers (flags_of f)))

-- the last numbers: H, the body's place, nothing beside no refusal, and whether a zone is there
pub record Ended (p : List ℕ) (f at : ℕ) (l m : List ℕ) : Type 0 where
  pub walk : body_test p (goes at) ≡ goes at
  pub same :
      m
      ≡ sets l 69 ((at - 6 - counter_size p) ∷ at ∷ (length p - at) ∷ 0 ∷ 0 ∷ bit (flags_of f).zone ∷ [])
