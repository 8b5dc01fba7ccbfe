-- The optional fields that have a length: texts, the authentication id, the domain; and fields that may be absent.
-- SPEC P-8 to P-10: a zone, a session name and an authentication id are a length, a UInteger, and so many octets; a domain is the
-- number of its parts, and of each part an octet of 1, a length and so many octets. Of a text they are well-formed UTF-8.
-- Assumes nothing: these are definitions.
use Rattle.std.specs.Prelude.{ℕ, zero, suc, List, Bool, false, set, replicate, leb, eqb}
use Rattle.octets.specs.Octets.{pick, octet_at, part as stretch}
use Rattle.utf8.specs.Test.{is_text}
use Rattle.walk.specs.declared.Settings.{Settings}
use Rattle.walk.specs.declared.Bound.{Bound}
use Rattle.walk.specs.Walk.{Reading, Step, octets, check, field_from, uinteger}
use Rattle.fields.specs.declared.Place.{Place}

-- a place and a length; absent, both are 0
abbrev pub place : ℕ → ℕ → Place
place at n = record { at = at; length = n }

abbrev pub nowhere : Place
nowhere = place 0 0

-- a field that is there only if `there`, and else is answered by `none`
abbrev pub opt : {A : Type 0} → Bool → A → (Reading → Step A) → Reading → Step A
opt there none step w = pick there (step w) (record { walk = w; value = none })

-- n octets, as they are: the timestamp
unfoldable pub block : ℕ → Bound → List ℕ → Reading → Step Place
block n b p w = record { walk = octets b p n w; value = place w.at n }

-- a length and as many octets of any value, one field: the authentication id
unfoldable pub blob : Settings → Bound → List ℕ → Reading → Step Place
blob s b p w =
    record {
      walk = field_from w (octets b p (uinteger s b p w).value (uinteger s b p w).walk);
      value = place (uinteger s b p w).walk.at (uinteger s b p w).value;
    }

-- the octets at a place
abbrev pub content_at : List ℕ → Place → List ℕ
content_at p a = stretch p a.at a.length

-- a text: zone, session name, domain part. The same, and its content, once it is there, is tested for 28
unfoldable pub text : Settings → Bound → List ℕ → Reading → Step Place
text s b p w = record { walk = check (is_text (content_at p (blob s b p w).value)) 28 (blob s b p w).walk; value = (blob s b p w).value }

-- a domain part, one field: an octet of 1, else 11, and a text
unfoldable pub marked_text : Settings → Bound → List ℕ → Reading → Step Place
marked_text s b p w = text s b p (check (eqb (octet_at p w.at) 1) 11 (octets b p 1 w))

unfoldable pub part : Settings → Bound → List ℕ → Reading → Step Place
part s b p w = record { walk = field_from w (marked_text s b p w).walk; value = (marked_text s b p w).value }

-- SPEC N-5: at most sixteen parts; each has a place of its own
abbrev pub parts_most : ℕ
parts_most = 16

-- how many parts there are, and where
pub record Parts : Type 0 where
  pub count : ℕ
  pub places : List Place

abbrev pub no_parts : ℕ → Parts
no_parts n = record { count = n; places = replicate 16 nowhere }

-- one part more, as part number k
unfoldable pub part_at : Settings → Bound → List ℕ → ℕ → Step Parts → Step Parts
part_at s b p k d =
    record {
      walk = (part s b p d.walk).walk;
      value = record { count = d.value.count; places = set d.value.places k (part s b p d.walk).value };
    }

-- the first n parts
unfoldable pub parts_to : Settings → Bound → List ℕ → ℕ → Step Parts → Step Parts
parts_to s b p zero d = d
parts_to s b p (suc k) d = part_at s b p k (parts_to s b p k d)

-- a count, above sixteen refused by 13, and as many parts
unfoldable pub domain : Settings → Bound → List ℕ → Reading → Step Parts
domain s b p w =
    pick (leb (uinteger s b p w).value parts_most)
    (parts_to s b p (uinteger s b p w).value (record { walk = (uinteger s b p w).walk; value = no_parts (uinteger s b p w).value }))
    (record { walk = check false 13 (uinteger s b p w).walk; value = no_parts 0 })
