-- How the code's structs stand for the definitions' records: the same fields. And the pieces in which a field is written: laid one
-- after another they are its octets.
-- Assumes nothing: these are definitions.
use Rattle.std.specs.Prelude.{List, [], ◌∷◌, ◌++◌, ℕ, min, length}
use Rattle.walk.specs.declared.Settings.{Settings}
use Rattle.walk.specs.declared.Bound.{Bound}
use Rattle.walk.specs.Walk.{Reading, Step}
use Rattle.fields.specs.declared.Domain.{Domain}
use Rattle.fields.specs.Fields.{domain}
use Rattle.fields.specs.Form.{uinteger_octets}

-- a domain's step, in the code's struct
abbrev pub domain_step : Settings → Bound → List ℕ → Reading → Step Domain
domain_step s b p w =
    record {
      walk = (domain s b p w).walk;
      value = record { count = (domain s b p w).value.count; parts = (domain s b p w).value.places };
    }

unfoldable pub blob_pieces : Settings → List ℕ → List (List ℕ)
blob_pieces s x = uinteger_octets s (length x) ∷ x ∷ []

unfoldable pub text_pieces : Settings → List ℕ → List (List ℕ)
text_pieces s x = blob_pieces s x

unfoldable pub part_pieces : Settings → List ℕ → List (List ℕ)
part_pieces s x = (1 ∷ []) ∷ text_pieces s x

unfoldable pub parts_pieces : Settings → List (List ℕ) → List (List ℕ)
parts_pieces s [] = []
parts_pieces s (t ∷ ts) = part_pieces s t ++ parts_pieces s ts

unfoldable pub domain_pieces : Settings → List (List ℕ) → List (List ℕ)
domain_pieces s ts = uinteger_octets s (length ts) ∷ parts_pieces s ts

-- a size as the code tells it: up to a largest one, which stands for all that are larger
abbrev pub capped_to : ℕ → ℕ → ℕ
capped_to most n = min most n

-- for packets, one above the largest packet
abbrev pub size_most : ℕ
size_most = 65543

abbrev pub capped : ℕ → ℕ
capped n = capped_to size_most n
