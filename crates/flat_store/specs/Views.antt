-- The view of a body as a place and a length, for a language that gets no part of a slice.
-- SPEC J-6, X-5: what does not lie inside its buffer is an empty part. X-4: 22 for a number that names no buffer.
-- Assumes nothing: these are definitions.
use Rattle.std.specs.Prelude.{ℕ, ◌+◌, List, [], ◌∷◌, length, leb, eqb}
use Rattle.octets.specs.Octets.{pick}

-- refusal, place and length of the part of a buffer; no part is 0 and 0
unfoldable pub inside_numbers : ℕ → ℕ → ℕ → List ℕ
inside_numbers n place long = pick (leb (place + long) n) (0 ∷ place ∷ long ∷ []) (0 ∷ 0 ∷ 0 ∷ [])

abbrev pub unnamed : List ℕ
unnamed = 22 ∷ 0 ∷ 0 ∷ []

-- the buffer by its number: 0 none, 1 the packet, 2 the joined one; a number above 2 names none and is refused
unfoldable pub view_numbers : ℕ → List ℕ → List ℕ → ℕ → ℕ → List ℕ
view_numbers w p j place long =
    pick (eqb w 0) (inside_numbers 0 place long)
    (pick (eqb w 1) (inside_numbers (length p) place long)
    (pick (eqb w 2) (inside_numbers (length j) place long) unnamed))
