-- The test for text, octet by octet. Its state is the three octets before, which is all that the next one depends on:
--
--   E2 82 AC   E2 begins a character of three octets: one of 80 to BF stands next to it, and one at the second place after it
--
-- Assumes nothing: these are definitions.
use Rattle.std.specs.Prelude.{ℕ, Bool, true, false, List, [], ◌∷◌, ltb, leb, eqb}
use Rattle.octets.specs.Octets.{pick}

abbrev pub both : Bool → Bool → Bool
both p q = pick p q false

abbrev pub either : Bool → Bool → Bool
either p q = pick p true q

-- no character is unfinished after the octets a, b, c: c begins none of more than one octet, b none of more than two, a none of four
unfoldable pub ended : ℕ → ℕ → ℕ → Bool
ended a b c = both (ltb a 0xF0) (both (ltb b 0xE0) (ltb c 0xC0))

-- a character begins with d
unfoldable pub begins : ℕ → Bool
begins d = either (ltb d 0x80) (both (leb 0xC2 d) (leb d 0xF4))

-- the least and the largest octet after c inside a character. After E0 and F0 less would be a longer writing than the character needs,
-- after ED more would be a surrogate, after F4 above the last character
unfoldable pub lowest : ℕ → ℕ
lowest c = pick (eqb c 0xE0) 0xA0 (pick (eqb c 0xF0) 0x90 0x80)

unfoldable pub highest : ℕ → ℕ
highest c = pick (eqb c 0xED) 0x9F (pick (eqb c 0xF4) 0x8F 0xBF)

unfoldable pub continues : ℕ → ℕ → Bool
continues c d = both (leb (lowest c) d) (leb d (highest c))

-- d may stand after a, b, c
unfoldable pub follows : ℕ → ℕ → ℕ → ℕ → Bool
follows a b c d = pick (ended a b c) (begins d) (continues c d)

-- each octet may stand after the three before it, and at the end no character is unfinished
unfoldable pub accepts : ℕ → ℕ → ℕ → List ℕ → Bool
accepts a b c [] = ended a b c
accepts a b c (d ∷ o) = both (follows a b c d) (accepts b c d o)

-- before the first octet three are taken that end characters
unfoldable pub is_text : List ℕ → Bool
is_text o = accepts 0 0 0 o

-- every octet is a character by itself
unfoldable pub all_single : List ℕ → Bool
all_single [] = true
all_single (d ∷ o) = both (ltb d 0x80) (all_single o)
