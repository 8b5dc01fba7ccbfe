-- Well-formed text: the octets of a list of characters, as RFC 3629 writes each. No test is in it, and no automaton.
-- What a character stands for is not asked: U+0000, a byte order mark, U+FFFE, U+FFFF and the empty text are text.
-- Assumes nothing: these are definitions.
use Rattle.std.specs.Prelude.{ℕ, ◌+◌, ◌/◌, ◌%◌, ◌<◌, ◌≤◌, ◌≡◌, ◌⊎◌, List, [], ◌∷◌, ◌++◌, ltb}
use Rattle.octets.specs.Octets.{pick}

-- a character's number: any up to 0x10FFFF but the surrogates, 0xD800 to 0xDFFF
abbrev pub Scalar : ℕ → Type 0
Scalar c = (c < 0xD800) ⊎ ((0xE000 ≤ c) × (c ≤ 0x10FFFF))

pub data Scalars : List ℕ → Type 0 where
  none : Scalars []
  one : {c : ℕ} {cs : List ℕ} → Scalar c → Scalars cs → Scalars (c ∷ cs)

-- the lowest six bits, as an octet after a character's first
abbrev pub low6 : ℕ → ℕ
low6 c = 0x80 + c % 64

-- a character's octets: one to four by its range, the first tells how many
unfoldable pub utf8 : ℕ → List ℕ
utf8 c =
    pick (ltb c 0x80) (c ∷ [])
    (pick (ltb c 0x800) ((0xC0 + c / 64) ∷ low6 c ∷ [])
    (pick (ltb c 0x10000) ((0xE0 + c / 4096) ∷ low6 (c / 64) ∷ low6 c ∷ [])
    ((0xF0 + c / 262144) ∷ low6 (c / 4096) ∷ low6 (c / 64) ∷ low6 c ∷ [])))

-- one character after another
unfoldable pub encoded : List ℕ → List ℕ
encoded [] = []
encoded (c ∷ cs) = utf8 c ++ encoded cs

-- o is text: the octets of these characters
pub record Text (o : List ℕ) : Type 0 where
  pub characters : List ℕ
  pub scalars : Scalars characters
  pub octets : o ≡ encoded characters
