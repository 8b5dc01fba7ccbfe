-- Worked examples: some octets, and whether they are text.
-- Assumes nothing: these are definitions.
use Rattle.std.specs.Prelude.{ℕ, Bool, true, false, List, [], ◌∷◌}

pub record Sample : Type 0 where
  pub octets : List ℕ
  pub said : Bool

abbrev pub text : List ℕ → Sample
text o = record { octets = o; said = true }

abbrev pub none : List ℕ → Sample
none o = record { octets = o; said = false }

abbrev pub samples : List Sample
samples =
    -- nothing; U+0000; U+007F, U+0080; a byte order mark; U+FFFE, U+FFFF; the last before the surrogates and the first after;
    -- the first of four octets and the last
    text []
    ∷ text (0x00 ∷ [])
    ∷ text (0x7F ∷ 0xC2 ∷ 0x80 ∷ [])
    ∷ text (0xEF ∷ 0xBB ∷ 0xBF ∷ [])
    ∷ text (0xEF ∷ 0xBF ∷ 0xBE ∷ 0xEF ∷ 0xBF ∷ 0xBF ∷ [])
    ∷ text (0xED ∷ 0x9F ∷ 0xBF ∷ 0xEE ∷ 0x80 ∷ 0x80 ∷ [])
    ∷ text (0xF0 ∷ 0x90 ∷ 0x80 ∷ 0x80 ∷ [])
    ∷ text (0xF4 ∷ 0x8F ∷ 0xBF ∷ 0xBF ∷ [])
    -- a surrogate, and two that would be a pair
    ∷ none (0xED ∷ 0xA0 ∷ 0x80 ∷ [])
    ∷ none (0xED ∷ 0xA0 ∷ 0xBD ∷ 0xED ∷ 0xB8 ∷ 0x80 ∷ [])
    -- longer than the character needs
    ∷ none (0xC0 ∷ 0x80 ∷ [])
    ∷ none (0xC1 ∷ 0xBF ∷ [])
    ∷ none (0xE0 ∷ 0x80 ∷ 0x80 ∷ [])
    ∷ none (0xE0 ∷ 0x9F ∷ 0xBF ∷ [])
    ∷ none (0xF0 ∷ 0x80 ∷ 0x80 ∷ 0x80 ∷ [])
    ∷ none (0xF0 ∷ 0x8F ∷ 0xBF ∷ 0xBF ∷ [])
    -- above the last character
    ∷ none (0xF4 ∷ 0x90 ∷ 0x80 ∷ 0x80 ∷ [])
    ∷ none (0xF5 ∷ 0x80 ∷ 0x80 ∷ 0x80 ∷ [])
    ∷ none (0xFF ∷ [])
    -- cut short, at the end and before another character
    ∷ none (0xC3 ∷ [])
    ∷ none (0xE2 ∷ 0x82 ∷ [])
    ∷ none (0xF0 ∷ 0x9F ∷ 0x9A ∷ [])
    ∷ none (0xE2 ∷ 0x82 ∷ 0x41 ∷ [])
    ∷ none (0xC3 ∷ 0xC3 ∷ 0xA9 ∷ [])
    -- an octet after a character that has ended
    ∷ none (0x80 ∷ [])
    ∷ none (0xC3 ∷ 0xA9 ∷ 0xA9 ∷ [])
    ∷ []
