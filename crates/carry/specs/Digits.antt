-- An id of a packet, 0 to 255, as the text of a PDU: its decimal digits without leading zeros, and nothing else.
-- SPEC O-8. "7" is 7; "", "007", "+7" and "256" are no id.
-- Assumes nothing: these are definitions.
use Rattle.std.specs.Prelude.{ℕ, ◌+◌, ◌-◌, ◌*◌, ◌/◌, ◌%◌, Bool, true, false, List, [], ◌∷◌, length, ltb, leb, eqb}
use Rattle.octets.specs.Octets.{pick, octet_at, alike, most8}

-- the digit 0
abbrev pub zero_digit : ℕ
zero_digit = 48

-- the digits of a number below 1,000
unfoldable pub digits : ℕ → List ℕ
digits n =
    pick (ltb n 10) ((zero_digit + n) ∷ [])
    (pick (ltb n 100) ((zero_digit + n / 10) ∷ (zero_digit + n % 10) ∷ [])
    ((zero_digit + n / 100) ∷ (zero_digit + n / 10 % 10) ∷ (zero_digit + n % 10) ∷ []))

-- what an octet counts for as a digit
abbrev pub digit_at : List ℕ → ℕ → ℕ
digit_at t i = octet_at t i - zero_digit

-- the number that one, two or three octets write, if they are digits
unfoldable pub value_of : List ℕ → ℕ
value_of t =
    pick (eqb (length t) 1) (digit_at t 0)
    (pick (eqb (length t) 2) (digit_at t 0 * 10 + digit_at t 1) (digit_at t 0 * 100 + digit_at t 1 * 10 + digit_at t 2))

-- a text is an id if it is the digits of what it writes, and that is at most 255
unfoldable pub is_id : List ℕ → Bool
is_id t = pick (leb (value_of t) most8) (alike t (digits (value_of t))) false

-- an id that may be absent: its text, and what the text says
unfoldable pub id_text : Bool → ℕ → List ℕ
id_text there n = pick there (digits n) []

unfoldable pub id_value : Bool → List ℕ → ℕ
id_value there t = pick there (value_of t) 0

unfoldable pub id_fits : Bool → List ℕ → Bool
id_fits there t = pick there (is_id t) true
