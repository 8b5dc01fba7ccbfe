-- The answers of carrying as numbers, and the numbers that it is given: one too wide for its field's type stands for the widest, which is
-- out of range as well.
-- Assumes nothing: these are definitions.
use Rattle.std.specs.Prelude.{ℕ, min, List, [], ◌∷◌, get_or}
use Rattle.pdu.specs.declared.Written.{Written}
use Rattle.carry.specs.declared.Route.{Route}
use Rattle.carry.specs.declared.Carried.{Carried}

abbrev pub widest8 : ℕ
widest8 = 255

abbrev pub widest16 : ℕ
widest16 = 65535

abbrev pub widest32 : ℕ
widest32 = 4294967295

abbrev pub within : ℕ → ℕ → ℕ
within most n = min most n

-- packet type, APID, secondary APID, qualifier
unfoldable pub route_of : List ℕ → Route
route_of l =
    record {
      packet_type = within widest8 (get_or l 0 0);
      apid = record { 0 = within widest16 (get_or l 1 0) };
      secondary_apid = record { 0 = within widest16 (get_or l 2 0) };
      qualifier = within widest32 (get_or l 3 0);
    }

-- refusal, octets written, octets before the body, the place beside 6
unfoldable pub written_numbers : Written → List ℕ
written_numbers w = w.refusal.number ∷ w.length ∷ w.header ∷ w.refusal.place ∷ []

-- refusal, H, B, encoding id, octets missing or left over, the place beside 6
unfoldable pub carried_numbers : Carried → List ℕ
carried_numbers c = c.refusal.number ∷ c.header ∷ c.body ∷ c.encoding ∷ c.refusal.octets ∷ c.refusal.place ∷ []
