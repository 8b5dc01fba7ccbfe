-- SPEC's figure 14 as a message, and its PDU with encoding id 5.
-- Assumes nothing: these are definitions.
use Rattle.std.specs.Prelude.{ℕ, List, [], ◌∷◌}
use Rattle.carry.specs.declared.Route.{Route}

abbrev pub message : List ℕ
message = 0x18 ∷ 0x05 ∷ 0 ∷ 0 ∷ 1 ∷ 0 ∷ 2 ∷ 0 ∷ 3 ∷ 1 ∷ 0x20 ∷ 6 ∷ 0 ∷ 7 ∷ 0 ∷ 0 ∷ 0 ∷ 0 ∷ 0 ∷ 0 ∷ 0 ∷ 9 ∷ 0 ∷ []

abbrev pub pdu : List ℕ
pdu = 0x20 ∷ 0 ∷ 1 ∷ 0 ∷ 2 ∷ 0 ∷ 3 ∷ 1 ∷ 0x10 ∷ 0 ∷ 0 ∷ 0 ∷ 0 ∷ 0 ∷ 0 ∷ 0 ∷ 9 ∷ 0 ∷ 5 ∷ 0 ∷ 0 ∷ 0 ∷ 0 ∷ []

-- what has no field in the PDU
abbrev pub route : Route
route = record { packet_type = 1; apid = record { 0 = 5 }; secondary_apid = record { 0 = 6 }; qualifier = 7 }
