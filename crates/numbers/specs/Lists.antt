-- The refusals that a call may give, in the order in which SPEC has them tested.
-- Assumes nothing: these are definitions.
use Rattle.std.specs.Prelude.{ℕ}
use mathlib.Core.List.{List, [], ◌∷◌, ◌++◌, Memᴰ}

-- a call's number: 0 if it is not refused, or one of its list
abbrev pub Numbered : List ℕ → ℕ → Type 0
Numbered l n = Memᴰ n (0 ∷ l)

-- what a packet alone is refused by, 14 last; between 27 and 14 the fields come from left to right
abbrev pub of_packet : List ℕ
of_packet = 1 ∷ 2 ∷ 3 ∷ 4 ∷ 5 ∷ 27 ∷ 6 ∷ 7 ∷ 8 ∷ 9 ∷ 10 ∷ 11 ∷ 12 ∷ 13 ∷ 28 ∷ 14 ∷ []

abbrev pub of_reading : List ℕ
of_reading = 15 ∷ of_packet

abbrev pub of_arrival : List ℕ
of_arrival = 15 ∷ 16 ∷ of_packet ++ (17 ∷ 18 ∷ 19 ∷ [])

abbrev pub of_taking : List ℕ
of_taking = 15 ∷ 16 ∷ 20 ∷ 21 ∷ []

abbrev pub of_forgetting : List ℕ
of_forgetting = 15 ∷ 16 ∷ 31 ∷ []

-- arrival's, and then taking's
abbrev pub of_joining : List ℕ
of_joining = of_arrival ++ (20 ∷ 21 ∷ [])

abbrev pub of_writing : List ℕ
of_writing = 15 ∷ 22 ∷ 30 ∷ 13 ∷ 28 ∷ 23 ∷ 12 ∷ 14 ∷ 21 ∷ []

-- a whole recording joined: the settings; the output is too short
abbrev pub of_recording : List ℕ
of_recording = 15 ∷ 21 ∷ []

-- salvaging: the settings, then the state
abbrev pub of_salvage : List ℕ
of_salvage = 15 ∷ 40 ∷ []

-- the order of a store alone
abbrev pub of_order : List ℕ
of_order = 15 ∷ 16 ∷ []

-- a call over plain numbers that refuses nothing else: a number is too wide, or names nothing
abbrev pub of_widths : List ℕ
of_widths = 22 ∷ []

-- the count leaves out the last two of cutting's
abbrev pub of_count : List ℕ
of_count = 15 ∷ 22 ∷ 30 ∷ 13 ∷ 28 ∷ 23 ∷ 12 ∷ 24 ∷ 29 ∷ []

abbrev pub of_cutting : List ℕ
of_cutting = of_count ++ (26 ∷ 21 ∷ [])

-- reading a PDU; after 27 the fields come from left to right
abbrev pub of_pdu_reading : List ℕ
of_pdu_reading = 1 ∷ 7 ∷ 8 ∷ 5 ∷ 27 ∷ 6 ∷ 10 ∷ 11 ∷ 13 ∷ 28 ∷ []

-- and writing one
abbrev pub of_pdu_writing : List ℕ
of_pdu_writing = 22 ∷ 13 ∷ 28 ∷ 23 ∷ 21 ∷ []

-- a message carried to the office: the settings, the encoding id, the message's reading with its fields from left to right, 34, and what
-- the PDU's writer adds
abbrev pub of_to_pdu : List ℕ
of_to_pdu = 15 ∷ 22 ∷ 1 ∷ 2 ∷ 3 ∷ 4 ∷ 12 ∷ 6 ∷ 10 ∷ 7 ∷ 8 ∷ 9 ∷ 11 ∷ 13 ∷ 28 ∷ 34 ∷ 23 ∷ 21 ∷ []

-- and a PDU carried back: the settings, the lent values, the PDU's reading, what a packet has not, the header's limit, the output
abbrev pub of_to_message : List ℕ
of_to_message = 15 ∷ 22 ∷ of_pdu_reading ++ (35 ∷ 33 ∷ 34 ∷ 30 ∷ 12 ∷ 21 ∷ [])
