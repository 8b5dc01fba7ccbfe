-- A run that demand 3 speaks of: two messages of one key with neighbouring counters, those of the first round the end, arriving
-- interleaved at four cells.
-- Assumes nothing: these are definitions.
use Rattle.std.specs.Prelude.{ℕ, List, [], ◌∷◌, ◌++◌}
use Rattle.packet.specs.Numbers.{next_counter, steps_most}
use Rattle.cells.specs.Rows.{Cell}
use Rattle.taking.specs.Taking.{Took}
use Rattle.demand3.specs.Traffic.{Sent, Event, arrives, passes, takes, forgets, taken_from, stepped}

abbrev pub the_key : List ℕ
the_key = 0x18 ∷ 5 ∷ 9 ∷ []

-- counters 4,294,967,294, 4,294,967,295 and 0
abbrev pub three : Sent
three = record { key = the_key; start = 4294967294; one = 1 ∷ 2 ∷ []; two = 3 ∷ 4 ∷ []; more = (5 ∷ []) ∷ [] }

-- counters 1 and 2
abbrev pub two : Sent
two = record { key = the_key; start = 1; one = 6 ∷ []; two = 7 ∷ []; more = [] }

abbrev pub part : ℕ → ℕ → List ℕ → Event
part c f b = arrives record { key = the_key; counter = c; flags = f; body = b }

-- another key, with a counter of the first message
abbrev pub other : Event
other = arrives record { key = 0x18 ∷ 6 ∷ 9 ∷ []; counter = 4294967295; flags = 0; body = 3 ∷ 4 ∷ [] }

-- the last comes first; a take before anything is complete; a packet that is whole, malformed or too long; a repeat in a full
-- store; one octet of output too few, and then enough
abbrev pub morning : List Event
morning =
    part 0 2 (5 ∷ []) ∷ takes 100 ∷ part 1 1 (6 ∷ []) ∷ passes ∷ part 4294967294 1 (1 ∷ 2 ∷ []) ∷ part 0 2 (5 ∷ []) ∷
    part 4294967295 0 (3 ∷ 4 ∷ []) ∷ takes 7 ∷ part 4294967295 0 (3 ∷ 4 ∷ []) ∷ []

abbrev pub noon : List Event
noon = morning ++ takes 8 ∷ []

-- freed cells are used again; the second message is taken; and late repeats of both come
abbrev pub evening : List Event
evening =
    other ∷ part 4294967294 1 (1 ∷ 2 ∷ []) ∷ part 2 2 (7 ∷ []) ∷ takes 5 ∷ part 4294967295 0 (3 ∷ 4 ∷ []) ∷ part 2 2 (7 ∷ []) ∷ takes 100 ∷ []

-- the records of the second message and of the first are forgotten; of a cell that has none, nothing
abbrev pub midnight : List Event
midnight = forgets 1 ∷ forgets 0 ∷ forgets 2 ∷ []

-- after that the first message is sent once more
abbrev pub night : List Event
night = part 4294967294 1 (1 ∷ 2 ∷ []) ∷ part 4294967295 0 (3 ∷ 4 ∷ []) ∷ part 0 2 (5 ∷ []) ∷ []

-- what the takings come to
unfoldable pub takings : List Cell → List Event → List Took
takings cs [] = []
takings cs (arrives t ∷ es) = takings (stepped next_counter steps_most cs (arrives t)) es
takings cs (passes ∷ es) = takings cs es
takings cs (takes long ∷ es) = taken_from next_counter steps_most cs long ∷ takings (stepped next_counter steps_most cs (takes long)) es
takings cs (forgets i ∷ es) = takings (stepped next_counter steps_most cs (forgets i)) es
