-- The answers of the store's calls as plain numbers, the refusal first. Each is made from what the call answers in Rattle, and from
-- nothing else.
-- SPEC A-2: beside a refusal's number all else is 0.
-- Assumes nothing: these are definitions.
use Rattle.std.specs.Prelude.{ℕ, List, [], ◌∷◌}
use Rattle.walk.specs.declared.Settings.{Settings}
use Rattle.cells.specs.Order.{count_in, gate, through}
use Rattle.taking.specs.Answer.{Taken}
use Rattle.arrival.specs.Arriving.{Arrived}
use Rattle.taking.specs.Taking.{Took}
use Rattle.arrival.specs.Answer.{Arrival}
use Rattle.arrival.specs.Told.{said, arrival_of}
use Rattle.taking.specs.Told.{taken_of}
use Rattle.join.specs.Joining.{Joining}
use Rattle.join.specs.Answer.{Joined}
use Rattle.join.specs.Told.{buffer_number, joined_of}
use Rattle.flat.specs.Told.{told_beside}

-- ---- arrival

abbrev pub arrival_numbers : Arrival → List ℕ
arrival_numbers a = (said a).refusal.number ∷ (said a).word ∷ told_beside (said a).refusal

-- refusal; 1 whole, 2 stored, 3 held or 4 taken; what reading's refusal tells
abbrev pub arrive_numbers : Arrived → List ℕ
arrive_numbers b = arrival_numbers (arrival_of b)

-- ---- taking

abbrev pub taken_numbers : Taken → List ℕ
taken_numbers t = t.refusal.number ∷ t.header ∷ t.body ∷ t.counter.0 ∷ []

-- refusal, H, B and c
abbrev pub take_numbers : Took → List ℕ
take_numbers t = taken_numbers (taken_of t)

-- ---- forgetting

-- the refusal alone
abbrev pub forget_numbers : ℕ → List ℕ
forget_numbers k = k ∷ []

-- ---- joining

abbrev pub joined_numbers : Joined → List ℕ
joined_numbers j =
    j.refusal.number
    ∷ buffer_number j.which
    ∷ j.place
    ∷ j.length
    ∷ j.header
    ∷ j.body
    ∷ j.counter.0
    ∷ told_beside j.refusal

-- refusal, buffer, place, length, H, B and c, what reading's refusal tells
abbrev pub join_numbers : Joining → List ℕ
join_numbers j = joined_numbers (joined_of j)

-- ---- the order of a store

-- refusal, 15 or 16, and the number of cells
unfoldable pub order_numbers : Settings → ℕ → List ℕ → List ℕ
order_numbers s Z st = through (gate s Z st) (0 ∷ count_in Z st ∷ []) (λ k. k ∷ 0 ∷ [])
