-- What is told of a whole recording, and of salvaging a damaged one, as plain numbers, the refusal first, made from what
-- the call answers in Rattle and from nothing else.
-- SPEC A-2: beside a refusal's number all else is 0.
-- Assumes nothing: these are definitions.
use Rattle.std.specs.Prelude.{ℕ, List, [], ◌∷◌}
use Rattle.recording.specs.Answer.{Why}
use Rattle.recording.specs.Answer.{Unsaid, Ended, Unmarked, Torn}
use Rattle.recording.specs.Answer.{Recorded}
use Rattle.octets.specs.Octets.{pick}
use Rattle.salvage.specs.Answer.{Salvaged}

abbrev pub why_number : Why → ℕ
why_number Unsaid = 0
why_number Ended = 1
why_number Unmarked = 2
why_number Torn = 3

-- refusal, octets written, the place where it stopped, and why
abbrev pub recorded_numbers : Recorded → List ℕ
recorded_numbers r = r.refusal.number ∷ r.written ∷ r.place ∷ why_number r.why ∷ []

-- refusal, places tested, entries listed, where the open stretch begins, the next place, and whether the whole file is listed
abbrev pub salvaged_numbers : Salvaged → List ℕ
salvaged_numbers r = r.refusal.number ∷ r.tested ∷ r.entries ∷ r.begin ∷ r.place ∷ pick r.done 1 0 ∷ []
