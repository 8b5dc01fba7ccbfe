-- A whole recording in hand: where it stops, why, and what is told of it.
-- SPEC G-3: where it stops, and why. G-8: 15 for the settings, then 21 and nothing written if the output is shorter than the recording;
-- what comes out is never longer than that, and so always fits.
-- Assumes nothing: these are definitions.
use Rattle.std.specs.Prelude.{ℕ, zero, suc, ◌+◌, List, length, drop, leb, eqb}
use Rattle.std.proofs.lemmas.List.Edits.{sets}
use Rattle.octets.specs.Octets.{pick}
use Rattle.walk.specs.declared.Settings.{Settings}
use Rattle.walk.specs.Walk.{refusal, begun}
use Rattle.cells.specs.Order.{through}
use Rattle.recording.specs.Answer.{Why}
use Rattle.recording.specs.Answer.{Unsaid, Ended, Unmarked, Torn}
use Rattle.recording.specs.Answer.{Recorded}
use Rattle.steps.specs.Stepping.{Found, nothing, other, cut, whole, found_in}
use Rattle.recording.specs.Recording.{recorded}

-- a whole mark and packet are passed; at anything else it stops
abbrev pub past : Found → ℕ
past nothing = 0
past other = 0
past cut = 0
past (whole p) = 2 + length p

-- the place where it stops, within f marks and packets
unfoldable pub reach_from : ℕ → List ℕ → ℕ
reach_from zero x = 0
reach_from (suc f) x =
    let n = past (found_in x) in
    let r = reach_from f (drop n x) in
    n + r

-- no more packets than octets
unfoldable pub reach : List ℕ → ℕ
reach x = reach_from (length x) x

-- what stands there says why; a whole mark and packet never do
abbrev pub why_at : Found → Why
why_at nothing = Ended
why_at other = Unmarked
why_at cut = Torn
why_at (whole p) = Unsaid

abbrev pub why_of : List ℕ → Why
why_of x = why_at (found_in (drop (reach x) x))

-- 15, then 21: the number by which a recording of n octets is refused with an output of some length, 0 if it is not
unfoldable pub refused_by : Settings → ℕ → ℕ → ℕ
refused_by s n long = pick (eqb (begun s).refused 0) (pick (leb n long) 0 21) 15

-- what is told of a recording with an output of some length
unfoldable pub recorded_of : Settings → ℕ → List ℕ → Recorded
recorded_of s long x =
    through (refused_by s (length x) long)
    (record { refusal = refusal 0; why = why_of x; place = reach x; written = length (recorded s x) })
    (λ k. record { refusal = refusal k; why = Unsaid; place = 0; written = 0 })

-- the output after it
unfoldable pub out_recorded : Settings → List ℕ → List ℕ → List ℕ
out_recorded s out x = through (refused_by s (length x) (length out)) (sets out 0 (recorded s x)) (λ k. out)
