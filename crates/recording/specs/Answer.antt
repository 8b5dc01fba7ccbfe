-- The definitions' record for what joining a recording in hand answers: what it tells, or the refusal and zeros.
-- Assumes nothing: these are definitions.
use Rattle.std.specs.Prelude.{ℕ, Result, Ok, Err}
use Rattle.walk.specs.declared.Refusal.{Refusal}
use Rattle.walk.specs.declared.Refused.{Refused}
use Rattle.walk.specs.Walk.{no_refusal}
use Rattle.walk.specs.Told.{told}
use Rattle.recording.specs.declared.Why.{Why as Says}
use Rattle.recording.specs.declared.Why.TheVariants.{Ended as Ends, Unmarked as Unmarks, Torn as Tears}
use Rattle.recording.specs.declared.Recorded.{Recorded as Tells}

-- why it was left: not said if it is refused; it ends there; no mark follows; a torn mark or packet follows
pub data Why : Type 0 where
  Unsaid : Why
  Ended : Why
  Unmarked : Why
  Torn : Why

-- the refusal, why and at which place it stopped, and the octets of the output that are written
pub record Recorded : Type 0 where
  pub refusal : Refusal
  pub why : Why
  pub place : ℕ
  pub written : ℕ

abbrev pub why_said : Says → Why
why_said Ends = Ended
why_said Unmarks = Unmarked
why_said Tears = Torn

abbrev pub refuses : Refusal → Recorded
refuses r = record { refusal = r; why = Unsaid; place = 0; written = 0 }

abbrev pub answered : Result Tells Refused → Recorded
answered (Ok r) = record { refusal = no_refusal; why = why_said r.why; place = r.place; written = r.written }
answered (Err r) = refuses (told r)
