-- The definitions' record for what a step answers.
-- Assumes nothing: these are definitions.
use Rattle.std.specs.Prelude.{ℕ}
use Rattle.walk.specs.declared.Refusal.{Refusal}
use Rattle.walk.specs.Walk.{no_refusal}
use Rattle.steps.specs.declared.Done.{Done as Tells}
use Rattle.steps.specs.declared.Done.TheVariants.{More as Wants, Ended as Ends, Unmarked as Unmarks, Torn as Tears, Packet as Uses}
use Rattle.steps.specs.declared.Became.{Became}
use Rattle.steps.specs.declared.Became.TheVariants.{Passed as Over, Refused as Denied, Kept as Stored, Late as After, Whole as Wholly, Joined as Made}

-- more octets are wanted; the recording ends; no mark follows; a torn mark or packet follows; the packet is passed over as too long; it is
-- refused; it is stored or held already, and nothing is complete; it is of a message that was taken, and nothing is complete; it came whole;
-- a message is joined
pub data What : Type 0 where
  More : What
  Ended : What
  Unmarked : What
  Torn : What
  Passed : What
  Refused : What
  Kept : What
  Late : What
  Whole : What
  Joined : What

-- what it comes to, the refusal of the packet, the octets used up, and those of the output to be written
pub record Done : Type 0 where
  pub what : What
  pub refusal : Refusal
  pub used : ℕ
  pub written : ℕ

abbrev pub told : ℕ → Became → Done
told n Over = record { what = Passed; refusal = no_refusal; used = n; written = 0 }
told n (Denied r) = record { what = Refused; refusal = r; used = n; written = 0 }
told n Stored = record { what = Kept; refusal = no_refusal; used = n; written = 0 }
told n After = record { what = Late; refusal = no_refusal; used = n; written = 0 }
told n (Wholly k) = record { what = Whole; refusal = no_refusal; used = n; written = k }
told n (Made k) = record { what = Joined; refusal = no_refusal; used = n; written = k }

-- a step that uses up no octet and writes none
abbrev pub stays : What → Done
stays w = record { what = w; refusal = no_refusal; used = 0; written = 0 }

abbrev pub answered : Tells → Done
answered Wants = stays More
answered Ends = stays Ended
answered Unmarks = stays Unmarked
answered Tears = stays Torn
answered (Uses n b) = told n b
