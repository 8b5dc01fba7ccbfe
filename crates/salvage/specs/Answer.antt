-- The definitions' record for what a call answers: what it tells, or the refusal and zeros.
-- Assumes nothing: these are definitions.
use Rattle.std.specs.Prelude.{ℕ, Bool, false, Result, Ok, Err}
use Rattle.walk.specs.declared.Refusal.{Refusal}
use Rattle.walk.specs.declared.Refused.{Refused}
use Rattle.walk.specs.Walk.{no_refusal}
use Rattle.walk.specs.Told.{told as told_refusal}
use Rattle.salvage.specs.declared.Salvaged.{Salvaged as Tells}

-- the refusal, the places tested, the entries listed, where the open stretch begins and which place is next, and whether the whole file is listed
pub record Salvaged : Type 0 where
  pub refusal : Refusal
  pub tested : ℕ
  pub entries : ℕ
  pub begin : ℕ
  pub place : ℕ
  pub done : Bool

-- refused, with nothing told
abbrev pub refuses : Refusal → Salvaged
refuses r = record { refusal = r; tested = 0; entries = 0; begin = 0; place = 0; done = false }

abbrev pub told : Tells → Salvaged
told r =
    record {
      refusal = no_refusal;
      tested = r.tested;
      entries = r.entries;
      begin = r.stop.begin;
      place = r.stop.place;
      done = r.done;
    }

abbrev pub answered : Result Tells Refused → Salvaged
answered (Ok r) = told r
answered (Err r) = refuses (told_refusal r)
