-- A taking's answer as the definitions have it: H, B and c of a message, or the refusal, beside which all else is 0.
-- Assumes nothing: these are definitions.
use Rattle.std.specs.Prelude.{ℕ, Result, Ok, Err}
use Rattle.walk.specs.declared.Refusal.{Refusal}
use Rattle.walk.specs.declared.Refused.{Refused}
use Rattle.walk.specs.Walk.{no_refusal}
use Rattle.walk.specs.Told.{told}
use Rattle.packet.specs.declared.SegmentCounter.{SegmentCounter}
use Rattle.taking.specs.declared.Taken.{Taken as Message}

pub record Taken : Type 0 where
  pub refusal : Refusal
  pub header : ℕ
  pub body : ℕ
  pub counter : SegmentCounter

abbrev pub taken_answer : Result Message Refused → Taken
taken_answer (Ok t) = record { refusal = no_refusal; header = t.header; body = t.body; counter = t.counter }
taken_answer (Err r) = record { refusal = told r; header = 0; body = 0; counter = record { 0 = 0 } }
