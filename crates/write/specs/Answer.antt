-- The record of the definitions for what writing answers: the octets written, or the refusal and 0.
-- Assumes nothing: these are definitions.
use Rattle.std.specs.Prelude.{ℕ, Result, Ok, Err}
use Rattle.walk.specs.declared.Refusal.{Refusal}
use Rattle.walk.specs.declared.Refused.{Refused}
use Rattle.walk.specs.Walk.{no_refusal}
use Rattle.walk.specs.Told.{told}

pub record Written : Type 0 where
  pub refusal : Refusal
  pub length : ℕ

abbrev pub written : Result ℕ Refused → Written
written (Ok n) = record { refusal = no_refusal; length = n }
written (Err r) = record { refusal = told r; length = 0 }
