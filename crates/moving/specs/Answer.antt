-- What a move answers, as one record: beside 32 the cell, and else 0; and the code's answer as that record.
-- Assumes nothing: these are definitions.
use Rattle.std.specs.Prelude.{ℕ, Result, Ok, Err}
use Rattle.walk.specs.declared.Refusal.{Refusal}
use Rattle.walk.specs.Walk.{no_refusal}
use Rattle.walk.specs.Told.{told}
use Rattle.moving.specs.declared.Unmoved.{Unmoved}

pub record Moved : Type 0 where
  pub refusal : Refusal
  pub cell : ℕ

abbrev pub moved : {A : Type 0} → Result A Unmoved → Moved
moved (Ok x) = record { refusal = no_refusal; cell = 0 }
moved (Err u) = record { refusal = told u.refused; cell = u.cell }
