-- The arguments of `recording::join_all` by their names, and the output afterwards: so that a law over the generated contract says
-- which is which.
-- Assumes nothing: these are definitions.
use Prim.Native.Nat.{ℕ}
use mathlib.Core.List.{List}
use contract.Lifetimes as L
use denote.Triple.Clauses.{AtExit}
use borrow.Fn.Kinds.{ended_of}
use borrow.Fn.World.{ArgsD}
use Rattle.walk.specs.declared.Settings.{Settings}
use Rattle.recording.specs.contracts.join_all as alls
use Rattle.recording.proofs.join_all.Kinds as kinds

pub record AllCall : Type 0 where
  pub settings : Settings
  pub recording : List ℕ
  pub output : List ℕ

abbrev pub all_call : (κs : L.Lfts 2) → ArgsD alls.signature κs → AllCall
all_call κs a = record { settings = a.0; recording = a.1.0.now; output = a.1.1.0.now }

-- the output afterwards
abbrev pub all_output : (κs : L.Lfts 2) → AtExit (ended_of 2 kinds.ps kinds.r) κs → List ℕ
all_output κs x = x.1.1.0.now
