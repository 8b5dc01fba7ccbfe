-- The arguments of `join::join` by their names, and the buffers afterwards: so that a law over the generated contract says which is
-- which.
-- Assumes nothing: these are definitions.
use Prim.Native.Nat.{ℕ}
use mathlib.Core.List.{List}
use contract.Lifetimes as L
use denote.Triple.Clauses.{AtExit}
use borrow.Fn.Kinds.{ended_of}
use borrow.Fn.World.{ArgsD}
use Rattle.walk.specs.declared.Settings.{Settings}
use Rattle.join.specs.contracts.join as joins
use Rattle.join.proofs.join.Kinds as kinds

pub record JoinCall : Type 0 where
  pub settings : Settings
  pub store : List ℕ
  pub packet : List ℕ
  pub output : List ℕ

abbrev pub join_call : (κs : L.Lfts 3) → ArgsD joins.signature κs → JoinCall
join_call κs a = record { settings = a.0; store = a.1.0.now; packet = a.1.1.0.now; output = a.1.1.1.0.now }

-- the store and the output afterwards
abbrev pub join_store : (κs : L.Lfts 3) → AtExit (ended_of 3 kinds.ps kinds.r) κs → List ℕ
join_store κs x = x.1.0.now

abbrev pub join_output : (κs : L.Lfts 3) → AtExit (ended_of 3 kinds.ps kinds.r) κs → List ℕ
join_output κs x = x.1.1.1.0.now
