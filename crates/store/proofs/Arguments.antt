-- The arguments of `store::arrive`, `store::take` and `store::forget` by their names, and the buffers afterwards: so that a law over a generated contract
-- says which is which.
-- Assumes nothing: these are definitions.
use Prim.Native.Nat.{ℕ}
use mathlib.Core.List.{List}
use contract.Lifetimes as L
use denote.Triple.Clauses.{AtExit}
use borrow.Fn.Kinds.{ended_of}
use borrow.Fn.World.{ArgsD}
use Rattle.walk.specs.declared.Settings.{Settings}
use Rattle.store.specs.contracts.arrive as arrives
use Rattle.store.proofs.arrive.Kinds as arrive-kinds
use Rattle.store.specs.contracts.take as takes
use Rattle.store.proofs.take.Kinds as take-kinds
use Rattle.store.specs.contracts.forget as forgets
use Rattle.store.proofs.forget.Kinds as forget-kinds

-- ---- `store::arrive`

pub record ArriveCall : Type 0 where
  pub settings : Settings
  pub store : List ℕ
  pub packet : List ℕ

abbrev pub arrive_call : (κs : L.Lfts 2) → ArgsD arrives.signature κs → ArriveCall
arrive_call κs a = record { settings = a.0; store = a.1.0.now; packet = a.1.1.0.now }

-- the store afterwards
abbrev pub arrive_store : (κs : L.Lfts 2) → AtExit (ended_of 2 arrive-kinds.ps arrive-kinds.r) κs → List ℕ
arrive_store κs x = x.1.0.now

-- ---- `store::take`

pub record TakeCall : Type 0 where
  pub settings : Settings
  pub store : List ℕ
  pub output : List ℕ

abbrev pub take_call : (κs : L.Lfts 2) → ArgsD takes.signature κs → TakeCall
take_call κs a = record { settings = a.0; store = a.1.0.now; output = a.1.1.0.now }

-- the store and the output afterwards
abbrev pub take_store : (κs : L.Lfts 2) → AtExit (ended_of 2 take-kinds.ps take-kinds.r) κs → List ℕ
take_store κs x = x.1.0.now

abbrev pub take_output : (κs : L.Lfts 2) → AtExit (ended_of 2 take-kinds.ps take-kinds.r) κs → List ℕ
take_output κs x = x.1.1.0.now

-- ---- `store::forget`

pub record ForgetCall : Type 0 where
  pub settings : Settings
  pub store : List ℕ
  pub number : ℕ

abbrev pub forget_call : (κs : L.Lfts 1) → ArgsD forgets.signature κs → ForgetCall
forget_call κs a = record { settings = a.0; store = a.1.0.now; number = a.1.1.0 }

-- the store afterwards
abbrev pub forget_store : (κs : L.Lfts 1) → AtExit (ended_of 1 forget-kinds.ps forget-kinds.r) κs → List ℕ
forget_store κs x = x.1.0.now
