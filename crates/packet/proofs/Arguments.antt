-- The arguments of `packet::read` by their names: so that a law over the generated contract says which is which.
-- Assumes nothing: these are definitions.
use Prim.Native.Nat.{ℕ}
use mathlib.Core.List.{List}
use contract.Lifetimes as L
use borrow.Fn.World.{ArgsD}
use Rattle.walk.specs.declared.Settings.{Settings}
use Rattle.packet.specs.contracts.read as reads

pub record ReadCall : Type 0 where
  pub settings : Settings
  pub packet : List ℕ

abbrev pub read_call : (κs : L.Lfts 1) → ArgsD reads.signature κs → ReadCall
read_call κs a = record { settings = a.0; packet = a.1.0.now }
