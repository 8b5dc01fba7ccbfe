-- The arguments of `salvage::salvage` and `salvage::salvage_part` by their names, and the list afterwards: so that a law over the generated
-- contract says which is which.
-- Assumes nothing: these are definitions.
use Prim.Native.Nat.{ℕ}
use mathlib.Core.Bool.{Bool}
use mathlib.Core.List.{List}
use contract.Lifetimes as L
use denote.Triple.Clauses.{AtExit}
use borrow.Fn.Kinds.{ended_of}
use borrow.Fn.World.{ArgsD}
use Rattle.walk.specs.declared.Settings.{Settings}
use Rattle.salvage.specs.contracts.salvage as salvages
use Rattle.salvage.proofs.salvage.Kinds as kinds
use Rattle.salvage.specs.contracts.salvage_part as parts
use Rattle.salvage.proofs.salvage_part.Kinds as part-kinds

pub record SalvageCall : Type 0 where
  pub settings : Settings
  pub file : List ℕ
  pub begin : ℕ
  pub place : ℕ
  pub grant : ℕ
  pub list : List ℕ

abbrev pub salvage_call : (κs : L.Lfts 2) → ArgsD salvages.signature κs → SalvageCall
salvage_call κs a =
    record {
      settings = a.0;
      file = a.1.0.now;
      begin = a.1.1.0.begin;
      place = a.1.1.0.place;
      grant = a.1.1.1.0;
      list = a.1.1.1.1.0.now;
    }

-- the list afterwards
abbrev pub salvage_list : (κs : L.Lfts 2) → AtExit (ended_of 2 kinds.ps kinds.r) κs → List ℕ
salvage_list κs x = x.1.1.1.1.0.now

-- a part of the file in hand

pub record PartCall : Type 0 where
  pub settings : Settings
  pub part : List ℕ
  pub off : ℕ
  pub ends : Bool
  pub begin : ℕ
  pub place : ℕ
  pub grant : ℕ
  pub list : List ℕ

abbrev pub part_call : (κs : L.Lfts 2) → ArgsD parts.signature κs → PartCall
part_call κs a =
    record {
      settings = a.0;
      part = a.1.0.octets.now;
      off = a.1.0.off;
      ends = a.1.0.ends;
      begin = a.1.1.0.begin;
      place = a.1.1.0.place;
      grant = a.1.1.1.0;
      list = a.1.1.1.1.0.now;
    }

abbrev pub part_list : (κs : L.Lfts 2) → AtExit (ended_of 2 part-kinds.ps part-kinds.r) κs → List ℕ
part_list κs x = x.1.1.1.1.0.now
