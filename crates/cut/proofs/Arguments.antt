-- The arguments of `cut::count` and of `cut::packet` by their names, and the output afterwards: so that a law over a generated contract
-- says which is which. And those of `cut::count_by` and `cut::packet_by`, which have one more before them.
-- Assumes nothing: these are definitions.
use Prim.Native.Nat.{ℕ}
use mathlib.Core.Bool.{Bool}
use mathlib.Core.List.{List}
use contract.Lifetimes as L
use denote.Triple.Clauses.{AtExit}
use borrow.Fn.Kinds.{ended_of}
use borrow.Fn.World.{ArgsD}
use Rattle.walk.specs.declared.Settings.{Settings}
use Rattle.sender.specs.declared.Sender.{Sender}
use Rattle.write.specs.declared.HeaderValues.{HeaderValues}
use Rattle.write.specs.Given.{Lent, lent_of}
use Rattle.write.specs.Writing.{is_old}
use Rattle.cut.specs.contracts.count as counts
use Rattle.cut.specs.contracts.packet as cuts
use Rattle.cut.proofs.packet.Kinds as kinds
use Rattle.cut.specs.contracts.count_by as count-bys
use Rattle.cut.specs.contracts.packet_by as cut-bys
use Rattle.cut.proofs.packet_by.Kinds as by-kinds

-- ---- `cut::count`

pub record CountCall : Type 0 where
  pub settings : Settings
  pub limit : ℕ
  pub header : HeaderValues
  pub texts : Lent
  pub long : ℕ  -- of the body
  pub sender : Sender

abbrev pub count_call : (κs : L.Lfts 1) → ArgsD counts.signature κs → CountCall
count_call κs a =
    record {
      settings = a.0;
      limit = a.1.0;
      header = a.1.1.0;
      texts = lent_of a.1.1.1.0;
      long = a.1.1.1.1.0;
      sender = a.1.1.1.1.1.0;
    }

-- ---- `cut::packet`

pub record CutCall : Type 0 where
  pub settings : Settings
  pub limit : ℕ
  pub header : HeaderValues
  pub texts : Lent
  pub body : List ℕ
  pub sender : Sender
  pub index : ℕ
  pub output : List ℕ

abbrev pub cut_call : (κs : L.Lfts 3) → ArgsD cuts.signature κs → CutCall
cut_call κs a =
    record {
      settings = a.0;
      limit = a.1.0;
      header = a.1.1.0;
      texts = lent_of a.1.1.1.0;
      body = a.1.1.1.1.0.now;
      sender = a.1.1.1.1.1.0;
      index = a.1.1.1.1.1.1.0;
      output = a.1.1.1.1.1.1.1.0.now;
    }

-- the output afterwards
abbrev pub cut_output : (κs : L.Lfts 3) → AtExit (ended_of 3 kinds.ps kinds.r) κs → List ℕ
cut_output κs x = x.1.1.1.1.1.1.1.0.now

-- ---- `cut::count_by` and `cut::packet_by`

-- whether it is the old cutter
abbrev pub count_old : (κs : L.Lfts 1) → ArgsD count-bys.signature κs → Bool
count_old κs a = is_old a.0

abbrev pub count_by_call : (κs : L.Lfts 1) → ArgsD count-bys.signature κs → CountCall
count_by_call κs a = count_call κs a.1

abbrev pub cut_old : (κs : L.Lfts 3) → ArgsD cut-bys.signature κs → Bool
cut_old κs a = is_old a.0

abbrev pub cut_by_call : (κs : L.Lfts 3) → ArgsD cut-bys.signature κs → CutCall
cut_by_call κs a = cut_call κs a.1

abbrev pub cut_by_output : (κs : L.Lfts 3) → AtExit (ended_of 3 by-kinds.ps by-kinds.r) κs → List ℕ
cut_by_output κs x = x.1.1.1.1.1.1.1.1.0.now
