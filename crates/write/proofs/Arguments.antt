-- The arguments of `write::write` by their names, and the output afterwards: so that a law over the generated contract says which is
-- which. And those of `write::write_by`, which has one more before them.
-- Assumes nothing: these are definitions.
use Prim.Native.Nat.{ℕ}
use mathlib.Core.Bool.{Bool}
use mathlib.Core.List.{List}
use contract.Lifetimes as L
use denote.Triple.Clauses.{AtExit}
use borrow.Fn.Kinds.{ended_of}
use borrow.Fn.World.{ArgsD}
use Rattle.walk.specs.declared.Settings.{Settings}
use Rattle.write.specs.declared.HeaderValues.{HeaderValues}
use Rattle.write.specs.declared.PacketValues.{PacketValues}
use Rattle.write.specs.Given.{Lent, lent_of}
use Rattle.write.specs.Writing.{is_old}
use Rattle.write.specs.contracts.write as writes
use Rattle.write.proofs.write.Kinds as kinds
use Rattle.write.specs.contracts.write_by as bys
use Rattle.write.proofs.write_by.Kinds as by-kinds

pub record WriteCall : Type 0 where
  pub settings : Settings
  pub header : HeaderValues
  pub own : PacketValues
  pub texts : Lent
  pub body : List ℕ
  pub output : List ℕ

abbrev pub write_call : (κs : L.Lfts 3) → ArgsD writes.signature κs → WriteCall
write_call κs a =
    record {
      settings = a.0;
      header = a.1.0;
      own = a.1.1.0;
      texts = lent_of a.1.1.1.0;
      body = a.1.1.1.1.0.now;
      output = a.1.1.1.1.1.0.now;
    }

-- the output afterwards
abbrev pub write_output_lem : (κs : L.Lfts 3) → AtExit (ended_of 3 kinds.ps kinds.r) κs → List ℕ
write_output_lem κs x = x.1.1.1.1.1.0.now

-- ---- `write::write_by`

-- whether it is the old writer
abbrev pub by_old : (κs : L.Lfts 3) → ArgsD bys.signature κs → Bool
by_old κs a = is_old a.0

abbrev pub by_call : (κs : L.Lfts 3) → ArgsD bys.signature κs → WriteCall
by_call κs a = write_call κs a.1

abbrev pub by_output : (κs : L.Lfts 3) → AtExit (ended_of 3 by-kinds.ps by-kinds.r) κs → List ℕ
by_output κs x = x.1.1.1.1.1.1.0.now
