-- The arguments of `pdu::write` by their names, and the output afterwards: so that a law over the generated contract says which is which.
-- Assumes nothing: these are definitions.
use Prim.Native.Nat.{ℕ}
use mathlib.Core.List.{List}
use contract.Lifetimes as L
use denote.Triple.Clauses.{AtExit}
use borrow.Fn.Kinds.{ended_of}
use borrow.Fn.World.{ArgsD}
use lib.ListN.{length}
use Rattle.write.specs.Given.{Lent, lent_of}
use Rattle.pdu.specs.declared.PduValues.{PduValues}
use Rattle.pdu.specs.declared.Written.{Written}
use Rattle.pdu.specs.Format.{Pdu}
use Rattle.pdu.specs.Given.{pdu_of}
use Rattle.pdu.specs.Lending.{Lends, Writable}
use Rattle.pdu.specs.Writing.{write_answer, write_output}
use Rattle.pdu.specs.contracts.write as writes
use Rattle.pdu.proofs.write.Kinds as kinds

pub record WriteCall : Type 0 where
  pub values : PduValues
  pub source : List ℕ
  pub destination : List ℕ
  pub texts : Lent
  pub body : List ℕ
  pub output : List ℕ

abbrev pub write_call : (κs : L.Lfts 5) → ArgsD writes.signature κs → WriteCall
write_call κs a =
    record {
      values = a.0;
      source = a.1.0.now;
      destination = a.1.1.0.now;
      texts = lent_of a.1.1.1.0;
      body = a.1.1.1.1.0.now;
      output = a.1.1.1.1.1.0.now;
    }

-- the output afterwards
abbrev pub write_output_lem : (κs : L.Lfts 5) → AtExit (ended_of 5 kinds.ps kinds.r) κs → List ℕ
write_output_lem κs x = x.1.1.1.1.1.0.now

-- what a call has to write, what the types say of it, whether it can be written, and what it answers and leaves in the output
module _ (w : WriteCall) where
  abbrev pub given : Pdu
  given = pdu_of w.values w.source w.destination w.texts w.body

  abbrev pub LendsIt : Type 0
  LendsIt = Lends w.values w.source w.destination w.texts w.body

  abbrev pub CanWrite : Type 0
  CanWrite = Writable w.values w.source w.destination w.texts w.body (length w.output)

  abbrev pub answer_of : Written
  answer_of = write_answer w.values w.source w.destination w.texts w.body (length w.output)

  abbrev pub output_of : List ℕ
  output_of = write_output w.values w.source w.destination w.texts w.body w.output
