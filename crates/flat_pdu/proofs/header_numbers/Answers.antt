-- `flat_pdu::header_numbers` meets its contract: its pieces fill the answer from the first number to the last.
use Prim.Native.Nat.{ℕ}
use mathlib.Core.Path.{refl}
use lib.ListN.{replicate, length-replicate}
use Rattle.flat_pdu.proofs.Laying.{header_laid}
use Rattle.flat_pdu.proofs.header_numbers.Goals as goal

pub returns : goal.returns
returns c =
    header_laid _ (replicate 70 0) _ _ _ _ _ _ (length-replicate {A = ℕ} 70 0)
    (rw c.fixed_numbers.ensures at c.put.ensures)
    (rw c.present_numbers.ensures at c.put-2.ensures)
    (rw c.ids_numbers.ensures at c.put-3.ensures)
    (rw c.text_numbers.ensures at c.put-4.ensures)
    (rw c.place_numbers.ensures at c.put-5.ensures)
    refl
