-- `flat::header_numbers` meets its contract: its pieces fill the answer from the first number to the last.
use Prim.Native.Nat.{ℕ}
use mathlib.Core.Path.{refl, ◌∙◌}
use lib.ListN.{replicate, length-replicate}
use Rattle.packet.specs.Decoded.{whole}
use Rattle.flat.proofs.Answers.{header_laid, bit_is}
use Rattle.flat.proofs.header_numbers.Goals as goal

pub returns : goal.returns
returns c =
    header_laid (whole c.args.h) (replicate 75 0) _ _ _ _ _ _ _ _ (length-replicate {A = ℕ} 75 0)
    (rw c.primary_numbers.ensures at c.put.ensures)
    (rw c.name_numbers.ensures at c.put-2.ensures)
    (rw c.routing_numbers.ensures at c.put-3.ensures)
    (rw c.present_numbers.ensures at c.put-4.ensures)
    (rw c.ids_numbers.ensures at c.put-5.ensures)
    (rw c.text_numbers.ensures at c.put-6.ensures)
    refl
    (c.put-7.ensures ∙ simp (c.place_numbers.ensures, c.from.ensures, bit_is c.args.h.withdrawn))
