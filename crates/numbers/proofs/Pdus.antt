-- Reading and writing a PDU are refused by a number of their own lists.
-- Assumes nothing.
use Prim.Native.Nat.{ℕ}
use mathlib.Core.Path.{◌≡◌, refl}
use mathlib.Core.Bool.{true}
use mathlib.Core.List.{List, ◌∷◌}
use Rattle.write.specs.Given.{Lent}
use Rattle.pdu.specs.declared.PduValues.{PduValues}
use Rattle.pdu.specs.Reading.{read_pdu}
use Rattle.pdu.specs.Writing.{write_answer}
use Rattle.pdu.proofs.Refusals.{reading_has, writing_has}
use Rattle.numbers.specs.Lists.{Numbered, of_pdu_reading, of_pdu_writing}
use Rattle.numbers.proofs.Among.{has, among}

-- a number of either list, by computation
read_known : (n : ℕ) → has (0 ∷ of_pdu_reading) n ≡ true → Numbered of_pdu_reading n
read_known n e = among (0 ∷ of_pdu_reading) n e

write_known : (n : ℕ) → has (0 ∷ of_pdu_writing) n ≡ true → Numbered of_pdu_writing n
write_known n e = among (0 ∷ of_pdu_writing) n e

pub pdu_reading : (p : List ℕ) → Numbered of_pdu_reading (read_pdu p).refusal.number
pdu_reading p =
    reading_has (λ (n : ℕ). Numbered of_pdu_reading n)
    (record {
      none = read_known 0 refl;
      one = read_known 1 refl;
      seven = read_known 7 refl;
      eight = read_known 8 refl;
      five = read_known 5 refl;
      twenty_seven = read_known 27 refl;
      six = read_known 6 refl;
      ten = read_known 10 refl;
      eleven = read_known 11 refl;
      thirteen = read_known 13 refl;
      twenty_eight = read_known 28 refl;
    })
    p

pub pdu_writing :
    (v : PduValues) (source destination : List ℕ) (t : Lent) (body : List ℕ) (room : ℕ) →
    Numbered of_pdu_writing (write_answer v source destination t body room).refusal.number
pdu_writing v source destination t body room =
    writing_has (λ (n : ℕ). Numbered of_pdu_writing n)
    (record {
      none = write_known 0 refl;
      twenty_two = write_known 22 refl;
      thirteen = write_known 13 refl;
      twenty_eight = write_known 28 refl;
      twenty_three = write_known 23 refl;
      twenty_one = write_known 21 refl;
    })
    v source destination t body room
