-- Reading is refused by a number of its own list.
-- Assumes nothing.
use Prim.Native.Nat.{ℕ}
use mathlib.Core.Path.{◌≡◌, refl}
use mathlib.Core.Bool.{true}
use mathlib.Core.List.{List, ◌∷◌}
use Rattle.walk.specs.declared.Settings.{Settings}
use Rattle.walk.specs.Walk.{going}
use Rattle.packet.specs.Answer.{Header}
use Rattle.packet.specs.Reading.{ended, refusal_of, refused_header, accepted_header, read_packet}
use Rattle.format.proofs.Refusals.{picked, OfFields, OfStart, ended_has}
use Rattle.numbers.specs.Lists.{Numbered, of_reading}
use Rattle.numbers.proofs.Among.{has, among}

abbrev Known : ℕ → Type 0
Known n = Numbered of_reading n

-- a number of the list, by computation
known : (n : ℕ) → has (0 ∷ of_reading) n ≡ true → Known n
known n e = among (0 ∷ of_reading) n e

fields : (s : Settings) → OfFields s Known
fields s =
    record {
      none = known 0 refl;
      six = known 6 refl;
      seven = known 7 refl;
      eight = known 8 refl;
      nine = known 9 refl;
      ten = λ e. known 10 refl;
      eleven = known 11 refl;
      twelve = known 12 refl;
      thirteen = known 13 refl;
      fourteen = known 14 refl;
      twenty_eight = known 28 refl;
    }

start : (p : List ℕ) → OfStart p Known
start p =
    record {
      fifteen = known 15 refl;
      one = known 1 refl;
      two = known 2 refl;
      three = known 3 refl;
      four = known 4 refl;
      five = λ e. known 5 refl;
      twenty_seven = λ e. known 27 refl;
    }

module _ (s : Settings) (p : List ℕ) where
  pub reading : Numbered of_reading (read_packet s p).refusal.number
  unfolding read_packet accepted_header refused_header refusal_of
  reading =
      picked (λ (x : Header). Known x.refusal.number) (going (ended s p)) (accepted_header s p) (refused_header (refusal_of p (ended s p)))
      (known 0 refl) (ended_has s Known (fields s) p (start p))
