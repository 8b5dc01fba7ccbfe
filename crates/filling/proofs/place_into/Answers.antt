-- `filling::place_into` meets its contract: two numbers, one after the other.
use native.Mathlib.Numerals.{add-one}
use Rattle.filling.proofs.place_into.Goals as goal

pub returns : goal.returns
returns c =
    rw add-one
