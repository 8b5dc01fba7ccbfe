-- `moving::back` meets its contract: the move to cells of 1,024 octets, by zero cells of both sizes.
use mathlib.Core.Path.{refl}
use native.Mathlib.Omega.{arith}
use Rattle.moving.proofs.back.Goals as goal

pub move_by-requires : goal.move_by-requires
move_by-requires c =
    record { from_value = refl; to_value = refl; to_len_bound = omega arith }

pub returns : goal.returns
returns c =
    record { value = c.move_by.ensures.value; after = c.move_by.ensures.target_after; octets = λ i. (c.type_inv.new i).fits }
