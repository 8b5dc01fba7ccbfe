-- The presence flags as numbers; the transaction id as two numbers of four octets.
-- Assumes nothing.
use Prim.Native.Nat.{ℕ, zero, suc, ◌/◌, ◌%◌, ◌<◌}
use mathlib.Core.Path.{◌≡◌, refl}
use mathlib.Core.List.{List}
use native.Mathlib.Omega.{arith}
use lib.Dec.{eqb}
use lib.ListN.{set}
use lib.Seq.{sets}
use Rattle.octets.specs.Octets.{pick}
use Rattle.packet.specs.FixedPart.{flags_of}
use Rattle.flat.specs.Told.{present_numbers}

-- a flag as a number
pub bit_of : (x : ℕ) → pick (eqb (x % 2) 1) 1 0 ≡ x % 2
bit_of x = go (x % 2) (omega arith)
  where
    go : (r : ℕ) → r < 2 → pick (eqb r 1) 1 0 ≡ r
    go zero h = refl
    go (suc zero) h = refl
    go (suc (suc r)) h = absurd (omega arith)

pub flags_laid :
    (l : List ℕ) (f : ℕ) →
    set (set (set (set (set (set (set (set l 16 (f / 128 % 2)) 17 (f / 64 % 2)) 18 (f / 32 % 2)) 19 (f / 16 % 2)) 20 (f / 8 % 2)) 21 (f / 4 % 2)) 22 (f / 2 % 2)) 23 (f % 2)
    ≡ sets l 16 (present_numbers (flags_of f))
unfolding flags_of
flags_laid l f =
    rw (bit_of (f / 128), bit_of (f / 64), bit_of (f / 32), bit_of (f / 16), bit_of (f / 8), bit_of (f / 4), bit_of (f / 2), bit_of f)
