-- How many steps lead from one counter to another, as the code counts them.
-- Assumes nothing.
use Prim.Native.Nat.{ℕ, suc, ◌+◌, ◌-◌, ◌≤◌, ◌<◌}
use mathlib.Core.Path.{◌≡◌, refl}
use native.Mathlib.Omega.{arith}
use borrow.Author.Tests.{le-leb, lt-leb}
use Rattle.octets.specs.Octets.{most32}
use Rattle.cells.specs.Rows.{steps_between}

pub steps_up : (c d : ℕ) → c ≤ d → d - c ≡ steps_between c d
unfolding steps_between
steps_up c d h = rw (le-leb c d h) refl

pub steps_round : (c d : ℕ) → d < c → c ≤ most32 → most32 - c + d + 1 ≡ steps_between c d
unfolding steps_between
steps_round c d h l =
    let e : most32 - c + d + 1 ≡ suc most32 - c + d = omega arith in
    rw (lt-leb c d h) e
