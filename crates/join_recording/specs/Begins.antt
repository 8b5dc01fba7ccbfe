-- SPEC J-1: a run begins with a store of zeros.
use Prim.Native.Nat.{ℕ, ◌*◌}
use mathlib.Core.List.{List}
use lib.ListN.{replicate}

-- n cells of Z octets
abbrev pub zeros : ℕ → ℕ → List ℕ
zeros Z n = replicate (n * Z) 0
