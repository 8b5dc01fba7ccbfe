-- `light::segment` meets its contract.
use Prim.Native.Nat.{ℕ, ◌/◌}
use mathlib.Core.Path.{ap}
use Rattle.light.proofs.segment.Goals as goal

pub returns : goal.returns
returns c =
    let f = ap (λ (x : ℕ). x / 64) c.octet.ensures.value in
    let n = c.double.ensures.value in λ i. record { flags = f i; counter = record { 0 = n i }; body = 31 }
