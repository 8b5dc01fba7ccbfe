-- `carry::content` meets its contract: the two ends are kept inside.
use Prim.Native.Nat.{min}
use lib.ListN.{length}
use mathlib.Core.Path.{◌≡◌}
use native.Mathlib.Omega.{arith}
use Rattle.octets.proofs.Places.{part_at}
use Rattle.carry.proofs.content.Goals as goal

pub slice_bounds-result-count : goal.slice_bounds-result-count
slice_bounds-result-count c =
    omega (arith, c.within-to.ensures)

pub returns : goal.returns
returns c =
    let g = c.args.p.now in let f : c.within-from.result ≡ min c.args.a.at (length g) =
    omega (arith, c.within-from.ensures) in
    part_at g _ _ f c.within-to.ensures
