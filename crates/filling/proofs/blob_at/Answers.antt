-- `filling::blob_at` meets its contract.
use Prim.Native.Nat.{◌+◌, ◌≤◌}
use Rattle.filling.proofs.Fields.{moved, into_by, blob_is}
use native.Mathlib.Omega.{arith}
use Rattle.filling.proofs.blob_at.Goals as goal

pub returns : goal.returns
returns c =
    let r = c.in_ok-n.n in let n = c.in_ok-n.ensures in let t : r.next + r.value ≤ c.args.lim = omega (arith, c.if-lim-n.false, n.within.here) in
    into_by (moved (r.next + r.value) n.within t) (blob_is c.args.s c.args.p.now c.args.at n t) c.place_into.ensures
