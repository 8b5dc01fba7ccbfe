-- `filling::text_at` meets its contract.
use Prim.Native.Nat.{◌+◌, ◌-◌, ◌≤◌}
use Rattle.filling.proofs.Fields.{moved, into_by, text_is}
use mathlib.Core.Path.{◌≡◌}
use native.Mathlib.Omega.{arith}
use Rattle.filling.proofs.text_at.Goals as goal

pub is_text-requires : goal.is_text-requires
is_text-requires c =
    let w = c.in_ok-n.ensures.within in record { at_le_end = omega arith; end_in_bounds = omega (arith, c.if-lim-n.false, w.here, w.inside); single = c.requires.single }

pub returns : goal.returns
returns c =
    let r = c.in_ok-n.n in let n = c.in_ok-n.ensures in let t : r.next + r.value ≤ c.args.lim = omega (arith, c.if-lim-n.false, n.within.here) in
    let q : r.next + r.value - r.next ≡ r.value = omega arith in
    let h = rw q at (c.is_text.ensures c.if-not-is_text.false) in
    into_by (moved (r.next + r.value) n.within t) (text_is c.args.s c.args.p.now c.args.at n t h) c.place_into.ensures
