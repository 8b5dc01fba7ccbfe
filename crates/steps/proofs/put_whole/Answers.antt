-- `steps::put_whole` meets its contract: two parts of the packet, one after the other.
use native.Mathlib.Omega.{arith}
use Rattle.steps.proofs.Frames.{whole_laid}
use Rattle.steps.proofs.put_whole.Goals as goal

pub overflow_sub-result : goal.overflow_sub-result
overflow_sub-result c =
    omega (
      arith,
      (whole_laid c.args.p.now _ c.requires
          c.span.ensures c.span-2.ensures c.lay-at.ensures c.lay-end.ensures).0,
    )

pub returns : goal.returns
returns c =
    let k = whole_laid c.args.p.now _ c.requires c.span.ensures
    c.span-2.ensures c.lay-at.ensures c.lay-end.ensures in record { value = omega (arith, k.0); out_after = k.1 }
