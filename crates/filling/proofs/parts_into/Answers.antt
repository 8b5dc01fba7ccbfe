-- `filling::parts_into` meets its contract.
use Rattle.filling.proofs.Parts.{parted_none, parted_next, parted_done}
use native.Mathlib.Omega.{arith}
use Rattle.filling.proofs.parts_into.Goals as goal

pub loop-k-init : goal.loop-k-init
loop-k-init c =
    parted_none c.args.s c.args.p.now c.args.n c.args.start c.args.answer.now c.requires.within

pub loop-k-preserved : goal.loop-k-preserved
loop-k-preserved c =
    parted_next c.args.s c.args.p.now c.args.n c.args.start c.requires.n_bound c.loop-k.invariant (omega arith) c.in_ok-at.ensures

pub returns : goal.returns
returns c =
    parted_done c.args.s c.args.p.now c.args.n c.args.start c.loop-k.invariant (omega arith)
