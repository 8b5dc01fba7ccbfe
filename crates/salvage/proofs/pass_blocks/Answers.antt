-- `salvage::pass_blocks` meets its contract. The loop's invariant: the places up to here have no mark.
use mathlib.Core.Path.{sym, ◌∙◌}
use native.Mathlib.Omega.{arith}
use Rattle.salvage.proofs.Passing.{passed_none, passed_block, all_of, block_long, next_long}
use Rattle.salvage.proofs.pass_blocks.Goals as goal

pub loop-at-init : goal.loop-at-init
loop-at-init c =
    passed_none c.requires.from_le_end

pub any_mark-requires : goal.any_mark-requires
any_mark-requires c =
    let x = c.args.file.now in block_long x c.loop-at.at 256 (omega arith) ∙ sym (next_long x c.loop-at.at 256 (omega arith))

pub returns-then-any_mark : goal.returns-then-any_mark
returns-then-any_mark c =
    c.loop-at.invariant

pub loop-at-preserved : goal.loop-at-preserved
loop-at-preserved c =
    let x = c.args.file.now in passed_block c.loop-at.invariant (omega arith) (all_of c.any_mark.ensures (omega (arith, block_long x c.loop-at.at 256 (omega arith)))) c.if-any_mark.false

pub returns : goal.returns
returns c =
    c.loop-at.invariant
