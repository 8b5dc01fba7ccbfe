-- `untaken::range_chain` meets its contract: the key, the counters and the block are those that stand there.
use Prim.Native.Nat.{ℕ}
use mathlib.Core.Path.{ap, ap₂, ◌∙◌}
use Rattle.cells.specs.declared.untaken.Block.{Block}
use Rattle.cells.specs.Chains.{mixed, mix_start}
use Rattle.cells.specs.Blocks.{block_of, block_chain}
use Rattle.cells.proofs.untaken.range_chain.Goals as goal

pub returns : goal.returns
returns c =
    c.block_chain.ensures
    ∙ ap₂ (λ (m : ℕ) (b : Block). block_chain m b.level b.number)
    (c.mix-m.ensures ∙ ap (mixed mix_start) c.span.ensures)
    (c.block_of-b.ensures ∙ ap₂ block_of c.run_at-run.ensures.first_value c.run_at-run.ensures.steps_value)
