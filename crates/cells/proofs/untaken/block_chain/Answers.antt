-- `untaken::block_chain` meets its contract: the level and the number are mixed in.
use mathlib.Core.Path.{ap, ◌∙◌}
use Prim.Native.Nat.{ℕ}
use Rattle.cells.specs.Chains.{mix_in, chain_in}
use Rattle.cells.specs.Blocks.{block_chain}
use Rattle.cells.proofs.untaken.block_chain.Goals as goal

pub returns : goal.returns
unfolding block_chain
returns c =
    c.chain.ensures ∙ ap (λ (k : ℕ). chain_in (mix_in k c.args.number)) c.mix_in.ensures
