-- `untaken::clear_at` meets its contract: one chain and then the other.
use mathlib.Core.Path.{ap, ◌∙◌}
use Rattle.cells.specs.Blocks.{block_chain}
use Rattle.cells.proofs.Ranges.{chain_low}
use Rattle.cells.proofs.Nearby.{two_first, two_second}
use Rattle.cells.proofs.untaken.clear_at.Goals as goal

pub clear_on-requires : goal.clear_on-requires
clear_on-requires c =
    record { zero_value = c.requires.zero_value; asked = c.requires.asked; chained = c.requires.chained; b_lt_chains_all = rw c.block_chain-here.ensures (chain_low _ _ _) }

pub returns-then-not-clear_on : goal.returns-then-not-clear_on
returns-then-not-clear_on c =
    two_first _ _ _ _ _ _ _ _ _ _ c.block_chain-here.ensures c.clear_on.ensures c.if-not-clear_on.true

pub clear_on-requires-2 : goal.clear_on-requires-2
clear_on-requires-2 c =
    record { zero_value = c.requires.zero_value; asked = c.requires.asked; chained = c.requires.chained; b_lt_chains_all = rw c.block_chain-before.ensures (chain_low _ _ _) }

pub returns : goal.returns
returns c =
    two_second _ _ _ _ _ _ _ _ _ _ c.block_chain-here.ensures c.clear_on.ensures c.if-not-clear_on.false
    (c.block_chain-before.ensures ∙ ap (block_chain _ _) c.prior.ensures) c.clear_on-2.ensures
