-- `untaken::clear_near` meets its contract. The loop's invariant: the chains of the levels passed are clear.
use native.Mathlib.Omega.{arith}
use mathlib.Core.Path.{ap, ◌∙◌}
use Rattle.cells.specs.Chains.{mixed, mix_start}
use Rattle.cells.proofs.Mixing.{key_asked}
use Rattle.cells.proofs.Nearby.{nearing_first, nearing_turn, nearing_all, clear_not}
use Rattle.cells.proofs.untaken.clear_near.Goals as goal

pub loop-level-init : goal.loop-level-init
loop-level-init c =
    nearing_first

pub clear_at-requires : goal.clear_at-requires
clear_at-requires c =
    record { zero_value = c.requires.zero_value; asked = c.requires.asked; chained = c.requires.chained }

pub returns-then-not-clear_at : goal.returns-then-not-clear_at
returns-then-not-clear_at c =
    clear_not _ _ _ _ _ _ _ _ _ _ c.clear_at.ensures c.if-not-clear_at.true

pub loop-level-preserved : goal.loop-level-preserved
loop-level-preserved c =
    nearing_turn c.loop-level.invariant c.loop-level-test.true c.clear_at.ensures c.if-not-clear_at.false

pub returns : goal.returns
returns c =
    nearing_all c.loop-level.invariant (λ j. (c.type_inv.store j).fits) (omega (arith, c.well_formed))
    (c.mix_key-m.ensures ∙ ap (mixed mix_start) (key_asked _ _ _ c.requires.asked)) c.loop-level-test.false
