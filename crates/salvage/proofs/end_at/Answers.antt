-- `salvage::end_at` meets its contract: the least of what is granted and what is left, if two entries are free.
use native.Mathlib.Omega.{arith}
use Rattle.salvage.proofs.Stepping.{end_low, end_most}
use Rattle.salvage.proofs.end_at.Goals as goal

pub returns-then-free-lt2 : goal.returns-then-free-lt2
returns-then-free-lt2 c =
    end_low _ _ _ _ c.if-free-lt2.true

pub returns : goal.returns
returns c =
    omega (arith, end_most c.args.at c.args.till c.args.grant c.args.free c.if-free-lt2.false)
