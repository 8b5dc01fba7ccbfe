-- `taking::take_by` meets its contract: without a last segment no message is complete, and else the chains lent lead through all cells.
use mathlib.Core.Path.{ap, sym, ◌∙◌}
use Rattle.taking.specs.Told.{taken_of}
use Rattle.taking.specs.Taking.{out_with, store_less}
use Rattle.taking.proofs.Takings.{took_nothing}
use Rattle.taking.proofs.take_by.Goals as goal

pub returns-then-n-lowest_last : goal.returns-then-n-lowest_last
unfolding out_with store_less
returns-then-n-lowest_last c =
    let e = took_nothing _ _ _ _ _ c.lowest_last.ensures c.if-n-lowest_last.true in
    record { value = ap taken_of (sym e); out_after = ap (out_with _) (sym e); store_after = ap (store_less _ _ _ _) (sym e) }

pub take_lowest-requires : goal.take_lowest-requires
take_lowest-requires c =
    (c.requires.chained, c.requires.zero_value)
