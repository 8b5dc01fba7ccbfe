-- `untaken::enter_taken` meets its contract: no record, or one that goes onto its chain.
use mathlib.Core.Path.{refl}
use Rattle.cells.proofs.Covering.{header_small}
use Rattle.cells.proofs.Ranges.{none_chained, mark_none, judged_none, row_octets, some_low, some_chained}
use Rattle.cells.proofs.CellSegments.{untaken_told}
use Rattle.cells.proofs.untaken.enter_taken.Goals as goal

pub returns-then-octet-ne-MARK_TAKEN : goal.returns-then-octet-ne-MARK_TAKEN
returns-then-octet-ne-MARK_TAKEN c =
    let r = c.row-r.ensures in let e = mark_none c.args.s _ _ _ r c.octet.ensures c.if-octet-ne-MARK_TAKEN.true in
    none_chained c.args.s _ _ _ r e c.requires.chained c.requires.i_lt_cells_most

pub returns-in_default : goal.returns-in_default
returns-in_default c =
    let r = c.row-r.ensures in let e = judged_none c.args.s _ _ _ r (λ j. (c.type_inv.store j).fits) c.judge.ensures (untaken_told c.judge.result c.in_default.not-Taken) in
    none_chained c.args.s _ _ _ r e c.requires.chained c.requires.i_lt_cells_most

pub range_chain-b-requires : goal.range_chain-b-requires
range_chain-b-requires c =
    let r = c.row-r.ensures in header_small _ _ _ (row_octets _ _ _ _ r (λ j. (c.type_inv.store j).fits) c.in-Taken.ensures) c.in-Taken.ensures refl

pub push-requires-clause-b_lt_chains_all : goal.push-requires-clause-b_lt_chains_all
push-requires-clause-b_lt_chains_all c =
    let r = c.row-r.ensures in some_low _ _ _ _ r (λ j. (c.type_inv.store j).fits) c.in-Taken.ensures refl c.range_chain-b.ensures

pub returns : goal.returns
returns c =
    let r = c.row-r.ensures in
    some_chained _ _ _ _ r (λ k. (c.type_inv.store k).fits) c.in-Taken.ensures refl c.range_chain-b.ensures c.requires.chained c.requires.i_lt_cells_most
    c.push.ensures
