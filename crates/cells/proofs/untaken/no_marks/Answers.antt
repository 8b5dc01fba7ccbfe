-- `untaken::no_marks` meets its contract: none of the cells has the mark.
use Rattle.std.proofs.Common.{ℕ, not, eqb, rules, tests}
use Rattle.octets.specs.Octets.{octet_at}
use Rattle.cells.specs.Rows.{row_at}
use Rattle.cells.specs.Blocks.{no_marks}
use Rattle.cells.proofs.Passing.{all_in_range}
use Rattle.cells.proofs.untaken.no_marks.Goals as goal

pub returns : goal.returns
unfolding no_marks
returns c =
    let a = c.args in
    all_in_range (λ (k : ℕ). not (eqb (octet_at (row_at a.z a.store.now k) 1) 0x54)) a.n _ _ c.all.result c.all.ensures.ran (search rules)
    (λ x b q k. search (rules, tests))
