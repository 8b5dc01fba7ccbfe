-- `moving::first_too_long` meets its contract.
use Rattle.std.proofs.Common.{length, ◌∙◌, rules, tests}
use Rattle.cells.specs.Rows.{row_at}
use Rattle.cells.proofs.Scans.{first_in_range}
use Rattle.moving.specs.Moving.{too_long, first_too_long}
use Rattle.moving.proofs.first_too_long.Goals as goal

pub returns : goal.returns
unfolding first_too_long
returns c =
    let a = c.args in
    c.unwrap_or.ensures
    ∙ first_in_range (λ i. too_long a.s (length a.zero.now) a.z (row_at (length a.zero.now) a.store.now i)) a.n _ _ c.find.result c.find.ensures.ran (search rules)
    (λ x b q k. search (rules, tests))
