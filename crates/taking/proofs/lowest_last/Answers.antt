-- `taking::lowest_last` meets its contract.
use Rattle.std.proofs.Common.{◌∙◌, rules, tests}
use Rattle.cells.proofs.Scans.{first_in_range}
use Rattle.taking.specs.Follow.{ends_at}
use Rattle.taking.proofs.lowest_last.Goals as goal

pub returns : goal.returns
returns c =
    c.unwrap_or.ensures
    ∙ first_in_range (ends_at c.args.z c.args.store.now) c.args.n _ _ c.find.result c.find.ensures.ran (search rules) (λ x b q k. search (rules, tests))
