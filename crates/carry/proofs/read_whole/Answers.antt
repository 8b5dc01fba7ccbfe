-- `carry::read_whole` meets its contract: refused by a test, or read from the identification on.
use Rattle.std.proofs.lemmas.Result.{err_from_is_err_and}
use Rattle.carry.proofs.Whole.{start_refused, begins}
use Rattle.carry.proofs.read_whole.Goals as goal

pub returns-in_err-check_start : goal.returns-in_err-check_start
returns-in_err-check_start c =
    let p = err_from_is_err_and c.from_residual.result c.from_residual.ensures.1 in rw (p.1, p.2) (start_refused c.args.s c.args.encoding _ c.in_err-check_start.ensures)

pub returns : goal.returns
returns c =
    begins c.args.s c.args.encoding _ _ c.in_ok-check_start.ensures c.read_header.ensures
