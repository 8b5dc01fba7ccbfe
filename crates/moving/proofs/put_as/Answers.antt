-- `moving::put_as` meets its contract: what the row begins with, and then as many zeros as are left.
use Rattle.moving.proofs.Passing.{row_laid}
use Rattle.moving.proofs.put_as.Goals as goal

pub returns : goal.returns
returns c =
    row_laid c.args.store.now c.args.zero.now c.args.row.now c.args.i c.requires.zero_value c.requires.zero_in_bounds c.place-at.ensures
    c.span-fore.ensures c.less.ensures c.span-aft.ensures c.copy.ensures c.copy-2.ensures
