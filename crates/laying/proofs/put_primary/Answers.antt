-- `laying::put_primary` meets its contract.
use Rattle.laying.proofs.Pieces.{primary_laid}
use Rattle.laying.proofs.put_primary.Goals as goal

pub returns : goal.returns
returns c =
    rw (c.two.ensures, c.four.ensures) (primary_laid c.args.h.now _ _ _ _ c.requires.own.flags_top c.requires.own.count_top)
