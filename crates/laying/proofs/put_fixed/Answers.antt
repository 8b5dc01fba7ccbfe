-- `laying::put_fixed` meets its contract.
use Rattle.laying.proofs.Pieces.{front_laid}
use Rattle.laying.proofs.put_fixed.Goals as goal

pub returns : goal.returns
returns c =
    front_laid _ _ _ _ c.requires.in_bounds c.put_primary.ensures c.put_names.ensures c.put_routing.ensures
