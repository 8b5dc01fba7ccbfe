-- `carry::id_fits` meets its contract: an id that is absent fits.
use Rattle.carry.specs.Digits.{id_fits}
use Rattle.carry.proofs.id_fits.Goals as goal

pub returns-then-there : goal.returns-then-there
unfolding id_fits
returns-then-there c =
    simp (c.if-there.true, c.is_id.ensures)

pub returns : goal.returns
unfolding id_fits
returns c =
    simp c.if-there.false
