-- `carry::test_sizes` meets its contract.
use Rattle.carry.proofs.test_sizes.Goals as goal

pub returns : goal.returns
returns c =
    simp (c.unless.ensures, c.fits_in.ensures, c.unless-a.ensures)
