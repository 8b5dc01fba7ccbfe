-- `entries::whose` meets its contract.
use Rattle.entries.specs.Lines.{identity_in}
use Rattle.entries.proofs.whose.Goals as goal

pub returns : goal.returns
unfolding identity_in
returns c =
    simp (c.counter-number.ensures, c.read-transaction.ensures, c.octet-flags.ensures, c.read-apid.ensures)
