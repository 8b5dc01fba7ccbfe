-- `utf8::follows_at` meets its contract, by what it calls.
use Rattle.utf8.specs.Places.{follows_at}
use Rattle.utf8.proofs.follows_at.Goals as goal

pub returns : goal.returns
unfolding follows_at
returns c =
    simp (c.follows.ensures, c.octet_before-3.ensures, c.octet_before-2.ensures, c.octet_before.ensures)
