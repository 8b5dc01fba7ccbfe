-- `utf8::ended_at` meets its contract, by what it calls.
use Rattle.utf8.specs.Places.{ended_at}
use Rattle.utf8.proofs.ended_at.Goals as goal

pub returns : goal.returns
unfolding ended_at
returns c =
    simp (c.ended.ensures, c.octet_before-3.ensures, c.octet_before-2.ensures, c.octet_before.ensures)
