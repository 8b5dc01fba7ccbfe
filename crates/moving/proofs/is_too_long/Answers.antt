-- `moving::is_too_long` meets its contract: a packet that fits is none, and any other is one if it is held.
use Rattle.moving.proofs.Passing.{short_told, long_told}
use Rattle.moving.proofs.is_too_long.Goals as goal

pub returns-then-p-z : goal.returns-then-p-z
returns-then-p-z c =
    short_told _ _ _ _ c.packet_in-p.ensures c.if-p-z.true

pub returns : goal.returns
returns c =
    long_told _ _ _ _ c.packet_in-p.ensures c.if-p-z.false c.judge.ensures c.is_held.ensures
