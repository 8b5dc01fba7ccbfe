-- `laying::cut_packet` meets its contract: what is not cut the short way goes the long way.
use native.Mathlib.Omega.{arith}
use Rattle.laying.proofs.cut_packet.Goals as goal

pub returns-then-size-ne0 : goal.returns-then-size-ne0
returns-then-size-ne0 c =
    rw (← c.settings-s.ensures) (c.cut_short-size.ensures.done (omega (arith, c.if-size-ne0.true)))

pub returns : goal.returns
returns c =
    let k = c.cut_short-size.ensures.kept c.if-size-ne0.false in rw k at c.cut_packet.ensures
