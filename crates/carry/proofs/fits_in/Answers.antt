-- `carry::fits_in` meets its contract.
use Prim.Native.Nat.{◌+◌}
use borrow.Author.Tests.{lt-leb}
use native.Mathlib.Omega.{arith}
use Rattle.carry.proofs.Made.{fits_same}
use Rattle.carry.proofs.fits_in.Goals as goal

pub returns-then-room-head : goal.returns-then-room-head
returns-then-room-head c =
    simp (lt-leb (c.args.head + c.args.rest) c.args.room (omega (arith, c.if-room-head.true)))

pub returns : goal.returns
returns c =
    fits_same _ _ _ c.if-room-head.false
