-- `laying::has_room` meets its contract.
use Prim.Native.Nat.{◌+◌}
use Rattle.laying.proofs.Pieces.{room_same}
use borrow.Author.Tests.{lt-leb}
use mathlib.Core.Path.{sym}
use native.Mathlib.Omega.{arith}
use Rattle.laying.proofs.has_room.Goals as goal

pub returns-then-len-at : goal.returns-then-len-at
returns-then-len-at c =
    sym (lt-leb (c.args.at + c.args.n) c.args.len (omega arith))

pub returns : goal.returns
returns c =
    room_same c.args.len c.args.at c.args.n (omega (arith, c.if-len-at.false))
