-- `cells::is_key` meets its contract: with another transaction id the octets are no key of this packet; else its tests, one after the
-- other, are the definition's.
use native.Mathlib.Omega.{arith}
use Rattle.cells.proofs.Held.{place_least}
use Rattle.cells.proofs.Transactions.{key_apart}
use Rattle.cells.proofs.Within.{key_tested}
use Rattle.cells.proofs.is_key.Goals as goal

pub returns-then-read : goal.returns-then-read
returns-then-read c =
    key_apart _ _ _ c.read.ensures c.read-2.ensures c.if-read.true

pub overflow_sub-c : goal.overflow_sub-c
overflow_sub-c c =
    omega (arith, c.counter_place-c.ensures, place_least c.args.p.now)

pub overflow_add-c : goal.overflow_add-c
overflow_add-c c =
    omega (arith, c.counter_place-c.ensures, place_least c.args.p.now)

pub overflow_add-c-2 : goal.overflow_add-c-2
overflow_add-c-2 c =
    omega (arith, c.counter_place-c.ensures, place_least c.args.p.now)

pub returns : goal.returns
returns c =
    key_tested _ _ _ c.counter_place-c.ensures c.span-ids.ensures c.span-fore.ensures
    (rw c.less.ensures at c.span-aft.ensures) c.span.ensures c.same-first.ensures
    c.span-2.ensures c.same-second.ensures
    c.tail.ensures c.same-third.ensures c.both.ensures c.both-2.ensures
