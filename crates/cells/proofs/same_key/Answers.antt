-- `cells::same_key_lem` meets its contract: with different transaction ids the keys differ; else its tests are the definition's.
use native.Mathlib.Omega.{arith}
use Rattle.cells.proofs.Held.{place_least}
use Rattle.cells.proofs.Transactions.{spans_apart}
use Rattle.cells.specs.Inner.{spans_alike}
use Rattle.cells.proofs.same_key.Goals as goal

pub returns-then-read : goal.returns-then-read
returns-then-read c =
    spans_apart _ _ _ _ c.read.ensures c.read-2.ensures c.if-read.true

pub overflow_sub-c : goal.overflow_sub-c
overflow_sub-c c =
    omega (
      arith,
      c.counter_place-c.ensures,
      c.counter_place-d.ensures,
      place_least c.args.p.now,
      place_least c.args.q.now,
    )

pub overflow_sub-d : goal.overflow_sub-d
overflow_sub-d c =
    omega (
      arith,
      c.counter_place-c.ensures,
      c.counter_place-d.ensures,
      place_least c.args.p.now,
      place_least c.args.q.now,
    )

pub overflow_add-c : goal.overflow_add-c
overflow_add-c c =
    omega (
      arith,
      c.counter_place-c.ensures,
      c.counter_place-d.ensures,
      place_least c.args.p.now,
      place_least c.args.q.now,
    )

pub overflow_add-c-2 : goal.overflow_add-c-2
overflow_add-c-2 c =
    omega (
      arith,
      c.counter_place-c.ensures,
      c.counter_place-d.ensures,
      place_least c.args.p.now,
      place_least c.args.q.now,
    )

pub overflow_add-d : goal.overflow_add-d
overflow_add-d c =
    omega (
      arith,
      c.counter_place-c.ensures,
      c.counter_place-d.ensures,
      place_least c.args.p.now,
      place_least c.args.q.now,
    )

pub overflow_add-d-2 : goal.overflow_add-d-2
overflow_add-d-2 c =
    omega (
      arith,
      c.counter_place-c.ensures,
      c.counter_place-d.ensures,
      place_least c.args.p.now,
      place_least c.args.q.now,
    )

pub returns : goal.returns
unfolding spans_alike
returns c =
    simp (
      c.both-3.ensures,
      c.both-2.ensures,
      c.both.ensures,
      c.same-aft.ensures,
      c.span-6.ensures,
      c.less-2.ensures,
      c.span-5.ensures,
      c.less.ensures,
      c.same-fore.ensures,
      c.span-4.ensures,
      c.span-3.ensures,
      c.same-ids.ensures,
      c.span-2.ensures,
      c.span.ensures,
      c.both-long.ensures,
      c.counter_place-d.ensures,
      c.counter_place-c.ensures,
    )
