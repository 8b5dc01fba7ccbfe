-- `cells::mix_key` meets its contract: the three parts of the key are mixed one after the other.
use native.Mathlib.Omega.{arith}
use Rattle.cells.proofs.Held.{place_least}
use Rattle.cells.proofs.Mixing.{key_mixed}
use Rattle.cells.proofs.mix_key.Goals as goal

pub overflow_sub-d : goal.overflow_sub-d
overflow_sub-d c =
    omega (arith, c.counter_place-d.ensures, place_least c.args.q.now)

pub overflow_add-d : goal.overflow_add-d
overflow_add-d c =
    omega (arith, c.counter_place-d.ensures, place_least c.args.q.now)

pub overflow_add-d-2 : goal.overflow_add-d-2
overflow_add-d-2 c =
    omega (arith, c.counter_place-d.ensures, place_least c.args.q.now)

pub returns : goal.returns
returns c =
    let h = c.counter_place-d.ensures in key_mixed _ _
    (rw c.span.ensures at c.mix-ids.ensures)
    (rw (c.span-2.ensures, h) at c.mix-fore.ensures)
    (rw (c.span-3.ensures, c.less.ensures, h) at c.mix.ensures)
