-- `taking::run_at` meets its contract: what is no held first opens nothing, and from a first its run is followed.
use mathlib.Core.Path.{refl}
use Rattle.packet.specs.Numbers.{next_counter, steps_most}
use Rattle.cells.proofs.CellSegments.{unheld_told}
use Rattle.taking.proofs.Running.{run_none, run_other, run_inside, run_asked, run_most, run_first}
use Rattle.taking.proofs.run_at.Goals as goal

pub returns-then-flags_in-ne-FIRST : goal.returns-then-flags_in-ne-FIRST
returns-then-flags_in-ne-FIRST c =
    run_none _ _ _ _ _ _ _ c.row-r.ensures c.flags_in.ensures c.if-flags_in-ne-FIRST.true

pub returns-in_default : goal.returns-in_default
returns-in_default c =
    run_other _ _ _ _ _ _ _ c.row-r.ensures c.judge.ensures (unheld_told c.judge.result c.in_default.not-Held)

pub overflow_sub-q : goal.overflow_sub-q
overflow_sub-q c =
    run_inside next_counter steps_most _ _ _ c.args.n _ c.row-r.ensures c.in-Held.ensures c.packet_in-q.ensures (λ i. (c.type_inv.store i).fits) refl

pub follow-requires-clause-asked : goal.follow-requires-clause-asked
follow-requires-clause-asked c =
    let r = c.row-r.ensures in let t = c.in-Held.ensures in let p = c.packet_in-q.ensures in
    (run_asked next_counter steps_most _ _ _ c.args.n _ r t p (λ i. (c.type_inv.store i).fits) refl, run_most next_counter steps_most _ _ _ c.args.n _ r t p (λ i. (c.type_inv.store i).fits) refl)

pub returns : goal.returns
returns c =
    run_first _ _ _ _ _ _ _ c.row-r.ensures c.in-Held.ensures c.packet_in-q.ensures (λ i. (c.type_inv.store i).fits)
    refl c.flags_in.ensures c.if-flags_in-ne-FIRST.false c.follow.ensures
