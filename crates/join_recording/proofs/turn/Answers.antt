-- `join_recording::turn` meets its contract: a step keeps the store in order, and what it answers lies inside the buffers.
use native.Mathlib.Omega.{arith}
use mathlib.Core.Path.{◌∙◌}
use Rattle.steps.proofs.Steps.{as_seen}
use Rattle.join_recording.proofs.Turns.{step_after}
use Rattle.join_recording.proofs.turn.Goals as goal

-- a pair with the names of the clauses
named : {A B C D E : Type 0} → A × (B × (C × (D × E))) → record { store_after : A; n_value_2 : B; from_le_till_2 : C; till_in_bounds_2 : D; room_in_bounds_2 : E }
named p = record { store_after = p.0; n_value_2 = p.1.0; from_le_till_2 = p.1.1.0; till_in_bounds_2 = p.1.1.1.0; room_in_bounds_2 = p.1.1.1.1 }

pub step_there-d-requires : goal.step_there-d-requires
step_there-d-requires c =
    record { zero_value = c.requires.zero_value; store_value = c.requires.store_value; n_value = c.requires.n_value; room_in_bounds = c.requires.room_in_bounds }

pub wait-requires : goal.wait-requires
wait-requires c = record { from_le_till = c.requires.from_le_till; till_in_bounds = c.requires.till_in_bounds }

pub returns-in-More : goal.returns-in-More
returns-in-More c =
    let k = step_after _ _ c.args.n _ c.args.buf.now (λ i. (c.slice_known-1.given i).fits) (λ i. (c.slice_known-2-1.given i).fits) c.args.ends c.args.from c.args.till
    (as_seen c.used-used.ensures c.written-written.ensures ∙ c.step_there-d.ensures.value) c.step_there-d.ensures.store_after c.requires.store_value c.requires.n_value in record {
      store_after = k.order;
      n_value_2 = k.cells;
      from_le_till_2 = c.wait.ensures.from_le_till_2;
      till_in_bounds_2 =
          c.wait.ensures.till_in_bounds_2;
      room_in_bounds_2 = omega (arith, c.wait.ensures.at_value, c.requires.room_in_bounds);
    }

pub returns-then-used-eq0 : goal.returns-then-used-eq0
returns-then-used-eq0 c =
    let k = step_after _ _ c.args.n _ c.args.buf.now (λ i. (c.slice_known-1.given i).fits) (λ i. (c.slice_known-2-1.given i).fits) c.args.ends c.args.from c.args.till
    (as_seen c.used-used.ensures c.written-written.ensures ∙ c.step_there-d.ensures.value) c.step_there-d.ensures.store_after c.requires.store_value c.requires.n_value in named ((
      k.order,
      (
        k.cells,
        (
          omega (arith, c.in_hand.ensures.from_value, c.in_hand.ensures.till_value, c.requires.from_le_till),
          (omega (arith, c.in_hand.ensures.till_value, c.requires.till_in_bounds), omega (arith, c.in_hand.ensures.at_value, c.requires.room_in_bounds)),
        ),
      ),
    ))

pub overflow_add-from : goal.overflow_add-from
overflow_add-from c =
    let k = step_after _ _ c.args.n _ _ (λ i. (c.slice_known-1.given i).fits) (λ i. (c.slice_known-2-1.given i).fits) _ _ c.args.till
    (as_seen c.used-used.ensures c.written-written.ensures ∙ c.step_there-d.ensures.value) c.step_there-d.ensures.store_after c.requires.store_value c.requires.n_value in
    omega (arith, k.used_few, c.requires.from_le_till, c.requires.till_in_bounds)

pub overflow_add-at : goal.overflow_add-at
overflow_add-at c =
    let k = step_after _ _ c.args.n _ c.args.buf.now (λ i. (c.slice_known-1.given i).fits) (λ i. (c.slice_known-2-1.given i).fits) c.args.ends c.args.from c.args.till
    (as_seen c.used-used.ensures c.written-written.ensures ∙ c.step_there-d.ensures.value) c.step_there-d.ensures.store_after c.requires.store_value c.requires.n_value in
    omega (arith, k.written_few, c.requires.room_in_bounds, c.well_formed.1.1.1.1.1.1.1.1.1.1.0.0)

pub gather-requires : goal.gather-requires
gather-requires c =
    let k = step_after _ _ c.args.n _ c.args.buf.now (λ i. (c.slice_known-1.given i).fits) (λ i. (c.slice_known-2-1.given i).fits) c.args.ends c.args.from c.args.till
    (as_seen c.used-used.ensures c.written-written.ensures ∙ c.step_there-d.ensures.value) c.step_there-d.ensures.store_after c.requires.store_value c.requires.n_value in
    let l = c.step_there-d.auto.out in record { at_in_bounds = omega (arith, l, k.written_few, c.requires.room_in_bounds); room_in_bounds = omega (arith, l, c.requires.room_in_bounds) }

pub returns : goal.returns
returns c =
    let k = step_after _ _ c.args.n _ _ (λ i. (c.slice_known-1.given i).fits) (λ i. (c.slice_known-2-1.given i).fits) _ _ c.args.till
    (as_seen c.used-used.ensures c.written-written.ensures ∙ c.step_there-d.ensures.value) c.step_there-d.ensures.store_after c.requires.store_value c.requires.n_value in
    let l = c.step_there-d.auto.out in named ((
      k.order,
      (
        k.cells,
        (
          omega (arith, c.gather.ensures.from_value, c.gather.ensures.till_value, k.used_few, c.requires.from_le_till),
          (omega (arith, c.gather.ensures.till_value, c.requires.till_in_bounds), omega (arith, c.gather.ensures.room_in_bounds_2, l)),
        ),
      ),
    ))
