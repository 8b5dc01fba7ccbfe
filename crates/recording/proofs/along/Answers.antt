-- `recording::along` meets its contract. The loop's invariant: so many octets are used up and so many written, and the rest comes to
-- the rest.
use native.Mathlib.Omega.{arith}
use mathlib.Core.Path.{refl, ◌∙◌}
use Rattle.steps.proofs.Steps.{as_seen}
use Rattle.recording.proofs.Reaching.{going_first, zero_own, rest_lent, going_long, going_room, going_more, going_done}
use borrow.Author.Rules.{rules}
use Rattle.recording.proofs.along.Goals as goal

-- a pair with the names of the clauses
named : {A B C D E : Type 0} → A × (B × (C × (D × E))) → record { zero_value : A; store_value : B; n_value : C; room_in_bounds : D; at_in_bounds : E }
named p = record { zero_value = p.0; store_value = p.1.0; n_value = p.1.1.0; room_in_bounds = p.1.1.1.0; at_in_bounds = p.1.1.1.1 }

-- a pair with the names of the clauses
named_2 : {A B C D : Type 0} → A × (B × (C × D)) → record { place_value : A; stop_value : B; written_value : C; out_after : D }
named_2 p = record { place_value = p.0; stop_value = p.1.0; written_value = p.1.1.0; out_after = p.1.1.1 }

pub loop-s-init : goal.loop-s-init
loop-s-init c =
    (going_first _ _ _ c.requires.s_value c.requires.zero_value c.requires.store_value (λ i. (c.type_inv.x i).fits) c.requires.x_in_bounds, (refl, (refl, refl)))

pub slice_bounds-step_at-count : goal.slice_bounds-step_at-count
slice_bounds-step_at-count c =
    omega (arith, c.loop-s.invariant.0.within)

pub slice_bounds-step_at-start : goal.slice_bounds-step_at-start
slice_bounds-step_at-start c =
    omega (arith, c.loop-s.invariant.0.within)

pub step_at-d-requires : goal.step_at-d-requires
step_at-d-requires c =
    named ((
      zero_own c.requires.zero_value,
      (
        c.loop-s.invariant.0.order,
        (
          c.loop-s.invariant.0.count,
          (omega (arith, c.requires.room_in_bounds, c.loop-s.invariant.1.1.0), going_room c.loop-s.invariant.0),
        ),
      ),
    ))

pub returns-then-used-eq0 : goal.returns-then-used-eq0
returns-then-used-eq0 c =
    named_2 (going_done c.loop-s.invariant.0 (rest_lent c.args.x.now c.loop-s.place) (as_seen c.used-used.ensures c.written-more.ensures ∙ c.step_at-d.ensures.value)
    c.step_at-d.ensures.store_after c.step_at-d.ensures.out_after c.if-used-eq0.true)

pub overflow_add-place : goal.overflow_add-place
overflow_add-place c =
    omega (
      arith,
      (going_more c.loop-s.invariant.0 (rest_lent c.args.x.now c.loop-s.place)
          (as_seen c.used-used.ensures c.written-more.ensures ∙ c.step_at-d.ensures.value)
          c.step_at-d.ensures.store_after
          c.step_at-d.ensures.out_after c.if-used-eq0.false).within,
    )

pub overflow_add-written : goal.overflow_add-written
overflow_add-written c =
    let k = going_more c.loop-s.invariant.0
    (rest_lent
    c.args.x.now c.loop-s.place)
    (as_seen c.used-used.ensures c.written-more.ensures ∙ c.step_at-d.ensures.value)
    c.step_at-d.ensures.store_after
    c.step_at-d.ensures.out_after c.if-used-eq0.false in
    omega (
      arith,
      going_room k,
      going_long k,
      c.well_formed.1.1.1.1.1.0,
    )

pub loop-s-smaller : goal.loop-s-smaller
loop-s-smaller c =
    omega (
      arith,
      (going_more c.loop-s.invariant.0 (rest_lent c.args.x.now c.loop-s.place)
          (as_seen c.used-used.ensures c.written-more.ensures ∙ c.step_at-d.ensures.value) c.step_at-d.ensures.store_after c.step_at-d.ensures.out_after c.if-used-eq0.false).within,
      c.if-used-eq0.false,
    )

pub loop-s-preserved : goal.loop-s-preserved
loop-s-preserved c = (
  going_more c.loop-s.invariant.0 (rest_lent c.args.x.now c.loop-s.place) (as_seen c.used-used.ensures c.written-more.ensures ∙ c.step_at-d.ensures.value)
      c.step_at-d.ensures.store_after c.step_at-d.ensures.out_after c.if-used-eq0.false,
  (search rules, (search rules, search rules)),
)
