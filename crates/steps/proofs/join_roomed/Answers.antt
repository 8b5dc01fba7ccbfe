-- `steps::join_roomed` meets its contract: once, or after the lowest record is forgotten.
use mathlib.Core.Path.{ap, sym, ◌∙◌}
use borrow.Author.Tests.{eqb-true, eqb-false, not-true, not-false}
use Rattle.std.specs.Prelude.{Err}
use Rattle.walk.specs.declared.Refusal.{Refusal}
use Rattle.steps.proofs.Roomed.{meets_once, left_gate, left_count, again_gate, again_count, again_out, meets_none, meets_again, said_err}
use Rattle.steps.proofs.join_roomed.Goals as goal

pub returns-then-not-is_full : goal.returns-then-not-is_full
returns-then-not-is_full c =
    let k = meets_once _ _ _ _ _ c.join_after-came.result
    (c.join_after-came.ensures.joined_value, (c.join_after-came.ensures.late_value, (c.join_after-came.ensures.store_after, c.join_after-came.ensures.out_after))) (eqb-false _ 19 (sym c.is_full.ensures ∙ c.if-not-is_full.true)) in
    record { joined_value = k.0; late_value = k.1.0; store_after = k.1.1.0; out_after = k.1.1.1 }

pub forget_lowest-requires : goal.forget_lowest-requires
forget_lowest-requires c =
    let e = eqb-true _ 19 (sym c.is_full.ensures ∙ c.if-not-is_full.false) in
    record {
      zero_value = c.requires.zero_value;
      store_value = left_gate _ _ _ _ _ c.join_after-came.result
          (c.join_after-came.ensures.joined_value, (c.join_after-came.ensures.late_value, (c.join_after-came.ensures.store_after, c.join_after-came.ensures.out_after))) e c.requires.store_value;
      n_value = left_count _ _ _ _ _ c.join_after-came.result
          (c.join_after-came.ensures.joined_value, (c.join_after-came.ensures.late_value, (c.join_after-came.ensures.store_after, c.join_after-came.ensures.out_after))) e c.requires.n_value;
    }

pub returns-then-is_err : goal.returns-then-is_err
returns-then-is_err c =
    let e = eqb-true _ 19 (sym c.is_full.ensures ∙ c.if-not-is_full.false) in
    let k = meets_none _ _ _ _ _ c.join_after-came.result
    (c.join_after-came.ensures.joined_value, (c.join_after-came.ensures.late_value, (c.join_after-came.ensures.store_after, c.join_after-came.ensures.out_after))) e c.forget_lowest.ensures.store_after (ap (λ (q : Refusal). q.number) c.forget_lowest.ensures.value)
    (said_err c.forget_lowest.result (sym c.is_err.ensures.value ∙ c.if-is_err.true)) in
    record { joined_value = k.0; late_value = k.1.0; store_after = k.1.1.0; out_after = k.1.1.1 }

pub join_after-requires : goal.join_after-requires
join_after-requires c =
    let e = eqb-true _ 19 (sym c.is_full.ensures ∙ c.if-not-is_full.false) in
    let v = c.forget_lowest.ensures.store_after in
    record {
      zero_value = c.requires.zero_value;
      store_value = again_gate _ _ _ _ _ c.join_after-came.result
          (c.join_after-came.ensures.joined_value, (c.join_after-came.ensures.late_value, (c.join_after-came.ensures.store_after, c.join_after-came.ensures.out_after))) e v c.requires.store_value;
      n_value = again_count _ _ _ _ _ c.join_after-came.result
          (c.join_after-came.ensures.joined_value, (c.join_after-came.ensures.late_value, (c.join_after-came.ensures.store_after, c.join_after-came.ensures.out_after))) e v c.requires.n_value;
      room_in_bounds = again_out _ _ _ _ _ c.join_after-came.result
          (c.join_after-came.ensures.joined_value, (c.join_after-came.ensures.late_value, (c.join_after-came.ensures.store_after, c.join_after-came.ensures.out_after))) e v c.requires.room_in_bounds;
    }

pub returns : goal.returns
returns c =
    let e = eqb-true _ 19 (sym c.is_full.ensures ∙ c.if-not-is_full.false) in
    let k = meets_again _ _ _ _ _ c.join_after-came.result
    (c.join_after-came.ensures.joined_value, (c.join_after-came.ensures.late_value, (c.join_after-came.ensures.store_after, c.join_after-came.ensures.out_after))) e c.forget_lowest.ensures.store_after c.join_after.result
    (c.join_after.ensures.joined_value, (c.join_after.ensures.late_value, (c.join_after.ensures.store_after, c.join_after.ensures.out_after))) in
    record { joined_value = k.0; late_value = k.1.0; store_after = k.1.1.0; out_after = k.1.1.1 }
