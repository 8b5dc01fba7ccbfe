-- `recording::join_all` meets its contract: a recording whose settings are refused, or that is longer than the output, is refused, any
-- other is gone along.
use Prim.Native.Nat.{ℕ}
use mathlib.Core.Path.{refl, sym, ap, ◌∙◌}
use mathlib.Core.List.{List}
use native.Mathlib.Omega.{arith}
use Rattle.std.proofs.lemmas.Result.{err_from_is_err_and}
use Rattle.walk.proofs.Refuses.{has_number}
use Rattle.walk.specs.declared.Refusal.{Refusal}
use Rattle.steps.specs.Stepping.{found_in}
use Rattle.recording.specs.Answer.{refuses}
use Rattle.recording.specs.Ending.{past}
use Rattle.recording.proofs.Reaching.{reach_most, rest_lent, store_begins, told_refused, out_refused, told_all, out_all}
use Rattle.recording.proofs.Tested.{passed}
use Rattle.recording.proofs.Beginning.{spare_begins}
use Rattle.recording.proofs.join_all.Goals as goal

-- a pair with the names of the clauses
named : {A B : Type 0} → A × B → record { value : A; out_after : B }
named p = record { value = p.0; out_after = p.1 }

pub returns-in_err-check : goal.returns-in_err-check
returns-in_err-check c =
    let g = c.args in
    let p = err_from_is_err_and c.from_residual.result c.from_residual.ensures.1 in
    let e = ap (λ (r : Refusal). r.number) c.in_err-check.ensures in
    let h = has_number _ in
    rw (p.1, p.2)
    (named (
      ap refuses c.in_err-check.ensures ∙ told_refused _ g.recording.now g.out.now refl (λ z. h (e ∙ z)),
      out_refused _ g.recording.now g.out.now refl (λ z. h (e ∙ z)),
    ))

pub along-end-requires : goal.along-end-requires
along-end-requires c =
    let p = passed _ _ _ (sym (ap (λ (r : Refusal). r.number) c.in_ok-check.ensures)) in
    record { s_value = p.0; zero_value = refl; store_value = store_begins refl; room_in_bounds = spare_begins refl; x_in_bounds = p.1 }

pub slice_bounds-why_at-count : goal.slice_bounds-why_at-count
slice_bounds-why_at-count c =
    omega (arith, c.along-end.ensures.place_value, reach_most c.args.recording.now)

pub slice_bounds-why_at-start : goal.slice_bounds-why_at-start
slice_bounds-why_at-start c =
    omega (arith, c.along-end.ensures.place_value, reach_most c.args.recording.now)

pub why_at-why-requires : goal.why_at-why-requires
why_at-why-requires c =
    ap (λ (x : List ℕ). past (found_in x)) (rest_lent c.args.recording.now c.along-end.result.place) ∙ c.along-end.ensures.stop_value

pub returns : goal.returns
returns c =
    let a = c.args in
    let e = ap (λ (r : Refusal). r.number) c.in_ok-check.ensures in
    named (
      told_all _ a.recording.now a.out.now e refl c.along-end.ensures.place_value c.along-end.ensures.written_value refl c.why_at-why.ensures,
      out_all _ a.recording.now a.out.now e refl c.along-end.ensures.out_after,
    )
