-- `cells::judge_record` meets its contract: what reading refuses is no record, and the other tests are the definition's.
use native.Mathlib.Omega.{arith}
use mathlib.Core.Path.{ap, ap₂, sym, refl, ◌∙◌}
use Rattle.packet.specs.Answer.{Header}
use Rattle.cells.specs.Inner.{recorded_of}
use Rattle.cells.proofs.Records.{refused_record, refused_number, record_tested, head_small}
use Rattle.cells.proofs.judge_record.Goals as goal

pub returns-in_default : goal.returns-in_default
returns-in_default c =
    refused_record _ _ _ c.in_default.ensures (refused_number _) refl

pub overflow_add-at : goal.overflow_add-at
overflow_add-at c =
    record { fits = omega (arith, head_small _ _ (λ i. (c.type_inv.row i).fits) c.in-Ok.ensures refl) }

pub run_at-run-requires : goal.run_at-run-requires
run_at-run-requires c =
    omega (arith, head_small _ _ (λ i. (c.type_inv.row i).fits) c.in-Ok.ensures refl)

pub overflow_add-end : goal.overflow_add-end
overflow_add-end c =
    record { fits = omega (arith, head_small _ _ (λ i. (c.type_inv.row i).fits) c.in-Ok.ensures refl) }

pub overflow_add-end-2 : goal.overflow_add-end-2
overflow_add-end-2 c =
    record { fits = omega (arith, head_small _ _ (λ i. (c.type_inv.row i).fits) c.in-Ok.ensures refl) }

pub returns-then-both : goal.returns-then-both
returns-then-both c =
    ap₂ recorded_of
    (sym c.if-both.true
    ∙ record_tested _ c.args.row.now c.args.zero.now c.requires (λ i. (c.type_inv.row i).fits) c.in-Ok.ensures refl refl refl
    c.run_at-run.ensures.steps_value c.is_marked-marked.ensures refl c.both-steps.ensures c.both.ensures
    c.both-2.ensures)
    (ap (λ (x : Header). x.h) c.in-Ok.ensures)

pub returns-else-both : goal.returns-else-both
returns-else-both c =
    ap₂ recorded_of
    (sym c.if-both.false
    ∙ record_tested _ c.args.row.now c.args.zero.now c.requires (λ i. (c.type_inv.row i).fits) c.in-Ok.ensures refl refl refl
    c.run_at-run.ensures.steps_value c.is_marked-marked.ensures refl c.both-steps.ensures c.both.ensures
    c.both-2.ensures)
    (ap (λ (x : Header). x.h) c.in-Ok.ensures)
