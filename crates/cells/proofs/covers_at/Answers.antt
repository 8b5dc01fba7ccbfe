-- `cells::covers_at` meets its contract, case by case.
use native.Mathlib.Omega.{arith}
use mathlib.Core.Path.{refl}
use Rattle.cells.proofs.Covering.{header_small, place_small, covers_mark, covers_apart, covers_out, covers_same}
use Rattle.cells.proofs.covers_at.Goals as goal

pub returns-then-octet-ne-MARK_TAKEN : goal.returns-then-octet-ne-MARK_TAKEN
returns-then-octet-ne-MARK_TAKEN c =
    covers_mark _ c.args.row.now c.args.zero.now _ _ c.args.c.0 (λ i. (c.type_inv.row i).fits) c.requires.asked c.octet.ensures c.if-octet-ne-MARK_TAKEN.true

pub returns-then-read : goal.returns-then-read
returns-then-read c =
    covers_apart _ c.args.row.now c.args.zero.now _ _ c.args.c.0 (λ i. (c.type_inv.row i).fits) c.requires.asked
    c.read.ensures c.read-2.ensures c.if-read.true

pub run_at-run-requires : goal.run_at-run-requires
run_at-run-requires c =
    place_small _ c.args.row.now c.args.zero.now _ _ c.args.c.0 (λ i. (c.type_inv.row i).fits) c.requires.asked c.less.ensures

pub returns-then-not-is_reached : goal.returns-then-not-is_reached
returns-then-not-is_reached c =
    covers_out _ c.args.row.now c.args.zero.now _ _ c.args.c.0 (λ i. (c.type_inv.row i).fits) c.requires.asked
    c.less.ensures c.run_at-run.ensures.first_value c.run_at-run.ensures.steps_value c.is_reached.ensures c.if-not-is_reached.true

pub overflow_add-header : goal.overflow_add-header
overflow_add-header c =
    record { fits = omega (arith, header_small _ _ _ (λ i. (c.type_inv.row i).fits) c.in-Taken.ensures refl) }

pub returns-in-Taken : goal.returns-in-Taken
returns-in-Taken c =
    covers_same _ c.args.row.now c.args.zero.now _ _ c.args.c.0 (λ i. (c.type_inv.row i).fits) c.requires.asked
    c.less.ensures c.run_at-run.ensures.first_value c.run_at-run.ensures.steps_value c.is_reached.ensures
    c.in-Taken.ensures refl c.if-not-is_reached.false c.span.ensures c.is_key.ensures
