-- `store::take` meets its contract: settings and order, and then the taking itself, by the chains of the check.
use mathlib.Core.Path.{refl, ap, ap₂, sym, ◌∙◌}
use lib.ListN.{length}
use Rattle.std.proofs.lemmas.Result.{err_from_is_err_and}
use Rattle.walk.specs.declared.Refusal.{Refusal}
use Rattle.walk.proofs.Refuses.{has_number}
use Rattle.taking.specs.Told.{taken_of}
use Rattle.taking.specs.Answer.{Taken}
use Rattle.taking.specs.Taking.{out_with, store_less, took_in}
use Rattle.taking.proofs.Checked.{took_open, took_shut}
use Rattle.cells.proofs.Gate.{opened_refusal, opened_number, opened_gate, opened_cells}
use Rattle.store.proofs.take.Goals as goal

-- beside a refusal all else is 0
beside_lem : Refusal → Taken
beside_lem r = record { refusal = r; header = 0; body = 0; counter = record { 0 = 0 } }

pub check_by-requires-clause-chained : goal.check_by-requires-clause-chained
check_by-requires-clause-chained c = c.new-chains.ensures _

pub returns-in_err-n : goal.returns-in_err-n
unfolding beside_lem out_with store_less
returns-in_err-n c =
    let o = c.in_err-n.ensures.value in
    let e = took_shut _ 1024 _ _ (λ g. has_number _ (opened_number _ 1024 _ o ∙ g)) in
    let p = err_from_is_err_and c.from_residual.result c.from_residual.ensures.1 in
    record {
      value = rw (p.1, p.2) (ap beside_lem (opened_refusal _ 1024 _ o) ∙ ap taken_of (sym e));
      out_after = ap (out_with _) (sym e);
      store_after = ap (store_less _ 1024 _ _) (sym e);
    }

pub returns : goal.returns
returns c =
    let g = c.args in
    let o = c.in_ok-n.ensures.value in
    let n = opened_cells _ 1024 _ o refl in
    let e = ap (λ k. took_in g.s 1024 g.store.now k (length g.out.now)) n ∙ took_open _ 1024 _ _ (opened_gate _ 1024 _ o refl) in
    record {
      value = c.take_by.ensures.value ∙ ap taken_of e;
      out_after = c.take_by.ensures.out_after ∙ ap (out_with _) e;
      store_after = c.take_by.ensures.store_after ∙ ap₂ (λ k t. store_less g.s 1024 g.store.now k t) n e;
    }
