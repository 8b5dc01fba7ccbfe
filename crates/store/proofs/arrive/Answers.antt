-- `store::arrive` meets its contract: settings and order, and then the arrival itself, by the chains of the check.
use mathlib.Core.Path.{refl, ap, sym, ◌∙◌}
use Rattle.std.proofs.lemmas.Result.{err_from_is_err_and}
use Rattle.walk.proofs.Refuses.{has_number}
use Rattle.arrival.specs.Told.{arrival_of}
use Rattle.arrival.specs.Arriving.{refused, store_with, arrived_in}
use Rattle.arrival.proofs.Checked.{arrived_open, arrived_shut}
use Rattle.cells.proofs.Gate.{opened_refusal, opened_number, opened_gate, opened_cells}
use Rattle.store.proofs.arrive.Goals as goal

pub check_by-requires-clause-chained : goal.check_by-requires-clause-chained
check_by-requires-clause-chained c = c.new-chains.ensures _

pub returns-in_err-n : goal.returns-in_err-n
unfolding store_with
returns-in_err-n c =
    let o = c.in_err-n.ensures.value in
    let e = arrived_shut _ 1024 _ _ (λ g. has_number _ (opened_number _ 1024 _ o ∙ g)) in
    let p = err_from_is_err_and c.from_residual.result c.from_residual.ensures.1 in
    record {
      value = rw (p.1, p.2) (ap arrival_of (ap refused (opened_refusal _ 1024 _ o) ∙ sym e));
      store_after = ap (store_with 1024 c.args.store.now c.args.p.now) (sym e);
    }

pub returns : goal.returns
returns c =
    let g = c.args in
    let o = c.in_ok-n.ensures.value in
    let e = ap (λ n. arrived_in g.s 1024 g.store.now n g.p.now) (opened_cells _ 1024 _ o refl) ∙ arrived_open _ 1024 _ _ (opened_gate _ 1024 _ o refl) in
    record { value = c.arrive_by.ensures.value ∙ ap arrival_of e; store_after = c.arrive_by.ensures.store_after ∙ ap (store_with 1024 g.store.now g.p.now) e }
