-- `store::forget` meets its contract: settings and order, and then the record itself.
use Prim.Native.Nat.{ℕ, ◌*◌}
use mathlib.Core.Path.{refl, ap, sym, ◌∙◌}
use mathlib.Core.Bool.{Bool}
use lib.Seq.{sets}
use borrow.Author.Tests.{ne_eqb}
use Rattle.std.proofs.lemmas.Result.{err_from_is_err_and}
use Rattle.octets.specs.Octets.{pick}
use Rattle.walk.specs.Walk.{refusal}
use Rattle.walk.proofs.Refuses.{has_number}
use Rattle.cells.specs.Rows.{zero_row}
use Rattle.taking.specs.Forgetting.{forgot_in, store_unless}
use Rattle.taking.proofs.Forgets.{forgot_open, forgot_shut}
use Rattle.cells.proofs.Gate.{opened_refusal, opened_number, opened_gate, opened_cells}
use Rattle.store.proofs.forget.Goals as goal

pub returns-in_err-n : goal.returns-in_err-n
returns-in_err-n c =
    let o = c.in_err-n.ensures in let a = c.args in let n = opened_number _ 1024 _ o in
    let e = forgot_shut _ 1024 a.store.now a.number (λ g. has_number _ (n ∙ g)) in
    let p = err_from_is_err_and c.from_residual.result c.from_residual.ensures.1 in
    record {
      value = rw (p.1, p.2) (opened_refusal _ 1024 _ o ∙ ap refusal (sym e));
      store_after = ap (λ (b : Bool). pick b (sets a.store.now (a.number * 1024) (zero_row 1024)) a.store.now) (sym (ne_eqb _ 0 (λ g. has_number _ (n ∙ sym e ∙ g))));
    }

pub returns : goal.returns
returns c =
    let o = c.in_ok-n.ensures in let a = c.args in
    let e = ap (λ (n : ℕ). forgot_in a.s 1024 a.store.now n a.number) (opened_cells _ 1024 _ o refl) ∙ forgot_open _ 1024 _ _ (opened_gate _ 1024 _ o refl) in
    record {
      value = c.forget_in.ensures.value ∙ ap refusal e;
      store_after = c.forget_in.ensures.store_after ∙ ap (λ (k : ℕ). store_unless k 1024 a.store.now a.number) e;
    }
