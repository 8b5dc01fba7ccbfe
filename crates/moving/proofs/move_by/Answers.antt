-- `moving::move_by` meets its contract: a move that is refused leaves the target as it was, and one that is not lays all rows over it.
use mathlib.Core.Path.{refl}
use lib.ListN.{length}
use Rattle.walk.proofs.Refuses.{has_number}
use Rattle.moving.proofs.Answers.{refused_kept, target_long, accepted_made}
use Rattle.moving.proofs.move_by.Goals as goal

pub returns-in-Err : goal.returns-in-Err
returns-in-Err c =
    let a = c.args in let e = c.in-Err.ensures.value in
    record { value = e; target_after = refused_kept _ _ (length a.to.now) _ a.target.now e (has_number _) }

pub put_rows-requires : goal.put_rows-requires
put_rows-requires c =
    record { zero_value = c.requires.to_value; target_len = target_long _ _ (length c.args.to.now) _ c.args.target.now c.in-Ok.ensures.value refl c.in-Ok.ensures.cells }

pub returns-in-Ok : goal.returns-in-Ok
returns-in-Ok c =
    let a = c.args in
    let e = c.in-Ok.ensures.value in
    record {
      value = e;
      target_after = accepted_made _ _ (length a.to.now) _ a.target.now e refl c.in-Ok.ensures.cells c.put_rows.ensures;
    }
