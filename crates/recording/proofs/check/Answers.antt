-- `recording::check` meets its contract: its tests are the definition's.
use Rattle.std.proofs.lemmas.Result.{err_from_is_err_and}
use Rattle.walk.proofs.Refuses.{has_number}
use Rattle.recording.proofs.Tested.{refused_15, refused_21, refused_none}
use Rattle.recording.proofs.check.Goals as goal

pub returns-in_err-check : goal.returns-in_err-check
returns-in_err-check c =
    let p = err_from_is_err_and c.from_residual.result c.from_residual.ensures.1 in
    rw (p.1, p.2) (refused_15 _ _ _ c.in_err-check.ensures (has_number _))

pub returns-then-long-n : goal.returns-then-long-n
returns-then-long-n c =
    refused_21 _ _ _ c.in_ok-check.ensures c.if-long-n.true

pub returns : goal.returns
returns c =
    refused_none _ _ _ c.in_ok-check.ensures c.if-long-n.false
