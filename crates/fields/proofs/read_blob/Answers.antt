-- `fields::read_blob` meets its contract: its steps are the definition's, and what was refused in any of them began at its length.
use Rattle.std.proofs.lemmas.Result.{err_from_is_err_and}
use Rattle.std.proofs.Common.{arith}
use Rattle.walk.proofs.Steps.{field_goes}
use Rattle.fields.specs.Fields.{blob}
use Rattle.fields.proofs.Steps.{blob_length, blob_content, blob_inside}
use Rattle.fields.proofs.read_blob.Goals as goal

pub returns-in_err-length-clause-reads : goal.returns-in_err-length-clause-reads
returns-in_err-length-clause-reads c =
    let h = blob_length _ _ _ _ c.in_err-length.ensures in
    let p = err_from_is_err_and c.from_residual.result c.from_residual.ensures.1 in rw (p.1, p.2) h

pub returns-in-Ok-clause-reads : goal.returns-in-Ok-clause-reads
unfolding blob
returns-in-Ok-clause-reads c = grind (arith, field_goes)

pub returns-in-Ok-clause-inside : goal.returns-in-Ok-clause-inside
returns-in-Ok-clause-inside c = blob_inside c.in_ok-length.ensures c.in-Ok.ensures

pub returns-in-Err-clause-reads : goal.returns-in-Err-clause-reads
returns-in-Err-clause-reads c = blob_content c.in_ok-length.ensures c.in-Err.ensures c.began.ensures
