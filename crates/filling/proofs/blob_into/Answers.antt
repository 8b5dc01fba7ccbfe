-- `filling::blob_into` meets its contract.
use Rattle.fields.specs.Fields.{nowhere, blob}
use Rattle.filling.proofs.Fields.{absent}
use Rattle.walk.specs.Walk.{header_bound}
use Rattle.filling.proofs.blob_into.Goals as goal

pub returns-then-not-there : goal.returns-then-not-there
returns-then-not-there c =
    absent c.requires nowhere (blob c.args.s header_bound c.args.p.now) c.if-not-there.true c.none_into.ensures
