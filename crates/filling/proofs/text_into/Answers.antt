-- `filling::text_into` meets its contract.
use Rattle.fields.specs.Fields.{nowhere, text}
use Rattle.filling.proofs.Fields.{absent}
use Rattle.walk.specs.Walk.{header_bound}
use Rattle.filling.proofs.text_into.Goals as goal

pub returns-then-not-there : goal.returns-then-not-there
returns-then-not-there c =
    absent c.requires.within nowhere (text c.args.s header_bound c.args.p.now) c.if-not-there.true c.none_into.ensures
