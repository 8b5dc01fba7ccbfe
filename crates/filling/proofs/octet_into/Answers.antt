-- `filling::octet_into` meets its contract.
use Rattle.filling.proofs.Fields.{absent, present, octet_there}
use Rattle.packet.specs.FixedPart.{octet_field}
use Rattle.walk.specs.Walk.{header_bound}
use mathlib.Core.Path.{refl}
use Rattle.filling.proofs.octet_into.Goals as goal

pub returns-then-not-there : goal.returns-then-not-there
returns-then-not-there c =
    absent c.requires.within 0 (octet_field header_bound c.args.p.now) c.if-not-there.true refl

pub returns : goal.returns
returns c =
    let p = c.args.p.now in present 0 (octet_field header_bound p) c.args.at c.if-not-there.false
    (octet_there p c.requires.within c.if-lim-at.false c.octet.ensures.value)
