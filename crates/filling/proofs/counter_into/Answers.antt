-- `filling::counter_into` meets its contract.
use Rattle.filling.proofs.Fields.{absent, present, counter_there}
use Rattle.walk.specs.Walk.{header_bound, wide_field}
use mathlib.Core.Path.{refl}
use Rattle.filling.proofs.counter_into.Goals as goal

pub returns-then-not-there : goal.returns-then-not-there
returns-then-not-there c =
    absent c.requires 0 (wide_field 4 header_bound c.args.p.now) c.if-not-there.true refl

pub returns : goal.returns
returns c =
    let p = c.args.p.now in present 0 (wide_field 4 header_bound p) c.args.at c.if-not-there.false
    (counter_there p c.requires c.double.ensures.value c.if-lim-at.false)
