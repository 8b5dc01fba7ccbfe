-- `filling::number_into` meets its contract.
use Rattle.filling.proofs.Fields.{absent, present, number_laid}
use Rattle.walk.specs.Walk.{header_bound, uinteger}
use mathlib.Core.Path.{refl}
use Rattle.filling.proofs.number_into.Goals as goal

pub returns-then-not-there : goal.returns-then-not-there
returns-then-not-there c =
    absent c.requires 0 (uinteger c.args.s header_bound c.args.p.now) c.if-not-there.true refl

pub returns : goal.returns
returns c =
    present 0 (uinteger c.args.s header_bound c.args.p.now) c.args.at c.if-not-there.false
    (number_laid c.in_ok-n.ensures)
