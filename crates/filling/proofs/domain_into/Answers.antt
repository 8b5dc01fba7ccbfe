-- `filling::domain_into` meets its contract.
use Rattle.fields.specs.Fields.{no_parts, domain}
use Rattle.filling.proofs.Fields.{absent, present}
use Rattle.filling.proofs.Parts.{nothing_there, domain_there}
use Rattle.walk.specs.Walk.{header_bound}
use Rattle.filling.proofs.domain_into.Goals as goal

pub returns-then-not-there : goal.returns-then-not-there
returns-then-not-there c =
    absent c.requires.within (no_parts 0) (domain c.args.s header_bound c.args.p.now) c.if-not-there.true
    (nothing_there c.args.answer.now c.no_places.ensures)

pub returns : goal.returns
returns c =
    let p = c.args.p.now in present (no_parts 0) (domain c.args.s header_bound p) c.args.at c.if-not-there.false
    (domain_there c.args.s p c.args.at c.in_ok-n.ensures c.if-n-gt16.false
    c.in_ok-end.ensures c.no_places-2.ensures)
