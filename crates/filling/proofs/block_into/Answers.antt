-- `filling::block_into` meets its contract.
use Rattle.fields.specs.Fields.{nowhere, block}
use Rattle.filling.proofs.Fields.{absent, present, block_there}
use Rattle.walk.specs.Walk.{header_bound}
use Rattle.filling.proofs.block_into.Goals as goal

pub returns-then-not-there : goal.returns-then-not-there
returns-then-not-there c =
    absent c.requires.within nowhere (block c.args.n header_bound c.args.p.now) c.if-not-there.true c.none_into.ensures

pub returns : goal.returns
returns c =
    let p = c.args.p.now in present nowhere (block c.args.n header_bound p) c.args.at c.if-not-there.false
    (block_there p c.requires.within c.args.n c.if-lim-at.false c.place_into.ensures)
