-- `filling::ids_into` meets its contract.
use Rattle.filling.proofs.Fields.{if_more}
use Rattle.filling.proofs.Whole.{ids_laid}
use Rattle.packet.specs.FixedPart.{flags_of}
use Rattle.walk.specs.Walk.{goes}
use Rattle.filling.proofs.ids_into.Goals as goal

pub returns : goal.returns
unfolding flags_of
returns c =
    if_more c.number_into.result _ _
    (λ r i.
    ids_laid c.args.s c.args.seg (flags_of c.args.f) c.args.p.now (goes 27) c.in_ok-a.ensures c.in_ok-b.ensures c.in_ok-c.ensures i)
    c.number_into.ensures
