-- `filling::texts_into` meets its contract.
use Rattle.filling.proofs.Fields.{if_more}
use Rattle.filling.proofs.Whole.{all_texts_laid}
use Rattle.packet.specs.FixedPart.{flags_of}
use Rattle.walk.specs.Walk.{goes}
use Rattle.filling.proofs.texts_into.Goals as goal

pub returns : goal.returns
unfolding flags_of
returns c =
    if_more c.blob_into.result _ _
    (λ r i.
    all_texts_laid c.args.s (flags_of c.args.f) c.args.p.now (goes c.args.at) c.in_ok-a.ensures c.in_ok-b.ensures c.in_ok-c.ensures
    c.in_ok-d.ensures i)
    c.blob_into.ensures
