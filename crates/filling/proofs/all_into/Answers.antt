-- `filling::all_into` meets its contract.
use Rattle.filling.proofs.Fields.{if_more}
use Rattle.filling.proofs.Whole.{all_laid}
use Rattle.filling.proofs.all_into.Goals as goal

pub returns : goal.returns
returns c =
    if_more _ _ _
    (λ u e.
    all_laid c.args.s c.args.p.now c.requires c.is_segment-seg.ensures
    c.octet-f.ensures.value c.args.answer.now c.counted.ensures c.fixed_into.ensures c.in_ok-d.ensures c.in_ok-j.ensures e)
    c.end_into.ensures
