-- `filling::plain_into` meets its contract.
use Rattle.filling.proofs.Fields.{if_more}
use Rattle.filling.proofs.Whole.{plain_laid}
use Rattle.filling.proofs.plain_into.Goals as goal

pub returns : goal.returns
returns c =
    if_more _ _ _
    (λ u e.
    plain_laid c.args.s c.args.p.now c.requires.ready c.is_segment-seg.ensures c.requires.p_value
    c.args.answer.now c.limit_of-lim.ensures c.counted.ensures c.fixed_into.ensures
    c.in_ok-c.ensures c.no_texts.ensures e)
    c.end_into.ensures
