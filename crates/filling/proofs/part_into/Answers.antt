-- `filling::part_into` meets its contract.
use Rattle.filling.proofs.Fields.{if_more, part_there}
use mathlib.Core.Path.{sym, ◌∙◌}
use Rattle.filling.proofs.part_into.Goals as goal

pub returns : goal.returns
returns c =
    let h = sym c.octet.ensures.value ∙ c.if-octet-ne1.false in
    if_more _ _ _ (λ r i. part_there c.args.s c.args.p.now c.requires.within c.if-lim-at.false h i) c.text_at.ensures
