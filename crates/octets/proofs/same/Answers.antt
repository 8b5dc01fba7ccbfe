-- `octets::same` meets its contract: lists of one length are compared pair by pair.
use mathlib.Core.Path.{sym, ◌∙◌}
use mathlib.Core.Bool.{true}
use borrow.Author.Tests.{ne_eqb}
use Rattle.std.proofs.Common.{rules, tests}
use Rattle.std.proofs.lemmas.Iterator.{YieldsList-from_slice, YieldsList-from_zip}
use Rattle.std.proofs.lemmas.Iterator.Consumers.{fold_from_yields_List}
use Rattle.octets.proofs.Comparing.{agree, all_agree}
use Rattle.octets.proofs.Lists.{alike_lengths}
use Rattle.octets.proofs.same.Goals as goal

pub returns-then-a-b : goal.returns-then-a-b
returns-then-a-b c =
    fold_from_yields_List _ agree true _ c.fold.ensures.ran
    (YieldsList-from_zip (YieldsList-from_slice c.args.a.now (cc)) (YieldsList-from_slice c.args.b.now (cc)))
    (λ s x r q k. search (rules, tests))
    ∙ all_agree _ _ c.if-a-b.true

pub returns-else-a-b : goal.returns-else-a-b
returns-else-a-b c =
    ne_eqb _ _ c.if-a-b.false ∙ sym (alike_lengths _ _ c.if-a-b.false)
