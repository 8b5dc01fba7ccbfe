-- `cut::count_by` meets its contract: the plan is the definition's, and so are the numbers moved on.
use Rattle.cut.proofs.Plans.{refused_count, made_count}
use Rattle.write.specs.Writing.{is_old}
use Rattle.cut.proofs.count_by.Goals as goal

pub returns-then-tested-ne0 : goal.returns-then-tested-ne0
returns-then-tested-ne0 c =
    let g = c.args in rw c.numbered.ensures
    (refused_count (is_old g.writer) g.s g.p g.v _ g.body _ c.test_message-values.ensures c.header_size-h.ensures c.plan_of-plan.ensures
    c.if-tested-ne0.true)

pub returns : goal.returns
returns c =
    let g = c.args in rw c.numbered-2.ensures
    (made_count (is_old g.writer) g.s g.p g.v _ g.body _ c.test_message-values.ensures c.header_size-h.ensures c.plan_of-plan.ensures
    c.if-tested-ne0.false c.sent_as-sent.ensures c.after_message-moved.ensures)
