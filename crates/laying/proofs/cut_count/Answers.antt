-- `laying::cut_count` meets its contract: what is not cut the short way goes the long way.
use Rattle.cut.proofs.Plans.{made_count}
use Rattle.flat.specs.Given.{header_of}
use Rattle.laying.proofs.Cuts.{none_failed_lem, counted, cap_small}
use mathlib.Core.Bool.{false}
use Rattle.laying.proofs.cut_count.Goals as goal

pub header_size-h-requires : goal.header_size-h-requires
header_size-h-requires c =
    c.in-Some.ensures.0.ready

pub returns-then-tested-eq0 : goal.returns-then-tested-eq0
returns-then-tested-eq0 c =
    let r = c.in-Some.ensures.0 in
    let k = c.in-Some.ensures.1 in
    rw (← c.settings-s.ensures)
    (counted r k _ _
    (made_count false _ _ (header_of c.args.header.now) _ _ _ (none_failed_lem r k) (cap_small c.header_size-h.ensures.size c.header_size-h.ensures.small) c.plan_of-plan.ensures c.if-tested-eq0.true
    c.sent_as.ensures c.after_message-moved.ensures))

pub returns : goal.returns
returns c =
    c.cut_count.ensures
