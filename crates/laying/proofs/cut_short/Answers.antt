-- `laying::cut_short` meets its contract: the plan and the packet are the long way's.
use Rattle.cut.proofs.Packets.{part_inside, made_packet, made_output_lem, done}
use Rattle.flat.specs.Given.{header_of}
use Rattle.laying.proofs.Cuts.{none_failed_lem, told, laid_out, cap_small, own_numbers, sender_count}
use Rattle.laying.proofs.Whole.{plain_lays}
use Rattle.write.specs.Given.{lent_of}
use borrow.Author.Rules.{rules}
use lib.ListN.{length}
use mathlib.Core.Bool.{false}
use mathlib.Core.Path.{refl, sym, ◌∙◌}
use native.Mathlib.Omega.{arith}
use Rattle.laying.proofs.cut_short.Goals as goal

-- a pair with the names of the clauses
named : {A B C D : Type 0} → A × (B × (C × D)) → record { in_bounds : A; in_limits : B; own : C; value : D }
named p = record { in_bounds = p.0; in_limits = p.1.0; own = p.1.1.0; value = p.1.1.1 }

-- a pair with the names of the clauses
named_2 : {A B : Type 0} → A × B → record { done : A; kept : B }
named_2 p = record { done = p.0; kept = p.1 }

-- a pair with the names of the clauses
named_3 : {A B C D : Type 0} → A × (B × (C × D)) → record { in_bounds : A; ready : B; own : C; present_value : D }
named_3 p = record { in_bounds = p.0; ready = p.1.0; own = p.1.1.0; present_value = p.1.1.1 }

pub returns-in_default : goal.returns-in_default
returns-in_default c =
    record { done = λ h. absurd (omega arith); kept = λ h. refl }

pub header_size-h-requires : goal.header_size-h-requires
header_size-h-requires c =
    c.in-Some.ensures.0.ready

pub slice_bounds-part-count : goal.slice_bounds-part-count
slice_bounds-part-count c =
    let g = c.args in let q = c.plan_of-plan.result in let k = part_inside q.single q.chunk g.i (length g.body.now) c.from_of-from.ensures c.to_of-to.ensures in
    k.0

pub slice_bounds-part-start : goal.slice_bounds-part-start
slice_bounds-part-start c =
    let g = c.args in let q = c.plan_of-plan.result in let k = part_inside q.single q.chunk g.i (length g.body.now) c.from_of-from.ensures c.to_of-to.ensures in
    search rules

pub slice_bounds-part-end : goal.slice_bounds-part-end
slice_bounds-part-end c =
    let g = c.args in let q = c.plan_of-plan.result in let k = part_inside q.single q.chunk g.i (length g.body.now) c.from_of-from.ensures c.to_of-to.ensures in
    search rules

pub returns-then-r-ne0 : goal.returns-then-r-ne0
returns-then-r-ne0 c =
    record { done = λ h. absurd (omega arith); kept = λ h. refl }

pub overflow_sub-n : goal.overflow_sub-n
overflow_sub-n c =
    let g = c.args in let r = c.in-Some.ensures.0 in
    let k = c.in-Some.ensures.1 in let e = done false g.s g.p (header_of g.header.now) _ _ _ g.i (none_failed_lem r k) (cap_small c.header_size-h.ensures.size c.header_size-h.ensures.small)
    c.plan_of-plan.ensures c.values_at-o.ensures c.from_of-from.ensures c.to_of-to.ensures
    c.secondary_size.ensures
    c.packet_size-size.ensures _ c.unless-a.ensures c.unless-r.ensures c.if-r-ne0.false in
    omega (arith, e.least)

pub present_octet-present-requires : goal.present_octet-present-requires
present_octet-present-requires c =
    c.in-Some.ensures.0.ready.numbers.limited

pub put_plain-requires : goal.put_plain-requires
put_plain-requires c =
    let g = c.args in let r = c.in-Some.ensures.0 in
    let k = c.in-Some.ensures.1 in let e = done false g.s g.p (header_of g.header.now) _ _ _ g.i (none_failed_lem r k) (cap_small c.header_size-h.ensures.size c.header_size-h.ensures.small)
    c.plan_of-plan.ensures c.values_at-o.ensures c.from_of-from.ensures c.to_of-to.ensures
    c.secondary_size.ensures
    c.packet_size-size.ensures _ c.unless-a.ensures c.unless-r.ensures c.if-r-ne0.false in
    let q = c.plan_of-plan.result in named ((
      omega (arith, e.least, e.size_is_length, e.fits_room),
      (
        r.ready.numbers.limited,
        (
          own_numbers q.single q.count _ g.i c.values_at-o.ensures (sender_count r k),
          sym
              c.if-present-eq0.true ∙ c.present_octet-present.ensures,
        ),
      ),
    ))

pub returns-then-present-eq0 : goal.returns-then-present-eq0
returns-then-present-eq0 c =
    let g = c.args in let r = c.in-Some.ensures.0 in
    let k = c.in-Some.ensures.1 in let e = done false g.s g.p (header_of g.header.now) _ _ _ g.i (none_failed_lem r k) (cap_small c.header_size-h.ensures.size c.header_size-h.ensures.small)
    c.plan_of-plan.ensures c.values_at-o.ensures c.from_of-from.ensures c.to_of-to.ensures
    c.secondary_size.ensures
    c.packet_size-size.ensures _ c.unless-a.ensures c.unless-r.ensures c.if-r-ne0.false in
    let o = c.values_at-o.result in let w = plain_lays g.s g.header.now (lent_of g.texts)
    o.flags o.sequence_count.0 o.counter.0 _ _ r.ready.numbers.limited (sym c.if-present-eq0.true ∙ c.present_octet-present.ensures)
    c.put_plain.ensures in named_2 ((
      (λ z. (
        told r k _ _ _ _ (made_packet false g.s g.p (header_of g.header.now) _ _ _ g.i (none_failed_lem r k) (cap_small c.header_size-h.ensures.size c.header_size-h.ensures.small)
            c.plan_of-plan.ensures c.values_at-o.ensures c.from_of-from.ensures c.to_of-to.ensures
            c.secondary_size.ensures
            c.packet_size-size.ensures _ c.unless-a.ensures c.unless-r.ensures c.if-r-ne0.false),
        laid_out r k _ _ _ (made_output_lem false g.s g.p (header_of g.header.now) _ _ _ g.i (none_failed_lem r k) (cap_small c.header_size-h.ensures.size c.header_size-h.ensures.small)
            c.plan_of-plan.ensures c.values_at-o.ensures c.from_of-from.ensures c.to_of-to.ensures
            c.secondary_size.ensures
            c.packet_size-size.ensures _ c.unless-a.ensures c.unless-r.ensures c.if-r-ne0.false
            w),
      )),
      (λ z. absurd (omega (arith, e.least))),
    ))

pub put_full-requires : goal.put_full-requires
put_full-requires c =
    let g = c.args in let r = c.in-Some.ensures.0 in
    let k = c.in-Some.ensures.1 in let e = done false g.s g.p (header_of g.header.now) _ _ _ g.i (none_failed_lem r k) (cap_small c.header_size-h.ensures.size c.header_size-h.ensures.small)
    c.plan_of-plan.ensures c.values_at-o.ensures c.from_of-from.ensures c.to_of-to.ensures
    c.secondary_size.ensures
    c.packet_size-size.ensures _ c.unless-a.ensures c.unless-r.ensures c.if-r-ne0.false in
    let q = c.plan_of-plan.result in named_3 ((
      omega (arith, e.least, e.size_is_length, e.fits_room),
      (r.ready, (own_numbers q.single q.count _ g.i c.values_at-o.ensures (sender_count r k), c.present_octet-present.ensures)),
    ))

pub returns : goal.returns
returns c =
    let g = c.args in let r = c.in-Some.ensures.0 in
    let k = c.in-Some.ensures.1 in let e = done false g.s g.p (header_of g.header.now) _ _ _ g.i (none_failed_lem r k) (cap_small c.header_size-h.ensures.size c.header_size-h.ensures.small)
    c.plan_of-plan.ensures c.values_at-o.ensures c.from_of-from.ensures c.to_of-to.ensures
    c.secondary_size.ensures
    c.packet_size-size.ensures _ c.unless-a.ensures c.unless-r.ensures c.if-r-ne0.false in
    let w = c.put_full.ensures in named_2 ((
      (λ z. (
        told r k _ _ _ _ (made_packet false g.s g.p (header_of g.header.now) _ _ _ g.i (none_failed_lem r k) (cap_small c.header_size-h.ensures.size c.header_size-h.ensures.small)
            c.plan_of-plan.ensures c.values_at-o.ensures c.from_of-from.ensures c.to_of-to.ensures
            c.secondary_size.ensures
            c.packet_size-size.ensures _ c.unless-a.ensures c.unless-r.ensures c.if-r-ne0.false),
        laid_out r k _ _ _ (made_output_lem false g.s g.p (header_of g.header.now) _ _ _ g.i (none_failed_lem r k) (cap_small c.header_size-h.ensures.size c.header_size-h.ensures.small)
            c.plan_of-plan.ensures c.values_at-o.ensures c.from_of-from.ensures c.to_of-to.ensures
            c.secondary_size.ensures
            c.packet_size-size.ensures _ c.unless-a.ensures c.unless-r.ensures c.if-r-ne0.false
            w),
      )),
      (λ z. absurd (omega (arith, e.least))),
    ))
