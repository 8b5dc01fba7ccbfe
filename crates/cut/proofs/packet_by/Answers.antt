-- `cut::packet_by` meets its contract: the packet made is the definition's, and the pieces laid are its octets.
use borrow.Author.Rules.{rules}
use lib.ListN.{length}
use native.Mathlib.Omega.{arith}
use Rattle.write.specs.Writing.{is_old}
use Rattle.cut.proofs.Packets.{part_inside, refused_packet_lem, refused_output, made_packet, made_output_lem, done}
use Rattle.cut.proofs.packet_by.Goals as goal

pub slice_bounds-part-count : goal.slice_bounds-part-count
slice_bounds-part-count c =
    let g = c.args in (part_inside c.plan_of-plan.result.single c.plan_of-plan.result.chunk g.i (length g.body.now)
    c.from_of-from.ensures c.to_of-to.ensures).0

pub slice_bounds-part-start : goal.slice_bounds-part-start
slice_bounds-part-start c =
    let g = c.args in let k = part_inside c.plan_of-plan.result.single c.plan_of-plan.result.chunk g.i _
    c.from_of-from.ensures c.to_of-to.ensures in
    search rules

pub slice_bounds-part-end : goal.slice_bounds-part-end
slice_bounds-part-end c =
    let g = c.args in let k = part_inside c.plan_of-plan.result.single c.plan_of-plan.result.chunk g.i _
    c.from_of-from.ensures c.to_of-to.ensures in
    search rules

pub returns-then-r-ne0 : goal.returns-then-r-ne0
returns-then-r-ne0 c =
    let g = c.args in (
      rw c.told.ensures (refused_packet_lem (is_old g.writer) g.s g.p g.v _ _ _ g.i c.test_message-values.ensures c.header_size-h.ensures
          c.plan_of-plan.ensures c.values_at-o.ensures c.from_of-from.ensures c.to_of-to.ensures
          c.secondary_size.ensures c.packet_size-size.ensures _ c.unless-a.ensures
          c.unless-r.ensures c.if-r-ne0.true),
      refused_output (is_old g.writer) g.s g.p g.v _ _ _ g.i c.test_message-values.ensures c.header_size-h.ensures c.plan_of-plan.ensures
          c.values_at-o.ensures c.from_of-from.ensures c.to_of-to.ensures c.secondary_size.ensures
          c.packet_size-size.ensures _ c.unless-a.ensures c.unless-r.ensures c.if-r-ne0.true,
      record { octets = c.lent_in_octets.ensures; transaction = search rules },
    )

pub overflow_sub-n : goal.overflow_sub-n
overflow_sub-n c =
    let g = c.args in omega (
      arith,
      (done (is_old g.writer) g.s g.p g.v _ _ _ g.i c.test_message-values.ensures
          c.header_size-h.ensures c.plan_of-plan.ensures c.values_at-o.ensures
          c.from_of-from.ensures c.to_of-to.ensures c.secondary_size.ensures
          c.packet_size-size.ensures _ c.unless-a.ensures c.unless-r.ensures
          c.if-r-ne0.false).least,
    )

pub returns : goal.returns
returns c =
    let g = c.args in (
      rw c.told-2.ensures (made_packet (is_old g.writer) g.s g.p g.v _ _ _ g.i c.test_message-values.ensures c.header_size-h.ensures
          c.plan_of-plan.ensures c.values_at-o.ensures c.from_of-from.ensures c.to_of-to.ensures
          c.secondary_size.ensures c.packet_size-size.ensures _ c.unless-a.ensures c.unless-r.ensures
          c.if-r-ne0.false),
      made_output_lem (is_old g.writer) g.s g.p g.v _ _ _ g.i c.test_message-values.ensures
          c.header_size-h.ensures c.plan_of-plan.ensures c.values_at-o.ensures c.from_of-from.ensures
          c.to_of-to.ensures c.secondary_size.ensures c.packet_size-size.ensures _
          c.unless-a.ensures c.unless-r.ensures c.if-r-ne0.false c.put_packet.ensures,
      record { octets = c.lent_in_octets.ensures; transaction = search rules },
    )
