-- `carry::write_message` meets its contract: what is lent to the writer is what the PDU says; a domain that is too long makes a header so.
use Prim.Native.Nat.{ℕ}
use lib.ListN.{length-replicate}
use mathlib.Core.Path.{◌∙◌}
use Rattle.carry.proofs.Joined.{told_small, total_fits, count_fits, text_is, lengths_are}
use Rattle.carry.proofs.Returned.{refused_values, refused_long, made}
use Rattle.carry.proofs.write_message.Goals as goal

pub returns-then-r-ne0 : goal.returns-then-r-ne0
returns-then-r-ne0 c =
    let d = refused_values _ _ _ _ _ c.test_values-r.ensures c.if-r-ne0.true in
    (c.not_carried.ensures ∙ rw c.numbered.ensures d.0, d.1)

pub join_parts-total-requires : goal.join_parts-total-requires
join_parts-total-requires c =
    (c.requires.0, (length-replicate {A = ℕ} 256 0, length-replicate {A = ℕ} 16 0))

pub returns-then-total-gt-HEADER_MOST : goal.returns-then-total-gt-HEADER_MOST
returns-then-total-gt-HEADER_MOST c =
    let d =
    refused_long _ _ _ _ _ c.test_values-r.ensures c.if-r-ne0.false c.requires.1
    c.join_parts-total.ensures.total c.if-total-gt-HEADER_MOST.true in
    (c.not_carried-then-total-gt-HEADER_MOST.ensures ∙ rw c.numbered-then-total-gt-HEADER_MOST.ensures d.0, d.1)

pub slice_bounds-make_message-end : goal.slice_bounds-make_message-end
slice_bounds-make_message-end c =
    total_fits c.join_parts-total.ensures.total (told_small c.join_parts-total.ensures.total c.if-total-gt-HEADER_MOST.false) c.join_parts-total.ensures.room.0

pub slice_bounds-make_message-end-2 : goal.slice_bounds-make_message-end-2
slice_bounds-make_message-end-2 c =
    count_fits c.requires.0.0 c.join_parts-total.ensures.room.1

pub returns : goal.returns
returns c =
    let x = c.args.h.texts in made _ c.args.l _ c.args.h _ c.test_values-r.ensures c.if-r-ne0.false c.message_values.ensures
    c.content.ensures c.content-2.ensures c.content-3.ensures
    (text_is _ x _ _ c.join_parts-total.ensures.text c.join_parts-total.ensures.total (told_small c.join_parts-total.ensures.total c.if-total-gt-HEADER_MOST.false) c.join_parts-total.ensures.room.0)
    (lengths_are _ x _ _ c.requires.0 c.join_parts-total.ensures.lengths c.join_parts-total.ensures.room.1) c.content-4.ensures c.content-5.ensures
    c.make_message.ensures
