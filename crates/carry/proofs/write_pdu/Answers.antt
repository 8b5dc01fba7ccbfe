-- `carry::write_pdu` meets its contract: what is lent to the writer is what the message says.
use Prim.Native.Nat.{ℕ}
use lib.ListN.{length-replicate}
use Rattle.carry.proofs.Joined.{cut, total_fits, count_fits, text_is, lengths_are}
use Rattle.packet.specs.Decoded.{whole}
use Rattle.carry.proofs.Sent.{office}
use Rattle.carry.proofs.write_pdu.Goals as goal

pub join_parts-total-requires : goal.join_parts-total-requires
join_parts-total-requires c =
    (c.requires.0, (length-replicate {A = ℕ} 256 0, length-replicate {A = ℕ} 16 0))

pub slice_bounds-write-end : goal.slice_bounds-write-end
slice_bounds-write-end c =
    c.digits_if-source.ensures.few

pub slice_bounds-write-end-2 : goal.slice_bounds-write-end-2
slice_bounds-write-end-2 c =
    c.digits_if-destination.ensures.few

pub slice_bounds-write-end-3 : goal.slice_bounds-write-end-3
slice_bounds-write-end-3 c =
    total_fits c.join_parts-total.ensures.total c.requires.1 c.join_parts-total.ensures.room.0

pub slice_bounds-write-end-4 : goal.slice_bounds-write-end-4
slice_bounds-write-end-4 c =
    count_fits c.requires.0.0 c.join_parts-total.ensures.room.1

pub returns : goal.returns
returns c =
    let x = c.args.h.texts in office c.args.encoding _ (whole c.args.h) _ c.pdu_values.ensures
    (cut c.digits_if-source.result.length c.digits_if-source.result.octets c.digits_if-source.ensures.digits)
    (cut c.digits_if-destination.result.length c.digits_if-destination.result.octets c.digits_if-destination.ensures.digits)
    c.content.ensures c.content-2.ensures c.content-3.ensures
    (text_is _ x _ _ c.join_parts-total.ensures.text c.join_parts-total.ensures.total c.requires.1 c.join_parts-total.ensures.room.0)
    (lengths_are _ x _ _ c.requires.0 c.join_parts-total.ensures.lengths c.join_parts-total.ensures.room.1)
    c.content-4.ensures c.content-5.ensures (c.write.ensures.0, c.write.ensures.1)
