-- `taking::take_lowest` meets its contract: 20, then 21, and else the message is drawn.
use native.Mathlib.Omega.{arith}
use mathlib.Core.Path.{ap, sym, ◌∙◌}
use lib.ListN.{length}
use Rattle.walk.proofs.Refuses.{has_number}
use Rattle.packet.specs.Reading.{read_packet, refused_header}
use Rattle.cells.specs.Rows.{packet_in}
use Rattle.taking.specs.Told.{taken_of}
use Rattle.taking.specs.Taking.{out_with, store_less}
use Rattle.taking.proofs.Takings.{cell_is, taking_none, taking_below, taking_body, taking_read, taking_short, taking_room}
use Rattle.taking.proofs.take_lowest.Goals as goal

-- a pair with the names of the clauses
named : {A B C : Type 0} → A × (B × C) → record { value : A; out_after : B; store_after : C }
named p = record { value = p.0; out_after = p.1.0; store_after = p.1.1 }

pub returns-in_default : goal.returns-in_default
unfolding out_with store_less
returns-in_default c =
    let e = taking_none _ _ _ _ c.pick_message.ensures _ c.in_default.is in
    record { value = ap taken_of (sym e); out_after = ap (out_with _) (sym e); store_after = ap (store_less _ _ _ _) (sym e) }

pub returns-in_err-h : goal.returns-in_err-h
unfolding refused_header
returns-in_err-h c =
    absurd (has_number _ (taking_read _ _ _ _ c.pick_message.ensures c.in-Some.is c.row.ensures c.packet_in.ensures c.in_err-h.ensures.answer))

pub returns-then-long-lt2 : goal.returns-then-long-lt2
unfolding out_with store_less
returns-then-long-lt2 c =
    let k = c.args in let e = taking_short _ _ _ _ c.pick_message.ensures c.in-Some.is (λ i. (c.slice_known-1.given i).fits) c.row.ensures c.packet_in.ensures
    c.in_ok-h.ensures.answer (length k.out.now) (omega (arith, c.if-long-lt2.true)) in named ((
      ap taken_of (sym e),
      (ap (out_with k.out.now) (sym e), ap (store_less k.s (length k.zero.now) k.store.now k.n) (sym e)),
    ))

pub returns-then-long-h : goal.returns-then-long-h
unfolding out_with store_less
returns-then-long-h c =
    let k = c.args in let e = taking_short _ _ _ _ c.pick_message.ensures c.in-Some.is (λ i. (c.slice_known-1.given i).fits) c.row.ensures
    c.packet_in.ensures
    c.in_ok-h.ensures.answer (length k.out.now) (omega (arith, c.if-long-lt2.false, c.if-long-h.true)) in named ((
      ap taken_of (sym e),
      (ap (out_with k.out.now) (sym e), ap (store_less k.s (length k.zero.now) k.store.now k.n) (sym e)),
    ))

pub returns-then-long-h-2 : goal.returns-then-long-h-2
unfolding out_with store_less
returns-then-long-h-2 c =
    let k = c.args in let e = taking_short _ _ _ _ c.pick_message.ensures c.in-Some.is (λ i. (c.slice_known-1.given i).fits) c.row.ensures
    c.packet_in.ensures
    c.in_ok-h.ensures.answer (length k.out.now) (omega (arith, c.if-long-lt2.false, c.if-long-h.false, c.if-long-h-2.true)) in named ((
      ap taken_of (sym e),
      (ap (out_with k.out.now) (sym e), ap (store_less k.s (length k.zero.now) k.store.now k.n) (sym e)),
    ))

pub draw-requires : goal.draw-requires
draw-requires c =
    let k = c.args in let m = c.pick_message.ensures in let d = c.in-Some.is in record {
      lent = c.requires;
      h_value = c.in_ok-h.ensures.answer ∙ ap (read_packet k.s) (c.packet_in.ensures ∙ ap packet_in c.row.ensures);
      i_value = cell_is _ _ _ _ m d;
      i_lt_n = (taking_below _ _ _ _ m d, taking_body _ _ _ _ m d);
      b_in_bounds = taking_room _ _ _ _ m d (λ i. (c.slice_known-1.given i).fits) c.row.ensures c.packet_in.ensures c.in_ok-h.ensures.answer _
          (omega (arith, c.if-long-lt2.false, c.if-long-h.false, c.if-long-h-2.false));
    }

pub returns : goal.returns
returns c =
    record { value = c.draw.ensures.value; out_after = c.draw.ensures.out_after; store_after = c.draw.ensures.store_after }
