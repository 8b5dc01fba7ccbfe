-- `arrival::arrive_in` meets its contract: a segment goes by the cell that the search tells, any other packet by the reading that is handed
-- in.
use mathlib.Core.Path.{refl, ap, sym, ◌∙◌}
use lib.ListN.{length}
use Rattle.std.proofs.lemmas.Result.{err_from_is_err_and}
use Rattle.arrival.specs.Told.{arrival_of}
use Rattle.arrival.specs.Arriving.{store_with}
use Rattle.arrival.proofs.Arrivals.{packet_refused, packet_whole, packet_asked, packet_came}
use Rattle.arrival.proofs.arrive_in.Goals as goal

pub returns-in_err-h : goal.returns-in_err-h
unfolding store_with
returns-in_err-h c =
    let a = c.args in
    let e = packet_refused a.s (length a.zero.now) a.store.now a.p.now a.n _ (rw c.in_err-h.was at c.requires.h_value) in
    let p = err_from_is_err_and c.from_residual.result c.from_residual.ensures.1 in
    record { value = rw (p.1, p.2) (ap arrival_of (sym e)); store_after = ap (store_with (length a.zero.now) a.store.now a.p.now) (sym e) }

pub returns-then-h-eq-UNSEGMENTED : goal.returns-then-h-eq-UNSEGMENTED
unfolding store_with
returns-then-h-eq-UNSEGMENTED c =
    let a = c.args in
    let e = packet_whole a.s (length a.zero.now) a.store.now a.p.now a.n (rw c.in_ok-h.was at c.requires.h_value) refl c.if-h-eq-UNSEGMENTED.true in
    record { value = ap arrival_of (sym e); store_after = ap (store_with (length a.zero.now) a.store.now a.p.now) (sym e) }

pub find-j-requires : goal.find-j-requires
find-j-requires c =
    let a = c.args in
    let g = packet_asked a.s (length a.zero.now) a.store.now a.p.now a.n (rw c.in_ok-h.was at c.requires.h_value) refl c.if-h-eq-UNSEGMENTED.false (λ i. (c.type_inv.p i).fits) in
    record { zero_value = c.requires.zero_value; asked = g }

pub store_segment-requires : goal.store_segment-requires
store_segment-requires c =
    let a = c.args in
    let g = packet_asked a.s (length a.zero.now) a.store.now a.p.now a.n (rw c.in_ok-h.was at c.requires.h_value) refl c.if-h-eq-UNSEGMENTED.false (λ i. (c.type_inv.p i).fits) in
    record { zero_value = c.requires.zero_value; asked = g; j_value = c.find-j.ensures }

pub returns : goal.returns
returns c =
    let a = c.args in
    let e = packet_came a.s (length a.zero.now) a.store.now a.p.now a.n (rw c.in_ok-h.was at c.requires.h_value) refl c.if-h-eq-UNSEGMENTED.false in
    record { value = c.store_segment.ensures.value ∙ ap arrival_of e; store_after = c.store_segment.ensures.store_after ∙ ap (store_with _ _ _) e }
