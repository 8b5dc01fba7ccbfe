-- `arrival::store_segment` meets its contract: a record that covers the segment decides, then its length, and then what is held.
use mathlib.Core.Path.{ap, ◌∙◌}
use lib.ListN.{length}
use Rattle.arrival.specs.Told.{arrival_of}
use Rattle.arrival.specs.Arriving.{store_with}
use Rattle.arrival.specs.Inner.{seg_with}
use Rattle.arrival.proofs.Arrivals.{came_fits, came_placed, came_unplaced, unplaced_store}
use Rattle.arrival.proofs.store_segment.Goals as goal

pub is_untaken-untaken-requires : goal.is_untaken-untaken-requires
is_untaken-untaken-requires c =
    record { zero_value = c.requires.zero_value; asked = c.requires.asked }

pub store_found-requires : goal.store_found-requires
unfolding seg_with
store_found-requires c =
    let a = c.args in
    let t = seg_with a.s a.p.now a.h.primary.flags a.h.body.at a.h.body.length a.h.ids.counter.0 in
    record {
      zero_value = c.requires.zero_value;
      p_in_bounds = came_fits a.s _ a.store.now a.n t _ c.is_untaken-untaken.ensures c.both.ensures c.if-both.true;
      j_value = c.requires.j_value;
    }

pub returns-then-both : goal.returns-then-both
unfolding seg_with
returns-then-both c =
    let a = c.args in let t = seg_with a.s a.p.now a.h.primary.flags a.h.body.at a.h.body.length a.h.ids.counter.0 in
    let e = came_placed a.s (length a.zero.now) a.store.now a.n t (length a.p.now) c.is_untaken-untaken.ensures c.both.ensures
    c.if-both.true in record { value = c.store_found.ensures.value ∙ ap arrival_of e; store_after = c.store_found.ensures.store_after ∙ ap (store_with _ _ _) e }

pub returns : goal.returns
unfolding seg_with
returns c =
    let a = c.args in let t = seg_with a.s a.p.now a.h.primary.flags a.h.body.at a.h.body.length a.h.ids.counter.0 in
    let e = came_unplaced a.s (length a.zero.now) a.store.now a.n t (length a.p.now) c.is_untaken-untaken.ensures c.both.ensures
    c.if-both.false in record { value = c.unplaced.ensures ∙ ap arrival_of e; store_after = unplaced_store c.is_untaken-untaken.result _ _ _ ∙ ap (store_with _ _ _) e }
