-- `arrival::store_found` meets its contract: what the lowest cell with its key and counter holds decides.
use mathlib.Core.Path.{ap, sym, ◌∙◌}
use lib.ListN.{length}
use Rattle.arrival.specs.Told.{arrival_of}
use Rattle.arrival.specs.Arriving.{store_with}
use Rattle.arrival.proofs.Arrivals.{segment_new, segment_same, segment_other}
use Rattle.arrival.proofs.store_found.Goals as goal

pub store_new-requires : goal.store_new-requires
store_new-requires c =
    record { zero_value = c.requires.zero_value; p_in_bounds = c.requires.p_in_bounds }

pub returns-then-n-j : goal.returns-then-n-j
returns-then-n-j c =
    let e = segment_new _ _ _ _ _ _ _ _ _ c.requires.zero_value c.requires.j_value c.if-n-j.true in
    record {
      value = c.store_new.ensures.value ∙ ap arrival_of (sym e);
      store_after = c.store_new.ensures.store_after ∙ ap (store_with (length c.args.zero.now) c.args.store.now c.args.p.now) (sym e);
    }

pub returns-then-is_same : goal.returns-then-is_same
unfolding store_with
returns-then-is_same c =
    let e = segment_same _ _ _ _ _ _ _ _ _ c.requires.zero_value c.requires.j_value c.if-n-j.false c.row.ensures c.is_same.ensures c.if-is_same.true in
    record { value = ap arrival_of (sym e); store_after = ap (store_with (length c.args.zero.now) c.args.store.now c.args.p.now) (sym e) }

pub returns : goal.returns
unfolding store_with
returns c =
    let e = segment_other _ _ _ _ _ _ _ _ _ c.requires.zero_value c.requires.j_value c.if-n-j.false c.row.ensures c.is_same.ensures
    c.if-is_same.false in record { value = ap arrival_of (sym e); store_after = ap (store_with (length c.args.zero.now) c.args.store.now c.args.p.now) (sym e) }
