-- `arrival::store_new` meets its contract: the lowest free cell takes the packet, and where there is none it is refused by 19.
use mathlib.Core.Path.{ap, sym, ◌∙◌}
use lib.ListN.{length}
use Rattle.arrival.specs.Told.{arrival_of}
use Rattle.arrival.specs.Arriving.{store_with}
use Rattle.arrival.proofs.Arrivals.{new_full, new_there, new_inside, new_laid}
use Rattle.arrival.proofs.store_new.Goals as goal

-- a pair with the names of the clauses
named : {A B : Type 0} → A × B → record { value : A; store_after : B }
named p = record { value = p.0; store_after = p.1 }

pub returns-then-n-i : goal.returns-then-n-i
unfolding store_with
returns-then-n-i c =
    let g = c.args in
    let e = new_full g.store.now g.zero.now g.p.now _ c.lowest_free-i.ensures c.if-n-i.true in
    record { value = ap arrival_of (sym e); store_after = sym (ap (store_with (length g.zero.now) _ g.p.now) e) }

pub put_cell-requires : goal.put_cell-requires
put_cell-requires c =
    new_inside c.args.store.now c.args.zero.now c.args.p.now _ c.lowest_free-i.ensures c.if-n-i.false c.requires.p_in_bounds

pub returns : goal.returns
unfolding store_with
returns c =
    let e = new_there c.args.store.now c.args.zero.now c.args.p.now _ c.lowest_free-i.ensures c.if-n-i.false in named ((
      sym (ap arrival_of e),
      c.put_cell.ensures ∙ new_laid _ _ c.args.p.now _ c.lowest_free-i.ensures c.if-n-i.false
          c.requires.zero_value c.requires.p_in_bounds ∙ sym (ap (store_with (length c.args.zero.now) c.args.store.now c.args.p.now) e),
    ))
