-- `cells::in_order_by` meets its contract: first the length, then the cells, and those of a store in order are all chained.
use native.Mathlib.Omega.{arith}
use mathlib.Core.Path.{ap, sym, ◌∙◌}
use Rattle.cells.specs.Segments.{both}
use Rattle.cells.proofs.Ordered.{order_length, cells_most_lem, order_fault, order_held}
use Rattle.cells.proofs.in_order_by.Goals as goal

-- a pair with the names of the clauses
named : {A B : Type 0} → A × B → record { value : A; chained_2 : B }
named p = record { value = p.0; chained_2 = p.1 }

pub returns-then-n-eq0 : goal.returns-then-n-eq0
returns-then-n-eq0 c =
    let g = c.args in record { value = order_length g.s _ _ c.count-n.ensures c.if-n-eq0.true; chained_2 = λ h. absurd (omega (arith, h)) }

pub order_by-o-requires : goal.order_by-o-requires
order_by-o-requires c =
    let g = c.args in
    let most = cells_most_lem g.s _ g.store.now c.count-n.ensures c.if-n-eq0.false in
    record { zero_value = c.requires.zero_value; n_le_cells_most = most; chained = c.requires.chained }

pub returns-then-both : goal.returns-then-both
returns-then-both c =
    let g = c.args in named ((
      order_held g.s _ _ c.count-n.ensures c.if-n-eq0.false c.order_by-o.ensures.sound_value c.order_by-o.ensures.distinct_value c.order_by-o.ensures.untaken_value
          (sym (c.both-2.ensures ∙ ap (both c.order_by-o.result.sound) c.both.ensures) ∙ c.if-both.true),
      λ k. c.order_by-o.ensures.chained_2,
    ))

pub returns : goal.returns
returns c =
    let g = c.args in named ((
      order_fault g.s _ _ c.count-n.ensures c.if-n-eq0.false c.order_by-o.ensures.sound_value c.order_by-o.ensures.distinct_value c.order_by-o.ensures.untaken_value
          (sym (c.both-2.ensures ∙ ap (both c.order_by-o.result.sound) c.both.ensures) ∙ c.if-both.false),
      λ k. absurd (omega (arith, k)),
    ))
