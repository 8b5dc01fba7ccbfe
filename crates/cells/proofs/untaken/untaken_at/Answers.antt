-- `untaken::untaken_at` meets its contract: no segment, or one that is looked for.
use Rattle.cells.proofs.Entering.{asked_at, none_untaken, some_untaken}
use Rattle.cells.proofs.untaken.untaken_at.Goals as goal

-- a pair with the names of the clauses
named : {A B C : Type 0} → A × (B × C) → record { zero_value : A; asked : B; chained : C }
named p = record { zero_value = p.0; asked = p.1.0; chained = p.1.1 }

pub returns-then-body_at-eq0 : goal.returns-then-body_at-eq0
returns-then-body_at-eq0 c =
    none_untaken _ _ _ _ (λ j. (c.type_inv.store j).fits) c.requires.body_at_value c.if-body_at-eq0.true _

pub clear_near-requires : goal.clear_near-requires
clear_near-requires c =
    named ((
      c.requires.zero_value,
      (
        asked_at _ _ _ _ (λ j. (c.type_inv.store j).fits) c.requires.body_at_value c.if-body_at-eq0.false c.row.ensures
            c.packet_in-q.ensures c.counter_in.ensures,
        c.requires.chained,
      ),
    ))

pub returns : goal.returns
returns c =
    some_untaken _ _ _ _ (λ j. (c.type_inv.store j).fits) c.requires.body_at_value c.if-body_at-eq0.false
    c.row.ensures
    c.packet_in-q.ensures c.counter_in.ensures _ c.clear_near.ensures
