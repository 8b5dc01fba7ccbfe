-- `cells::enter` meets its contract: no segment, or one that goes onto its chain.
use Rattle.cells.proofs.Entering.{none_apart, none_off, asked_at, some_apart, some_on}
use Rattle.cells.proofs.Mixing.{bucket_low}
use Rattle.cells.proofs.enter.Goals as goal

-- a pair with the names of the clauses
named : {A B : Type 0} → A × B → record { value : A; chained_2 : B }
named p = record { value = p.0; chained_2 = p.1 }

-- a pair with the names of the clauses
named_2 : {A B C D : Type 0} → A × (B × (C × D)) → record { zero_value : A; asked : B; chained : C; b_value : D }
named_2 p = record { zero_value = p.0; asked = p.1.0; chained = p.1.1.0; b_value = p.1.1.1 }

-- a pair with the names of the clauses
named_3 : {A B : Type 0} → A × B → record { i_lt_cells_most : A; b_lt_chains_all : B }
named_3 p = record { i_lt_cells_most = p.0; b_lt_chains_all = p.1 }

pub returns-then-body_at-eq0 : goal.returns-then-body_at-eq0
returns-then-body_at-eq0 c =
    named ((
      none_apart _ _ _ _ (λ j. (c.type_inv.store j).fits) c.requires.body_at_value c.if-body_at-eq0.true _,
      none_off _ _ _ _ (λ j. (c.type_inv.store j).fits) c.requires.body_at_value c.if-body_at-eq0.true c.requires.chained c.requires.i_lt_cells_most,
    ))

pub is_new-new-requires : goal.is_new-new-requires
is_new-new-requires c =
    named_2 ((
      c.requires.zero_value,
      (
        asked_at _ _ _ _ (λ j. (c.type_inv.store j).fits) c.requires.body_at_value c.if-body_at-eq0.false c.row.ensures
            c.packet_in-q.ensures c.counter_in-c.ensures,
        (c.requires.chained, c.bucket-b.ensures),
      ),
    ))

pub push-requires : goal.push-requires
push-requires c =
    named_3 ((
      c.requires.i_lt_cells_most,
      rw c.bucket-b.ensures (bucket_low _ _),
    ))

pub returns : goal.returns
returns c =
    let k = c.bucket-b.ensures in named ((
      some_apart _ _ _ _ (λ j. (c.type_inv.store j).fits) c.requires.body_at_value c.if-body_at-eq0.false
          c.row.ensures c.packet_in-q.ensures c.counter_in-c.ensures c.args.apart
          c.is_new-new.ensures,
      some_on _ _ _ _ (λ j. (c.type_inv.store j).fits) c.requires.body_at_value
          c.if-body_at-eq0.false c.row.ensures c.packet_in-q.ensures c.counter_in-c.ensures
          c.requires.chained c.requires.i_lt_cells_most k (rw k (bucket_low _ _)) c.push.ensures,
    ))
