-- `cells::distinct_by` meets its contract. The loop's invariant: whether the cells passed are apart, and that they are on their chains.
use lib.ListN.{length}
use native.Mathlib.Omega.{arith}
use Rattle.cells.proofs.Bodies.{body_top}
use Rattle.cells.proofs.Ordering.{ordering_first, ordering_turn, ordering_apart, ordering_chained}
use Rattle.cells.proofs.distinct_by.Goals as goal

-- a pair with the names of the clauses
named : {A B C D : Type 0} → A × (B × (C × D)) → record { zero_value : A; i_lt_cells_most : B; body_at_value : C; chained : D }
named p = record { zero_value = p.0; i_lt_cells_most = p.1.0; body_at_value = p.1.1.0; chained = p.1.1.1 }

pub loop-i-init : goal.loop-i-init
loop-i-init c =
    ordering_first c.requires.chained

pub offset_bounds-bodies-i : goal.offset_bounds-bodies-i
offset_bounds-bodies-i c =
    omega (arith, c.loop-i-test.true, c.requires.n_le_cells_most)

pub bounds-bodies-i : goal.bounds-bodies-i
bounds-bodies-i c =
    omega (arith, c.loop-i-test.true, c.requires.n_le_cells_most)

pub overflow_cast-bodies : goal.overflow_cast-bodies
overflow_cast-bodies c =
    omega (
      arith,
      c.requires.bodies _ c.loop-i-test.true,
      body_top c.args.s (length c.args.zero.now)
          c.args.store.now c.loop-i.i (λ j. (c.type_inv.store j).fits),
    )

pub enter-apart-requires : goal.enter-apart-requires
enter-apart-requires c =
    named ((
      c.requires.zero_value,
      (
        omega (arith, c.loop-i-test.true, c.requires.n_le_cells_most),
        (c.requires.bodies _ c.loop-i-test.true, c.loop-i.invariant.chained),
      ),
    ))

pub loop-i-preserved : goal.loop-i-preserved
loop-i-preserved c =
    ordering_turn c.loop-i.invariant c.loop-i-test.true c.enter-apart.ensures.value
    c.enter-apart.ensures.chained_2

pub returns : goal.returns
returns c =
    record { value = ordering_apart c.loop-i.invariant c.loop-i-test.false; chained_2 = ordering_chained c.loop-i.invariant c.loop-i-test.false }
