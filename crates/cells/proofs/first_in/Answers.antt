-- `cells::first_in` meets its contract: its pieces are laid one after another, and all of them fit.
use native.Mathlib.Omega.{arith}
use mathlib.Core.Path.{refl}
use Rattle.cells.proofs.Firsts.{long_small, lays_length, first_laid}
use Rattle.cells.proofs.first_in.Goals as goal

-- a pair with the names of the clauses
named : {A B : Type 0} → A × B → record { upper_bound : A; out_after : B }
named p = record { upper_bound = p.0; out_after = p.1 }

pub overflow_add-long-2 : goal.overflow_add-long-2
overflow_add-long-2 c =
    record { fits = omega (arith, long_small _ c.octet-f.ensures refl refl c.span-before.ensures c.span-after.ensures refl) }

pub shape_of-out : goal.shape_of-out
shape_of-out c =
    omega (
      arith,
      lays_length c.lay.ensures,
      lays_length c.lay_number-e.ensures,
      lays_length c.lay-d.ensures,
      lays_length c.lay_number-c.ensures,
      lays_length c.lay_number-b.ensures,
      lays_length c.lay-a.ensures,
    )

pub returns : goal.returns
returns c =
    named (first_laid _ c.octet-f.ensures refl c.span-ids.ensures c.span-before.ensures c.span-after.ensures refl _
    c.requires c.lay-a.ensures
    c.lay_number-b.ensures
    c.lay_number-c.ensures c.lay-d.ensures
    c.lay_number-e.ensures c.lay.ensures)
