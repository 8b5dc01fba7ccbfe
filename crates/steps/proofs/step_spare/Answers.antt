-- `steps::step_spare` meets its contract: the front of the spare buffer is what the step wrote.
use mathlib.Core.Path.{refl, ap, ◌∙◌}
use native.Mathlib.Omega.{arith}
use lib.ListN.{length}
use lib.Seq.{sets, length-sets}
use mathlib.Core.List.{List}
use Prim.Native.Nat.{ℕ}
use mathlib.Core.Bool.{true}
use Rattle.steps.specs.Stepping.{stepped, written_by}
use Rattle.steps.proofs.Steps.{as_seen, step_within}
use Rattle.steps.proofs.Spare.{spare_front}
use Rattle.steps.proofs.step_spare.Goals as goal

-- a pair with the names of the clauses
named : {A B C : Type 0} → A × (B × C) → record { value : A; store_after : B; out_after : C }
named p = record { value = p.0; store_after = p.1.0; out_after = p.1.1 }

pub slice_bounds-copy-end : goal.slice_bounds-copy-end
slice_bounds-copy-end c =
    let l = (step_within _ _ _ _ true (as_seen refl c.written-written.ensures ∙ c.step-d.ensures.value)).1 in
    omega (
      arith,
      l,
      ap length c.step-d.ensures.out_after,
      length-sets c.args.spare.now 0 (written_by (stepped c.args.s (length c.args.zero.now) c.args.store.now c.args.rest.now true)),
      c.requires.room_in_bounds,
    )

pub returns : goal.returns
returns c =
    named ((
      c.step-d.ensures.value,
      (
        c.step-d.ensures.store_after,
        c.copy.ensures ∙ ap (λ (l : List ℕ). sets c.args.out.now c.args.at l)
            (spare_front _ _ _ _ _ c.args.spare.now (as_seen refl c.written-written.ensures ∙ c.step-d.ensures.value) c.step-d.ensures.out_after c.requires.room_in_bounds),
      ),
    ))
