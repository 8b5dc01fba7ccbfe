-- What a step writes, through a spare buffer and straight into the output.
-- Assumes nothing.
use Prim.Native.Nat.{ℕ, ◌+◌, ◌-◌, ◌≤◌}
use mathlib.Core.Path.{◌≡◌, refl, ap, ap₂, ◌∙◌}
use mathlib.Core.Bool.{Bool}
use mathlib.Core.List.{List, ◌++◌}
use native.Mathlib.Omega.{arith}
use lib.ListN.{length, take, drop}
use lib.Seq.{sets, sets-eq, take_at}
use Rattle.walk.specs.declared.Settings.{Settings}
use Rattle.steps.specs.Answer.{Done}
use Rattle.steps.specs.Stepping.{room, Stepped, stepped, written_by}
use Rattle.steps.specs.Told.{done_of}
use Rattle.steps.proofs.Frames.{sets_part}
use Rattle.steps.proofs.Steps.{written_most, done_written}

module _ (s : Settings) (Z : ℕ) (st w : List ℕ) (ends : Bool) where
  abbrev g : Stepped
  g = stepped s Z st w ends

  -- the front of a spare buffer is what was written
  pub spare_front :
      (spare : List ℕ) {d : Done} {y : List ℕ} → d ≡ done_of g → y ≡ sets spare 0 (written_by g) → 6 + room ≤ length spare →
      take (d.written - 0) (drop 0 y) ≡ written_by g
  spare_front spare {d} {y} ed ey h =
      let m = written_by g in
      let a = ap (λ (x : Done). x.written) ed ∙ done_written s Z st w ends g in
      let n : d.written - 0 ≡ length m = omega arith in
      ap₂ (λ (k : ℕ) (l : List ℕ). take k l) n (ey ∙ sets-eq m spare 0 (omega (arith, written_most s Z st w ends)))
      ∙ take_at m (drop (0 + length m) spare) (length m) refl

  -- the part of the output that was lent
  pub there_out :
      (out : List ℕ) (at k : ℕ) {y : List ℕ} → at + k ≤ length out → 6 + room ≤ k → y ≡ sets (take k (drop at out)) 0 (written_by g) →
      take at out ++ (y ++ drop k (drop at out)) ≡ sets out at (written_by g)
  there_out out at k h l e =
      ap (λ (z : List ℕ). take at out ++ (z ++ drop k (drop at out))) e
      ∙ sets_part out (written_by g) at k h (omega (arith, written_most s Z st w ends))
