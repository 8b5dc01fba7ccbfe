-- An answer that tells a number is an error unless that is 0.
-- Assumes nothing.
use Prim.Native.Nat.{ℕ}
use mathlib.Core.Path.{◌≡◌, ap, sym, ◌∙◌}
use mathlib.Core.Bool.{true, false, false≢true}
use Rattle.std.specs.Prelude.{Result, Ok, Err, is_err}
use Rattle.walk.specs.declared.Refused.{Refused}
use Rattle.walk.specs.declared.Refusal.{Refusal}
use Rattle.walk.specs.Walk.{refusal}
use Rattle.walk.specs.Told.{said}
use Rattle.walk.proofs.Refuses.{has_number}

module _ {A : Type 0} {k : ℕ} where
  pub err_number : (x : Result A Refused) → said x ≡ refusal k → is_err x ≡ true → k ≡ 0 → ⊥
  err_number (Ok v) e h z = absurd (false≢true h)
  err_number (Err r) e h z = has_number r (ap (λ (t : Refusal). t.number) e ∙ z)

  pub ok_number : (x : Result A Refused) → said x ≡ refusal k → is_err x ≡ false → k ≡ 0
  ok_number (Ok v) e h = sym (ap (λ (t : Refusal). t.number) e)
  ok_number (Err r) e h = absurd (false≢true (sym h))
