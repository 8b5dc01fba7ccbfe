-- Two answers of writing that the definitions' record doesn't tell apart are the same.
-- Assumes nothing.
use mathlib.Core.Path.{◌≡◌, sym, ap}
use Rattle.std.specs.Prelude.{ℕ, Result, Ok, Err}
use Rattle.walk.specs.declared.Refused.{Refused}
use Rattle.walk.proofs.Refuses.{has_number}
use Rattle.walk.proofs.Apart.{told_one}
use Rattle.write.specs.Answer.{Written, written}

pub written_one : (x y : Result ℕ Refused) → written x ≡ written y → x ≡ y
written_one (Ok n) (Ok m) e = ap (λ (x : Written). Ok x.length) e
written_one (Ok n) (Err r) e = absurd (has_number r (sym (ap (λ (x : Written). x.refusal.number) e)))
written_one (Err r) (Ok n) e = absurd (has_number r (ap (λ (x : Written). x.refusal.number) e))
written_one (Err r) (Err q) e = ap (λ (x : Refused). Err x) (told_one (ap (λ (x : Written). x.refusal) e))
