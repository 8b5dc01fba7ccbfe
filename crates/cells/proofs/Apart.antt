-- The cells one by one: where all are sound each is.
-- Assumes nothing.
use Prim.Native.Nat.{ℕ, zero, suc, ◌<◌}
use mathlib.Core.Path.{◌≡◌, ap, sym, ◌∙◌}
use mathlib.Core.Logic.{⊎_elim}
use mathlib.Core.Bool.{Bool, true}
use mathlib.Core.List.{List}
use native.Mathlib.Omega.{arith}
use Rattle.octets.proofs.Lists.{below_or}
use Rattle.walk.specs.declared.Settings.{Settings}
use Rattle.cells.specs.Rows.{row_at, cell_of}
use Rattle.cells.specs.Order.{is_sound, cell_at, all_to, sound}
use Rattle.cells.proofs.Held.{both_true}

-- what holds of all holds of each
pub all_at : (f : ℕ → Bool) (n i : ℕ) → all_to f n ≡ true → i < n → f i ≡ true
unfolding all_to
all_at f zero i e h = absurd (omega arith)
all_at f (suc n) i e h =
    let b = both_true (all_to f n) (f n) e in
    ⊎_elim
    (λ k. all_at f n i b.0 k)
    (λ k. let d : n ≡ i = omega arith in ap f (sym d) ∙ b.1)
    (below_or i n)

pub sound_at : (s : Settings) (Z : ℕ) (st : List ℕ) (n i : ℕ) {r : List ℕ} → sound s Z st n ≡ true → i < n → r ≡ row_at Z st i → is_sound (cell_of s Z r) ≡ true
unfolding sound
sound_at s Z st n i e h k = ap (λ (x : List ℕ). is_sound (cell_of s Z x)) k ∙ all_at (λ j. is_sound (cell_at s Z st j)) n i e h
