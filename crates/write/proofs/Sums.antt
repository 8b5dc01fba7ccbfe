-- The sum of the definitions is the library's.
-- Assumes nothing.
use Prim.Native.Nat.{ℕ, ◌+◌}
use mathlib.Core.Path.{◌≡◌, refl, ap, sym, ◌∙◌}
use mathlib.Core.List.{List, [], ◌∷◌}
use Rattle.std.specs.List.{sum as lib_sum}
use Rattle.std.proofs.lemmas.List.Sums.{sum_by-cons}
use Rattle.write.specs.Given.{sum}

pub sum_is : (ns : List ℕ) → sum ns ≡ lib_sum ns
unfolding sum
sum_is [] = refl
sum_is (n ∷ ns) = ap (λ (m : ℕ). n + m) (sum_is ns) ∙ sym (sum_by-cons (λ x. x) n ns)
