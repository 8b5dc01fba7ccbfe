-- A part of a buffer by two tests, neither of which can overflow: it lies inside where both pass, and is empty otherwise.
-- Assumes nothing.
use Prim.Native.Nat.{ℕ, ◌+◌, ◌-◌, ◌≤◌, ◌<◌}
use mathlib.Core.Path.{◌≡◌, refl, ap, sym, ◌∙◌}
use mathlib.Core.Bool.{Bool, true, false}
use mathlib.Core.List.{List, []}
use native.Mathlib.Omega.{arith}
use lib.ListN.{length, take, drop}
use lib.Seq.{take-nil, drop-nil}
use lib.Dec.{leb}
use borrow.Author.Tests.{le-leb, lt-leb}
use Rattle.octets.specs.Octets.{pick, part}
use Rattle.join.specs.declared.Which.TheVariants.{Nothing}
use Rattle.join.specs.Viewing.{inside, viewed}

module _ (b : List ℕ) (place long : ℕ) where
  pub past : length b < place + long → [] ≡ inside b place long
  unfolding inside
  past h = ap (λ (t : Bool). pick t (part b place long) []) (sym (lt-leb (place + long) (length b) h))

  pub past_place : length b < place → take (0 - 0) (drop 0 b) ≡ inside b place long
  past_place h = past (omega arith)

  pub past_length : place ≤ length b → length b - place < long → take (0 - 0) (drop 0 b) ≡ inside b place long
  past_length g h = past (omega arith)

  pub within : place ≤ length b → long ≤ length b - place → take (place + long - place) (drop place b) ≡ inside b place long
  unfolding inside
  within g h =
      let k : place + long ≤ length b = omega arith in
      let l : place + long - place ≡ long = omega arith in
      ap (λ (n : ℕ). take n (drop place b)) l ∙ ap (λ (t : Bool). pick t (part b place long) []) (sym (le-leb (place + long) (length b) k))

-- no buffer, no octets
pub nothing : (p j : List ℕ) (place long : ℕ) → take (0 - 0) (drop 0 p) ≡ viewed Nothing p j place long
unfolding viewed inside
nothing p j place long = go (leb (place + long) 0)
  where
    go : (t : Bool) → [] ≡ pick t (part [] place long) []
    go true = sym (ap (take long) (drop-nil place) ∙ take-nil long)
    go false = refl
