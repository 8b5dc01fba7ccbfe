-- The place and length that the view tells name just the octets that the view call hands back.
-- Assumes nothing.
use Prim.Native.Nat.{ℕ, ◌+◌}
use mathlib.Core.Path.{◌≡◌, refl}
use mathlib.Core.Bool.{Bool, true, false}
use mathlib.Core.List.{List, [], ◌∷◌}
use lib.ListN.{length, get_or}
use lib.Dec.{leb}
use Rattle.octets.specs.Octets.{pick, part}
use Rattle.join.specs.declared.Which.{Which}
use Rattle.join.specs.declared.Which.TheVariants.{Packet, Joined, Nothing}
use Rattle.join.specs.Viewing.{inside, named, viewed}
use Rattle.join.specs.Told.{buffer_number}
use Rattle.flat_store.specs.Views.{inside_numbers, view_numbers}

-- an answer is no refusal, and its place and length name this part of a buffer
abbrev pub Names : List ℕ → List ℕ → List ℕ → Type 0
Names b a x = (get_or a 0 0 ≡ 0) × (part b (get_or a 1 0) (get_or a 2 0) ≡ x)

inside_names : (b : List ℕ) (place long : ℕ) → Names b (inside_numbers (length b) place long) (inside b place long)
unfolding inside_numbers inside
inside_names b place long = go (leb (place + long) (length b))
  where
    go : (t : Bool) → Names b (pick t (0 ∷ place ∷ long ∷ []) (0 ∷ 0 ∷ 0 ∷ [])) (pick t (part b place long) [])
    go true = (refl, refl)
    go false = (refl, refl)

pub view_names :
    (w : Which) (p j : List ℕ) (place long : ℕ) → Names (named w p j) (view_numbers (buffer_number w) p j place long) (viewed w p j place long)
unfolding view_numbers viewed
view_names Packet p j place long = inside_names p place long
view_names Joined p j place long = inside_names j place long
view_names Nothing p j place long = inside_names [] place long
