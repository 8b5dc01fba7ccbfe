-- Places laid one after another: after k of them stands the next.
-- Assumes nothing.
use Prim.Native.Nat.{ℕ, zero, suc, ◌+◌, ◌*◌, ◌≤◌}
use mathlib.Core.Path.{◌≡◌, refl, ap, sym, ◌∙◌}
use borrow.Rule.Slice.PartMut.{put_mid}
use Rattle.std.proofs.lemmas.Slice.{put_mid-paste}
use Rattle.std.proofs.lemmas.List.Edits.{paste_all}
use mathlib.Core.List.{List, ◌++◌, append_assoc}
use native.Mathlib.Omega.{arith}
use native.Mathlib.Numerals.{add-one}
use lib.ListN.{length, get_or, take, drop, length-append}
use lib.Seq.{sets, sets-eq, paste}
use Rattle.octets.proofs.Lists.{sets_append}
use Rattle.fields.specs.declared.Place.{Place}
use Rattle.fields.specs.Fields.{nowhere}
use Rattle.flat.specs.Told.{place_numbers, places_to}

pub places_length : (k : ℕ) (ps : List Place) → length (places_to k ps) ≡ 2 * k
unfolding places_to
places_length zero ps = refl
places_length (suc k) ps =
    let a = length-append (places_to k ps) (place_numbers (get_or ps k nowhere)) in
    let b = places_length k ps in
    omega (arith, a, b)

-- a part of a list written over is the list laid over
pub put_is :
    {X : Type 0} (at k : ℕ) (xs ys zs : List X) → ys ≡ zs → k ≡ length zs → at + length zs ≤ length xs → put_mid at k xs ys ≡ sets xs at zs
put_is at k xs ys zs e f h =
    let a : put_mid at k xs ys ≡ paste xs at zs (length zs) = put_mid-paste at k xs ys zs (length zs) e (sym f) refl in
    let b : paste xs at zs (length zs) ≡ take at xs ++ (zs ++ drop (at + length zs) xs) = paste_all xs at zs (length zs) refl in
    let d : sets xs at zs ≡ take at xs ++ (zs ++ drop (at + length zs) xs) = sets-eq zs xs at h ∙ append_assoc (take at xs) zs (drop (at + length zs) xs) in
    a ∙ b ∙ sym d

-- k places lie after place at of l
pub record Placed (l : List ℕ) (at : ℕ) (ps : List Place) (m : List ℕ) (k : ℕ) : Type 0 where
  pub within : k ≤ 16
  pub same : m ≡ sets l at (places_to k ps)

pub placed_none : (l : List ℕ) (at : ℕ) (ps : List Place) → Placed l at ps l 0
unfolding places_to
placed_none l at ps = record { within = omega arith; same = refl }

pub placed_next :
    (l : List ℕ) (at : ℕ) (ps : List Place) (m n : List ℕ) (k : ℕ) → Placed l at ps m k → k + 1 ≤ 16 →
    n ≡ sets m (at + 2 * k) (place_numbers (get_or ps k nowhere)) → Placed l at ps n (k + 1)
unfolding places_to
placed_next l at ps m n k p h e =
    let x = places_to k ps in
    let y = place_numbers (get_or ps k nowhere) in
    let a : sets m (at + 2 * k) y ≡ sets (sets l at x) (at + length x) y = rw (p.same, places_length k ps) in
    record { within = h; same = rw add-one (e ∙ a ∙ sets_append l at x y) }

pub placed_all : (l : List ℕ) (at : ℕ) (ps : List Place) (m : List ℕ) (k : ℕ) → Placed l at ps m k → 16 ≤ k → m ≡ sets l at (places_to 16 ps)
placed_all l at ps m k p h =
    let w = p.within in
    let e : k ≡ 16 = omega arith in
    p.same ∙ ap (λ (n : ℕ). sets l at (places_to n ps)) e
