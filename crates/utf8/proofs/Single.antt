-- Octets that are characters by themselves: tested by places, they are text, and so is what is taken or left of them.
-- Assumes nothing.
use Prim.Native.Nat.{ℕ, zero, suc, ◌+◌, ◌≤◌, ◌<◌}
use mathlib.Core.Path.{◌≡◌, refl, ap, sym, ◌∙◌}
use mathlib.Core.Logic.{inl}
use mathlib.Core.Bool.{Bool, true, false}
use mathlib.Core.List.{List, [], ◌∷◌}
use native.Mathlib.Omega.{arith}
use lib.ListN.{length, take, drop, drop_of_length-le}
use lib.Seq.{drop-cons}
use lib.Dec.{ltb}
use borrow.Author.Tests.{ltb-true}
use Rattle.utf8.specs.Text.{Scalars, none, one, utf8, encoded, Text}
use Rattle.utf8.specs.Test.{both, all_single}
use Rattle.utf8.specs.Places.{single_at, all}
use Rattle.utf8.proofs.Passing.{all_first}

-- ---- by places

from_place : (o : List ℕ) (n at : ℕ) → at + n ≡ length o → all (single_at o) at n ≡ all_single (drop at o)
unfolding all all_single single_at
from_place o zero at e =
    let h : length o ≤ at = omega arith in
    sym (ap all_single (drop_of_length-le o h))
from_place o (suc n) at e =
    let h : at < length o = omega arith in
    let k : suc at + n ≡ length o = omega arith in
    all_first (single_at o) at n
    ∙ ap (both (single_at o at)) (from_place o n (suc at) k)
    ∙ sym (ap all_single (drop-cons o at 0 h))

pub single_places : (o : List ℕ) → all (single_at o) 0 (length o) ≡ all_single o
single_places o = from_place o (length o) 0 (omega arith)

-- ---- text

held : (p q : Bool) → both p q ≡ true → (p ≡ true) × (q ≡ true)
held true q h = (refl, h)
held false q h = let z : ◌≡◌ {A = ℕ} 0 1 = cc in absurd (omega arith)

one_octet : (c : ℕ) → ltb c 0x80 ≡ true → utf8 c ≡ c ∷ []
unfolding utf8
one_octet c h = simp h

themselves : (o : List ℕ) → all_single o ≡ true → Scalars o × (o ≡ encoded o)
unfolding all_single encoded
themselves [] h = (none, refl)
themselves (d ∷ o) h =
    let a = held (ltb d 0x80) (all_single o) h in
    let b = themselves o a.1 in
    let l = ltb-true d 0x80 a.0 in
    let v : d < 0xD800 = omega arith in
    (one {c = d} (inl v) b.0, rw (one_octet d a.0) (ap (λ (r : List ℕ). d ∷ r) b.1))

pub single_text : (o : List ℕ) → all_single o ≡ true → Text o
single_text o h = let a = themselves o h in record { characters = o; scalars = a.0; octets = a.1 }

-- ---- parts

pub single_take : (n : ℕ) (o : List ℕ) → all_single o ≡ true → all_single (take n o) ≡ true
unfolding all_single
single_take zero o h = refl
single_take (suc n) [] h = refl
single_take (suc n) (d ∷ o) h = let a = held (ltb d 0x80) (all_single o) h in rw a.0 (single_take n o a.1)

pub single_drop : (n : ℕ) (o : List ℕ) → all_single o ≡ true → all_single (drop n o) ≡ true
unfolding all_single
single_drop zero o h = h
single_drop (suc n) [] h = refl
single_drop (suc n) (d ∷ o) h = single_drop n o (held (ltb d 0x80) (all_single o) h).1
