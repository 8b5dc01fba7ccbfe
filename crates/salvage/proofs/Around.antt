-- A file around a part: how long it is, that the part is a part of it, and that places are tested in the part as in the file.
-- Assumes nothing.
use Prim.Native.Nat.{ℕ, zero, suc, ◌+◌, ◌-◌, ◌≤◌, ◌<◌}
use mathlib.Core.Path.{◌≡◌, refl, ap, ap₂, sym, ◌∙◌, subst}
use mathlib.Core.Bool.{Bool, true, false}
use mathlib.Core.List.{List, [], ◌∷◌, ◌++◌, append-nil}
use native.Mathlib.Omega.{arith}
use lib.ListN.{length, take, replicate, length-append, length-replicate}
use lib.Seq.{take_at, drop_at}
use Rattle.octets.specs.Octets.{Octets, pick, part}
use Rattle.octets.proofs.Has.{octets_nil, octets_one, octets_append}
use Rattle.walk.specs.declared.Settings.{Settings}
use Rattle.salvage.specs.Listing.{marked, kept, width_at, Stop}
use Rattle.salvage.specs.Calling.{calling, call_of}
use Rattle.salvage.specs.Inner.{Passed}
use Rattle.salvage.specs.Parts.{longest, testable, till_in, around, length_in, call_in}
use Rattle.salvage.proofs.Testing.{kept_has, is_kept, wide_at, is_wide}
use Rattle.std.specs.Prelude.{Option, Some, None}
use Rattle.salvage.proofs.Windows.{Alike, alike}

octets_zeros : (n : ℕ) → Octets (replicate n 0)
octets_zeros zero = octets_nil
octets_zeros (suc n) = octets_append (0 ∷ []) (replicate n 0) (octets_one 0 (omega arith)) (octets_zeros n)

after_octets : (ends : Bool) → Octets (pick ends [] (0 ∷ []))
after_octets true = octets_nil
after_octets false = octets_one 0 (omega arith)

pub testable_most : (ends : Bool) (n : ℕ) → testable ends n ≤ n
unfolding testable
testable_most true n = omega arith
testable_most false n = omega arith

pub around_long : (off : ℕ) (ends : Bool) (y : List ℕ) → length (around off ends y) ≡ length_in off ends (length y)
unfolding around length_in
around_long off true y =
    omega (arith, length-append (replicate off 0) (y ++ []), length-append y [], length-replicate {A = ℕ} off 0)
around_long off false y =
    omega (arith, length-append (replicate off 0) (y ++ (0 ∷ [])), length-append y (0 ∷ []), length-replicate {A = ℕ} off 0)

pub long_ends : (off n : ℕ) → length_in off true n ≡ off + n
unfolding length_in
long_ends off n = refl

pub long_more : (off n : ℕ) → length_in off false n ≡ off + n + 1
unfolding length_in
long_more off n = refl

pub long_least : (off : ℕ) (ends : Bool) (n : ℕ) → off + n ≤ length_in off ends n
unfolding length_in
long_least off true n = omega arith
long_least off false n = omega arith

-- as the code finds them
pub long_is : (off : ℕ) (ends : Bool) (n : ℕ) → ends ≡ true → off + n ≡ length_in off ends n
long_is off ends n e = rw e (sym (long_ends off n))

pub long_is_more : (off : ℕ) (ends : Bool) (n : ℕ) → ends ≡ false → off + n + 1 ≡ length_in off ends n
long_is_more off ends n e = rw e (sym (long_more off n))

pub till_ends : (off : ℕ) (ends : Bool) (n : ℕ) → ends ≡ true → off + n ≡ till_in off ends n
unfolding testable
till_ends off ends n e = rw e

pub till_more : (off : ℕ) (ends : Bool) (n : ℕ) {r : ℕ} → ends ≡ false → r ≡ off + (n + 1 - longest) → r ≡ till_in off ends n
unfolding testable
till_more off ends n e q = rw e q

-- the whole file in hand
around_whole : (x : List ℕ) → around 0 true x ≡ x
unfolding around
around_whole x = append-nil x

pub long_whole : (n : ℕ) → length_in 0 true n ≡ n
long_whole n = omega (arith, long_ends 0 n)

till_whole : (n : ℕ) → till_in 0 true n ≡ n
unfolding testable
till_whole n = omega arith

pub call_whole : (s : Settings) (x : List ℕ) (w : Stop) (grant free : ℕ) → call_in s x 0 true w grant free ≡ call_of s x w grant free
call_whole s x w grant free = ap₂ (λ (y : List ℕ) (t : ℕ). calling s y t grant free w) (around_whole x) (till_whole (length x))

module _ (off : ℕ) (ends : Bool) (y : List ℕ) where
  around_part : part (around off ends y) off (length y) ≡ y
  unfolding around
  around_part =
      let z = y ++ pick ends [] (0 ∷ []) in
      ap (take (length y)) (drop_at (replicate off 0) z off (length-replicate off 0)) ∙ take_at y (pick ends [] (0 ∷ [])) (length y) refl

  around_octets : Octets y → Octets (around off ends y)
  unfolding around
  around_octets o =
      octets_append (replicate off 0) (y ++ pick ends [] (0 ∷ [])) (octets_zeros off) (octets_append y (pick ends [] (0 ∷ [])) o (after_octets ends))

  around_ends : ends ≡ true → off + length y ≡ length (around off ends y)
  around_ends e = sym (around_long off ends y ∙ ap (λ (b : Bool). length_in off b (length y)) e ∙ long_ends off (length y))

  pub alike_around : (s : Settings) → Octets y → Alike s (around off ends y) y off (testable ends (length y))
  alike_around s o =
      let x = around off ends y in
      let h : off + length y ≤ length x = omega (arith, around_long off ends y, long_least off ends (length y)) in
      subst (λ (z : List ℕ). Alike s x z off (testable ends (length y))) around_part
      (alike s x off (length y) h (around_octets o) ends around_ends)

-- ---- what the code finds in the part, said of the file

module _ {s : Settings} {x y : List ℕ} {off till : ℕ} (a : Alike s x y off till) {at : ℕ} (l : off ≤ at) where
  pub found_wide :
      {v : Option ℕ} → at < off + till → v ≡ wide_at s y (at - off) → v ≡ wide_at s x at
  found_wide {v} h e =
      let q : off + (at - off) ≡ at = omega arith in
      let k = a.tests (at - off) (omega arith) ∙ ap (kept s x) q in
      let w = a.widths (at - off) (omega arith) ∙ ap (width_at x) q in
      e ∙ (λ i. pick (k i) (Some (w i)) None)

  pub found_passed :
      {end r : ℕ} → end ≤ off + till → Passed y (at + 1 - off) (end - off) r → at < end → Passed x (at + 1) end (off + r)
  found_passed {end} {r} h p b =
      record {
        low = omega (arith, p.low);
        top = omega (arith, p.top);
        none =
            λ k i j.
            let q : off + (k - off) ≡ k = omega arith in
            ap (marked x) (sym q) ∙ sym (a.marks (k - off) (omega (arith, p.top))) ∙ p.none (k - off) (omega arith) (omega arith);
      }

pub found_inside :
    (s : Settings) (y : List ℕ) (off at v : ℕ) → off ≤ at → Some v ≡ wide_at s y (at - off) → at + v ≤ off + length y
found_inside s y off at v l e =
    let k = is_kept s y (at - off) e in
    let w = is_wide s y (at - off) e in
    omega (arith, (kept_has s y (at - off) k).inside)
