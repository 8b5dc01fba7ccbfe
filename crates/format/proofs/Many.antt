-- A field a number of times, one after the other. Carries the laws of the field.
-- Assumes nothing.
use Prim.Native.Nat.{ℕ, zero, suc, ◌+◌, ◌<◌}
use mathlib.Core.Path.{◌≡◌, refl, ap, ◌∙◌}
use mathlib.Core.List.{List, [], ◌∷◌, ◌++◌, append_assoc, append-nil}
use mathlib.Core.Bool.{true}
use native.Mathlib.Omega.{arith}
use native.Mathlib.Nat.{add-zero, add_assoc, le_refl}
use lib.ListN.{length, length-append}
use Rattle.octets.specs.Octets.{Octets}
use Rattle.octets.proofs.Has.{Has, has_first, has_second, octets_nil, octets_append}
use Rattle.walk.specs.declared.Bound.{Bound}
use Rattle.walk.specs.Walk.{Reading, goes, going}
use Rattle.fields.specs.declared.Place.{Place}
use Rattle.fields.specs.Form.{joined}
use Rattle.packet.specs.Format.{Each}
use Rattle.format.specs.Told.{InOrder}
use Rattle.format.proofs.Field.{Room, room_first, room_second, Sound, Took, Field, took_both, took_sound, skip_took, order_none, order_both}

module _ (bound : Bound) (p : List ℕ) {A : Type 0} (F : Field bound p A) where
  unfoldable pub steps : ℕ → Reading → Reading
  steps zero w = w
  steps (suc n) w = steps n (F.step w)

  unfoldable pub values : ℕ → Reading → List A
  values zero w = []
  values (suc n) w = F.value w ∷ values n (F.step w)

  unfoldable pub spots : ℕ → Reading → List Place
  spots zero w = []
  spots (suc n) w = F.spots w ++ spots n (F.step w)

  pub many_back :
      (n i : ℕ) (x : List A) → (length x ≡ n) × Each F.Fit x → Has p i (joined F.form x) →
      Room bound i (joined F.form x) →
      (steps n (goes i) ≡ goes (i + length (joined F.form x))) × (values n (goes i) ≡ x)
  unfolding steps values joined Each
  many_back zero i [] f h l = (rw add-zero, refl)
  many_back zero i (t ∷ x) f h l = absurd (omega (arith, f.0))
  many_back (suc n) i [] f h l = absurd (omega (arith, f.0))
  many_back (suc n) i (t ∷ x) f h l =
      let a =
      F.back i t f.1.0 (has_first (F.form t) (joined F.form x) h) (room_first bound i (F.form t) (joined F.form x) l) in
      let b =
      many_back n (i + length (F.form t)) x (omega (arith, f.0), f.1.1) (has_second (F.form t) (joined F.form x) h)
      (room_second bound i (F.form t) (joined F.form x) l) in
      (simp (a.0, b.0, length-append, add_assoc), simp (a.0, a.1, b.1))

  pub many_plain : (x : List A) → Each F.Fit x → length (joined F.form x) < 4294967296 → Octets (joined F.form x)
  unfolding joined Each
  many_plain [] f l = octets_nil
  many_plain (t ∷ x) f l =
      let e = simp length-append at l in
      octets_append (F.form t) (joined F.form x) (F.plain t f.0 (omega arith)) (many_plain x f.1 (omega arith))

  many_sound : Octets p → (w : Reading) → Sound bound p w → Sound bound p (F.step w)
  many_sound o w z e = took_sound bound p _ (F.only o w z e).0 e

  pub many_only :
      (n : ℕ) → Octets p → (w : Reading) → Sound bound p w → going (steps n w) ≡ true →
      Took bound p w (steps n w) (joined F.form (values n w)) × ((length (values n w) ≡ n) × Each F.Fit (values n w))
  unfolding steps values joined Each
  many_only zero o w z g = (skip_took bound p w z g, (refl, tt))
  many_only (suc n) o w z g =
      let b = many_only n o (F.step w) (many_sound o w z) g in
      let a = F.only o w z b.0.went in
      (took_both bound p _ _ a.0 b.0, (ap suc b.1.0, (a.1, b.1.1)))

  pub many_order :
      (n : ℕ) → Octets p → (w : Reading) → Sound bound p w → going (steps n w) ≡ true → InOrder w.at (spots n w) (steps n w).at
  unfolding steps spots
  many_order zero o w z g = order_none (le_refl w.at)
  many_order (suc n) o w z g =
      let b = many_only n o (F.step w) (many_sound o w z) g in
      order_both _ _ _ (F.spots w) (spots n (F.step w)) (F.order o w z b.0.went) (many_order n o (F.step w) (many_sound o w z) g)

  -- n of them
  abbrev pub many : ℕ → Field bound p (List A)
  many n =
      record {
        step = steps n;
        value = values n;
        form = joined F.form;
        Fit = λ x. (length x ≡ n) × Each F.Fit x;
        spots = spots n;
        back = many_back n;
        plain = λ x f l. many_plain x f.1 l;
        only = many_only n;
        order = many_order n;
      }

  -- ---- the last one, instead of the first

  pub steps_last : (n : ℕ) (w : Reading) → steps (suc n) w ≡ F.step (steps n w)
  unfolding steps
  steps_last zero w = refl
  steps_last (suc n) w = steps_last n (F.step w)

  pub spots_last : (n : ℕ) (w : Reading) → spots (suc n) w ≡ spots n w ++ F.spots (steps n w)
  unfolding steps spots
  spots_last zero w = simp append-nil
  spots_last (suc n) w = ap (λ (r : List Place). F.spots w ++ r) (spots_last n (F.step w)) ∙ simp append_assoc
