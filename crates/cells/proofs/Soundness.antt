-- The pass that judges each cell: whether those passed are all free, held or records, and the table of where their bodies begin.
-- Assumes nothing.
use Prim.Native.Nat.{ℕ, ◌+◌, ◌≤◌, ◌<◌}
use mathlib.Core.Path.{◌≡◌, refl, ap, ap₂, ◌∙◌}
use mathlib.Core.Bool.{Bool, true}
use mathlib.Core.List.{List}
use native.Mathlib.Numerals.{add-one}
use native.Mathlib.Omega.{arith}
use lib.ListN.{set}
use Rattle.octets.specs.Octets.{Octets}
use Rattle.walk.specs.declared.Settings.{Settings}
use Rattle.cells.specs.declared.Judged.{Judged}
use Rattle.cells.specs.Segments.{both}
use Rattle.cells.specs.Rows.{Cell, free, held, taken, broken, row_at, cell_of}
use Rattle.cells.specs.Order.{is_sound, cell_at, all_to, sound}
use Rattle.cells.specs.Inner.{body_in, judged_of, told_sound, bodies_to, told_body}
use Rattle.cells.proofs.Bodies.{body_judged, body_top}

sound_told : (at : ℕ) (d : Cell) → told_sound (judged_of at d) ≡ is_sound d
sound_told at free = refl
sound_told at (held t) = refl
sound_told at (taken g) = refl
sound_told at broken = refl

pub record Sounding (s : Settings) (Z : ℕ) (st : List ℕ) (n : ℕ) (first table : List ℕ) (a : Bool) (i : ℕ) : Type 0 where
  pub most : i ≤ n
  pub so_far : a ≡ sound s Z st i
  pub bodies : table ≡ bodies_to s Z st i first

module _ {s : Settings} {Z : ℕ} {st : List ℕ} {n : ℕ} {first : List ℕ} where
  pub sounding_first : Sounding s Z st n first first true 0
  unfolding sound all_to bodies_to
  sounding_first = record { most = omega arith; so_far = refl; bodies = refl }

  module _ {table : List ℕ} {a : Bool} {i : ℕ} (p : Sounding s Z st n first table a i) where
    module _ {r : List ℕ} {t : Judged} (er : r ≡ row_at Z st i) (et : t ≡ judged_of (body_in s r) (cell_of s Z r)) where
      is_sound_lem : told_sound t ≡ is_sound (cell_at s Z st i)
      is_sound_lem =
          ap (λ (x : Judged). told_sound x) et
          ∙ sound_told (body_in s r) (cell_of s Z r)
          ∙ ap (λ (x : List ℕ). is_sound (cell_of s Z x)) er

      -- the place is small
      pub place_small : Octets st → told_body t < 65536
      place_small o = omega (arith, body_judged s Z st i er et, body_top s Z st i o)

      pub sounding_turn : {b d : Bool} → i < n → d ≡ told_sound t → b ≡ both a d → Sounding s Z st n first (set table i (told_body t)) b (i + 1)
      unfolding sound all_to bodies_to
      sounding_turn h ed e =
          record {
            most = omega arith;
            so_far = rw (add-one i) (e ∙ ap₂ both p.so_far (ed ∙ is_sound_lem));
            bodies =
                rw (add-one i)
                (ap₂ (λ (x : List ℕ) (k : ℕ). set x i k) p.bodies (body_judged s Z st i er et));
          }

    -- all passed
    module _ (h : n ≤ i) where
      all_of_them : i ≡ n
      all_of_them = omega (arith, p.most)

      pub sounding_sound : a ≡ sound s Z st n
      sounding_sound = p.so_far ∙ ap (sound s Z st) all_of_them

      pub sounding_bodies : table ≡ bodies_to s Z st n first
      sounding_bodies = p.bodies ∙ ap (λ (k : ℕ). bodies_to s Z st k first) all_of_them
