-- SPEC F-14: what a recording of that packet alone comes to.
-- Assumes nothing.
use Prim.Native.Nat.{ℕ, suc}
use mathlib.Core.Path.{◌≡◌, refl, ap, sym, ◌∙◌}
use mathlib.Core.Bool.{true}
use mathlib.Core.Logic.{inl}
use mathlib.Core.List.{List, [], ◌∷◌, ◌++◌, append-nil}
use Rattle.octets.specs.Octets.{number, alike, wide}
use Rattle.walk.specs.Walk.{begun, check}
use Rattle.packet.specs.Figure14.{packet}
use Rattle.format.proofs.Figure14.{reads}
use Rattle.cells.specs.Order.{count_in, cell_size, gate}
use Rattle.arrival.specs.Arriving.{whole, arrived_in, arrived}
use Rattle.arrival.proofs.Checked.{arrived_open}
use Rattle.join.specs.Joining.{joined_by, joining}
use Rattle.join.specs.Inner.{is_late}
use Rattle.steps.proofs.Roomed.{roomed_as}
use Rattle.steps.specs.Stepping.{room, is_full, wholly, came_by, came_at, came_of, framed, without, found_in, came, stepped, store_behind}
use Rattle.recording.specs.Recording.{recorded_from, recorded, settings, empty_store}
use Rattle.recording.proofs.Beginning.{begin_gate}
use Rattle.recording.proofs.Pieces.{one, stops, nothing_ends, go_on}

abbrev pub alone : List ℕ
alone = 0x4d ∷ 0x50 ∷ packet

abbrev pub given : List ℕ
given =
    0x4d ∷ 0x4d ∷ 0 ∷ 0 ∷ 0 ∷ 0x17 ∷ 0x18 ∷ 0x05 ∷ 0 ∷ 0 ∷ 1 ∷ 0 ∷ 2 ∷ 0 ∷ 3 ∷ 1 ∷ 0x20 ∷ 6 ∷ 0 ∷ 7 ∷ 0 ∷ 0 ∷ 0 ∷ 0 ∷ 0 ∷ 0 ∷ 0 ∷ 9 ∷ 0 ∷ []

module _ (Z : ℕ) (st : List ℕ) (g : gate settings Z st ≡ 0) where
  arrives_in : (n : ℕ) → arrived_in settings Z st n packet ≡ whole
  unfolding arrived_in
  arrives_in n = rw reads refl

  arrives : arrived settings Z st packet ≡ whole
  arrives = sym (arrived_open settings Z st packet g) ∙ arrives_in (count_in Z st)

  joins : joining settings Z st packet room ≡ joined_by settings Z st packet room whole
  unfolding joining
  joins = ap (joined_by settings Z st packet room) arrives

  -- it is not refused by 19, so nothing is forgotten for it
  comes : came_of settings Z st packet ≡ wholly
  unfolding came_of came_at
  comes =
      ap (λ (x : List ℕ). came_at settings Z x packet) (roomed_as settings Z st packet (ap is_full joins))
      ∙ ap (came_by (is_late (arrived settings Z st packet))) joins

  steps : stepped settings Z st alone true ≡ came packet wholly
  unfolding stepped found_in alike number
  steps = ap (came packet) comes

  written : framed (without packet) ≡ given
  unfolding framed wide
  written = refl

  pub alone_gives : (f : ℕ) → recorded_from settings Z (suc f) st alone ≡ given
  alone_gives f =
      one settings Z f st alone
      ∙ ap (go_on settings Z f st alone) steps
      ∙ ap (λ (r : List ℕ). framed (without packet) ++ r)
      (stops settings Z f (store_behind settings Z st (came packet wholly)) [] (inl (nothing_ends settings Z (store_behind settings Z st (came packet wholly)))))
      ∙ append-nil (framed (without packet))
      ∙ written

pub figure_14 : recorded settings alone ≡ given
unfolding recorded begun check
figure_14 = alone_gives cell_size empty_store (begin_gate settings refl) 28
