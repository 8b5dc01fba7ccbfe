-- A recording begins with a store in order, and with room for a message and its frame.
-- Assumes nothing.
use Prim.Native.Nat.{ℕ, ◌+◌, ◌*◌, ◌≤◌}
use mathlib.Core.Path.{◌≡◌, refl, ap, sym}
use mathlib.Core.List.{List}
use native.Mathlib.Omega.{arith}
use lib.ListN.{length, replicate, length-replicate}
use borrow.Author.Tests.{eq-eqb}
use Rattle.octets.specs.Octets.{Octets}
use Rattle.walk.specs.declared.Settings.{Settings}
use Rattle.walk.specs.Walk.{begun}
use Rattle.cells.specs.Order.{count_in, cell_size, gate}
use Rattle.cells.proofs.Empty.{empty_order, empty_count}
use Rattle.join.proofs.Plain.{zeros_octets}
use Rattle.steps.specs.Stepping.{room}
use Rattle.recording.specs.Recording.{settings, cell_count, empty_store}

pub begin_octets : Octets empty_store
begin_octets = zeros_octets (cell_count * cell_size)

pub begin_count : cell_count ≡ count_in cell_size empty_store
begin_count = sym (empty_count settings cell_size cell_count (omega arith))

pub begin_gate : (s : Settings) → (begun s).refused ≡ 0 → gate s cell_size empty_store ≡ 0
unfolding gate
begin_gate s h = rw (eq-eqb (begun s).refused 0 h, empty_order s cell_size cell_count (omega arith) (omega arith) (omega arith)) refl

pub spare_begins : {l : List ℕ} → l ≡ replicate 65542 0 → 6 + room ≤ length l
spare_begins e = omega (arith, ap length e, length-replicate {A = ℕ} 65542 0)
