-- A store with as many cells as packets are handed over, by arrivals and joinings, has room for them, whatever is taken or
-- forgotten: over the octets, from the same over cells.
-- Assumes nothing.
use Prim.Native.Nat.{ℕ, ◌+◌, ◌≤◌, ◌<◌}
use mathlib.Core.Path.{◌≡◌, refl, ap, ◌∙◌}
use mathlib.Core.Bool.{Bool, true, false}
use mathlib.Core.List.{List, [], ◌∷◌, ◌++◌}
use native.Mathlib.Omega.{arith}
use Rattle.walk.specs.declared.Settings.{Settings}
use Rattle.packet.specs.Numbers.{next_counter, steps_most}
use Rattle.cells.specs.Order.{cell_size}
use Rattle.demand3.specs.Cells.{has_free}
use Rattle.demand3.specs.Traffic.{Event, arrives, passes, takes, forgets}
use Rattle.demand3.specs.Calls.{Call, arrival, taking, joining, forgetting, Plain, packets_in, draws, store_by}
use Rattle.demand3.specs.Presupposed.{InUse, empty_store, store_behind, cells_in}
use Rattle.demand3.specs.Whole.{WholeRoom}
use Rattle.demand3.proofs.Rooms.{arrivals, some_free, roomy}
use Rattle.demand3.proofs.Steps.{event_of}
use Rattle.demand3.proofs.Events.{before, drawing, events_by, events_in}
use Rattle.demand3.proofs.Carried.{behind_cells}
use Rattle.demand3.proofs.Acts.{room_told}

arrivals_append : (a b : List Event) → arrivals (a ++ b) ≡ arrivals a + arrivals b
unfolding arrivals
arrivals_append [] b = omega arith
arrivals_append (arrives t ∷ a) b = omega (arith, arrivals_append a b)
arrivals_append (passes ∷ a) b = arrivals_append a b
arrivals_append (takes n ∷ a) b = arrivals_append a b
arrivals_append (forgets i ∷ a) b = arrivals_append a b

one_most : (e : Event) → arrivals (e ∷ []) ≤ 1
unfolding arrivals
one_most (arrives t) = omega arith
one_most passes = omega arith
one_most (takes n) = omega arith
one_most (forgets i) = omega arith

module _ (s : Settings) (Z : ℕ) where
  none_drawn : (b : Bool) (c : Call) → arrivals (drawing s Z b c) ≡ 0
  unfolding arrivals
  none_drawn true c = refl
  none_drawn false c = refl

  -- a call hands over a packet, or brings no segment
  call_most : (c : Call) (cs : List Call) → arrivals (before s Z c) + packets_in cs ≤ packets_in (c ∷ cs)
  unfolding arrivals packets_in
  call_most (arrival p) cs = omega (arith, one_most (event_of s Z p))
  call_most (taking out) cs = omega arith
  call_most (joining p out) cs = omega (arith, one_most (event_of s Z p))
  call_most (forgetting i) cs = omega arith

  few : (cs : List Call) (st : List ℕ) → arrivals (events_in s Z st cs) ≤ packets_in cs
  unfolding events_in arrivals packets_in
  few [] st = omega arith
  few (c ∷ cs) st =
      omega (
        arith,
        arrivals_append (events_by s Z st c) (events_in s Z (store_by s Z st c) cs),
        arrivals_append (before s Z c) (drawing s Z (draws s Z st c) c),
        none_drawn (draws s Z st c) c,
        few cs (store_by s Z st c),
        call_most c cs,
      )

roomy_of : (Z : ℕ) → 1 ≤ Z → WholeRoom Z
roomy_of Z one s n u cs o h =
    room_told s Z n one u cs o
    (roomy next_counter steps_most n (events_in s Z (empty_store Z n) cs) (let l = few s Z cs (empty_store Z n) in omega arith))

-- after fewer packets than cells one is free
pub free_left : (Z : ℕ) → 1 ≤ Z → (s : Settings) (n : ℕ) → InUse s n → (cs : List Call) → Plain cs → packets_in cs < n →
    has_free (cells_in s Z n (store_behind s Z n cs)) ≡ true
free_left Z one s n u cs o h =
    ap has_free (behind_cells s Z n one u cs o)
    ∙ some_free next_counter steps_most n (events_in s Z (empty_store Z n) cs) (let l = few s Z cs (empty_store Z n) in omega arith)

pub room·whole : WholeRoom cell_size
room·whole = roomy_of cell_size (omega arith)
