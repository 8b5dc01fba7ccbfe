-- A joining at a store where no message is complete: its packet completes one message at the most, so its taking picks that one, and
-- nothing complete is left.
-- Assumes nothing.
use Prim.Native.Nat.{ℕ, ◌≤◌}
use mathlib.Core.Path.{◌≡◌, refl, ap, sym, ◌∙◌, subst}
use mathlib.Core.Logic.{◌≢◌, ◌⊎◌, inl, inr}
use mathlib.Core.Bool.{Bool, true, false}
use mathlib.Core.Option.{some, none-ne-some}
use mathlib.Core.List.{List, [], ◌∷◌, ◌++◌}
use native.Mathlib.Omega.{arith}
use lib.ListN.{length}
use Rattle.octets.specs.Octets.{Octets}
use Rattle.octets.proofs.Lists.{bool}
use Rattle.walk.specs.declared.Settings.{Settings}
use Rattle.packet.specs.Numbers.{next_counter, steps_most}
use Rattle.packet.proofs.Rounds.{next_injective}
use Rattle.cells.specs.Rows.{Cell}
use Rattle.cells.specs.Messages.{Run, picked}
use Rattle.arrival.specs.Arriving.{Arrived, whole, stored, again, late, refused, arrived, store_with}
use Rattle.taking.specs.Taking.{unable}
use Rattle.taking.specs.Forgetting.{store_forgotten}
use Rattle.join.specs.Joining.{less_taken}
use Rattle.demand3.specs.Complete.{Single}
use Rattle.demand3.specs.Traffic.{takes, empty, taken_from, stepped, after}
use Rattle.demand3.specs.Base.{CompleteFrom}
use Rattle.demand3.specs.Calls.{Call, joining, Plain, goes_on, arrived_store, draws, store_at, store_by, took_by}
use Rattle.demand3.specs.Sendings.{Sending, key_in, start_of, steps_to, IsCut}
use Rattle.demand3.specs.Presupposed.{InUse, empty_store, store_behind, cells_in}
use Rattle.demand3.specs.Whole.{IsComplete, Picks}
use Rattle.demand3.specs.Joins.{NoneComplete}
use Rattle.demand3.proofs.Exactly.{complete_found, complete_picks}
use Rattle.demand3.proofs.Takings.{single_after, single_empty}
use Rattle.demand3.proofs.Lone.{Lies, Lone, picked_lies, idle_forgotten, lone_step, idle_taken}
use Rattle.demand3.proofs.Called.{store_by_lem}
use Rattle.demand3.proofs.Plain.{Pure, joining_pure}
use Rattle.demand3.proofs.Steps.{Kept, event_of, event_no_take, arrival_cells, forgetting_cells, pick_no}
use Rattle.demand3.proofs.Events.{before, drawing, events_in}
use Rattle.demand3.proofs.Simulates.{took_by_lem, by_cells}
use Rattle.demand3.proofs.Carried.{behind_cells, behind_keeps}

-- ---- at the store after some calls

-- an arrival from which no joining goes on leaves the store
undrawn : (Z : ℕ) (st p : List ℕ) (a : Arrived) → goes_on a ≡ false → store_with Z st p a ≡ st
unfolding store_with
undrawn Z st p whole e = refl
undrawn Z st p (stored i) e = let z : ◌≡◌ {A = ℕ} 0 1 = cc in absurd (omega arith)
undrawn Z st p again e = refl
undrawn Z st p late e = refl
undrawn Z st p (refused k) e = refl

module _ (Z : ℕ) (one : 1 ≤ Z) (s : Settings) (n : ℕ) (u : InUse s n) where
  cells_single : (l : List Call) → Plain l → Single (cells_in s Z n (store_behind s Z n l))
  cells_single l o =
      subst Single (sym (behind_cells s Z n one u l o)) (single_after next_counter steps_most (events_in s Z (empty_store Z n) l) (empty n) (single_empty n))

  -- if nothing is picked, no message is complete
  pub none_is : (l : List Call) → Plain l → NoneComplete s Z n (store_behind s Z n l) → (m : Sending) → IsCut s Z m → IsComplete s Z n m (store_behind s Z n l) → ⊥
  none_is l o e m k d =
      let z = complete_picks next_counter steps_most (cells_in s Z n (store_behind s Z n l)) (cells_single l o) (key_in s m) (start_of s m) (steps_to s m) d in
      none-ne-some z.0 (sym e ∙ z.1)

  -- a forgetting completes nothing
  pub none_forgotten : (l : List Call) → Plain l → NoneComplete s Z n (store_behind s Z n l) → (i : ℕ) →
      NoneComplete s Z n (store_forgotten s Z (store_behind s Z n l) i)
  unfolding stepped
  none_forgotten l o e i =
      ap (picked next_counter steps_most) (forgetting_cells s Z n (store_behind s Z n l) (behind_keeps s Z n one u l o) i)
      ∙ idle_forgotten next_counter steps_most next_injective (cells_in s Z n (store_behind s Z n l)) (cells_single l o) e i

  module _ (l : List Call) (o : Plain l) (p out : List ℕ) (plain : Octets p) (none' : NoneComplete s Z n (store_behind s Z n l)) where
    abbrev st : List ℕ
    st = store_behind s Z n l

    abbrev cs : List Cell
    cs = cells_in s Z n st

    abbrev c : Call
    c = joining p out

    -- the cells with the packet's segment
    abbrev then : List Cell
    then = stepped next_counter steps_most cs (event_of s Z p)

    pure : Pure c
    pure = joining_pure p out plain

    kept : Kept s Z n st
    kept = behind_keeps s Z n one u l o

    single : Single cs
    single = cells_single l o

    then_single : Single then
    unfolding after
    then_single = single_after next_counter steps_most (event_of s Z p ∷ []) cs single

    then_lone : Lone next_counter steps_most next_injective then
    then_lone = lone_step next_counter steps_most next_injective cs single none' (event_of s Z p) (event_no_take s Z p)

    then_is : cells_in s Z n (arrived_store s Z st p) ≡ then
    then_is = arrival_cells s Z n st kept p

    -- what its taking comes to, and the cells after it
    takes_then : draws s Z st c ≡ true → took_by s Z st c ≡ some (taken_from next_counter steps_most then (length out))
    unfolding after
    takes_then d = took_by_lem s Z n st kept c pure d

    cells_after : draws s Z st c ≡ true → cells_in s Z n (store_by s Z st c) ≡ stepped next_counter steps_most then (takes (length out))
    unfolding after
    cells_after d = by_cells s Z n st kept c pure ∙ ap (λ (b : Bool). after next_counter steps_most cs (before s Z c ++ drawing s Z b c)) d

    -- nothing is complete after it
    pub none_after : took_by s Z st c ≢ some (unable 21) → NoneComplete s Z n (store_by s Z st c)
    none_after no-21 = go (bool (draws s Z st c))
      where
        go : (draws s Z st c ≡ true) ⊎ (draws s Z st c ≡ false) → NoneComplete s Z n (store_by s Z st c)
        go (inl d) =
            ap (picked next_counter steps_most) (cells_after d)
            ∙ idle_taken next_counter steps_most next_injective then then_single then_lone (length out)
            (λ e. no-21 (takes_then d ∙ ap some e))
        go (inr d) =
            ap (λ (x : List ℕ). picked next_counter steps_most (cells_in s Z n x))
            (store_by_lem s Z st c ∙ pick_no (draws s Z st c) (less_taken s Z (store_at s Z st c) (length out)) (store_at s Z st c) d
            ∙ undrawn Z st p (arrived s Z st p) d)
            ∙ none'

    -- if a message is complete with the packet, the joining picks it
    module _ (m : Sending) (k : IsCut s Z m) (d : IsComplete s Z n m (arrived_store s Z st p)) where
      done : CompleteFrom then (key_in s m) (start_of s m) (steps_to s m)
      done = subst (λ (x : List Cell). CompleteFrom x (key_in s m) (start_of s m) (steps_to s m)) then_is d

      whole_there : (r : Run) × Lies next_counter steps_most next_injective then r × (r.head.key ≡ key_in s m) × (r.head.counter ≡ start_of s m)
      whole_there =
          let z =
          complete_found next_counter steps_most then then_single (key_in s m) (start_of s m) (steps_to s m) done in
          (z.0, record { first = z.1; found = z.2 }, z.3, z.4)

      is_picked : (r : Run) × (picked next_counter steps_most then ≡ some r)
      is_picked =
          complete_picks next_counter steps_most then then_single (key_in s m) (start_of s m) (steps_to s m) done

      goes_on_lem : (draws s Z st c ≡ true) ⊎ (draws s Z st c ≡ false) → draws s Z st c ≡ true
      goes_on_lem (inl e) = e
      goes_on_lem (inr e) =
          let f : picked next_counter steps_most cs ≡ some is_picked.0 =
          ap (λ (x : List ℕ). picked next_counter steps_most (cells_in s Z n x)) (sym (undrawn Z st p (arrived s Z st p) e)) ∙ ap (picked next_counter steps_most) then_is ∙ is_picked.1 in
          absurd (none-ne-some is_picked.0 (sym none' ∙ f))

      pub completes_picks : Picks s Z n m st c
      completes_picks =
          let r = is_picked.0 in
          let w = whole_there in
          let e : w.0 ≡ r = then_lone r w.0 (picked_lies next_counter steps_most next_injective then r is_picked.1) w.1 in (
            goes_on_lem (bool (draws s Z st c)),
            (
              r,
              ap (picked next_counter steps_most) then_is ∙ is_picked.1,
              (ap (λ (x : Run). x.head.key) (sym e) ∙ w.2, ap (λ (x : Run). x.head.counter) (sym e) ∙ w.3),
            ),
          )
