-- Joinings at a store where no message is complete, as a program that only joins makes them: the joining that completes a message hands
-- it out, and leaves nothing complete.
-- Assumes nothing: these are definitions.
use Rattle.std.specs.Prelude.{ℕ, ◌+◌, ◌≤◌, ◌≡◌, ◌≢◌, ◌⊎◌, length}
use Rattle.std.proofs.Math.Option.{some, none}
use mathlib.Core.List.{List, [], ◌∷◌, ◌++◌, Memᴰ}
use Rattle.octets.specs.Octets.{Octets}
use Rattle.walk.specs.declared.Settings.{Settings}
use Rattle.packet.specs.Numbers.{next_counter, steps_most}
use Rattle.cells.specs.Messages.{picked}
use Rattle.taking.specs.Taking.{unable}
use Rattle.demand3.specs.Calls.{Call, joining, forgetting, Plain, took_by}
use Rattle.demand3.specs.Sendings.{Sending, header_size, body_size}
use Rattle.demand3.specs.Presupposed.{InUse, store_behind, cells_in, AllCame, Untaken, Anew, Given}
use Rattle.demand3.specs.Whole.{Delivers}

module _ (s : Settings) (Z n : ℕ) where
  -- no message is complete: a taking would pick none
  abbrev pub NoneComplete : List ℕ → Type 0
  NoneComplete st = picked next_counter steps_most (cells_in s Z n st) ≡ none

  -- the joining of p, after the calls `before` and `since`, completes the message and has output for it
  pub record Completes (ms : List Sending) (m : Sending) (before since : List Call) (p out : List ℕ) : Type 0 where
    -- what demand 3 presupposes, of the calls and of the joining
    pub given : Given s Z n ms (before ++ since ++ joining p out ∷ [])
    -- the message is one of those
    pub sent : Memᴰ m ms
    -- `before` is empty or ends with the forgetting of its record
    pub anew : Anew s Z n m before
    -- no call of `since` takes it
    pub untaken : Untaken s Z m (store_behind s Z n before) since
    -- before the joining nothing is complete
    pub nothing : NoneComplete (store_behind s Z n (before ++ since))
    -- with it, all the message's segments have arrived
    pub all : AllCame s m (since ++ joining p out ∷ [])
    -- the output has as many octets as identification, header and body
    pub enough : 2 + header_size s m + body_size s m ≤ length out

  -- the calls are joinings, and forgettings between them; none of them is refused for want of output; packets are octets
  pub record OnlyJoins (cs : List Call) : Type 0 where
    pub octets : Plain cs
    pub joins : (x y : List Call) (c : Call) → cs ≡ x ++ c ∷ y →
        ((p : List ℕ) × (out : List ℕ) × (c ≡ joining p out)) ⊎ ((i : ℕ) × (c ≡ forgetting i))
    pub long : (x y : List Call) (c : Call) → cs ≡ x ++ c ∷ y → took_by s Z (store_behind s Z n x) c ≢ some (unable 21)

-- a joining that completes a message hands it out
abbrev pub WholeJoining : ℕ → Type 0
WholeJoining Z = (s : Settings) (n : ℕ) → InUse s n → (ms : List Sending) (m : Sending) (before since : List Call) (p out : List ℕ) →
    Completes s Z n ms m before since p out → Delivers s Z n m (store_behind s Z n (before ++ since)) (joining p out)

-- if nothing is complete before a joining, and it is not refused by 21, nothing is complete after it: whatever the packet, whatever was
-- called before, with room or without
abbrev pub WholeNoneLeft : ℕ → Type 0
WholeNoneLeft Z = (s : Settings) (n : ℕ) → InUse s n → (cs : List Call) (p out : List ℕ) → Plain cs → Octets p →
    NoneComplete s Z n (store_behind s Z n cs) →
    took_by s Z (store_behind s Z n cs) (joining p out) ≢ some (unable 21) →
    NoneComplete s Z n (store_behind s Z n (cs ++ joining p out ∷ []))

-- so that joinings, each with output long enough, leave nothing complete in the store, whatever is forgotten between
abbrev pub WholeOnlyJoins : ℕ → Type 0
WholeOnlyJoins Z = (s : Settings) (n : ℕ) → InUse s n → (cs : List Call) → OnlyJoins s Z n cs → NoneComplete s Z n (store_behind s Z n cs)
