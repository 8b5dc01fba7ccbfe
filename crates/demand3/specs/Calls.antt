-- Calls on a store's octets, one after the other, by the very definitions that the calls promise: an arrival of a packet, a taking with
-- a lent output, a joining of a packet with a lent output, a forgetting of the record in a cell. Demand 3 speaks of lists of them: nobody
-- else touches the store (DEMANDS 3.1).
-- Assumes nothing: these are definitions.
use Rattle.std.specs.Prelude.{ℕ, suc, ◌≡◌, ◌⊎◌, Bool, true, false, length}
use Rattle.std.proofs.Math.Option.{Option, none, some}
use mathlib.Core.List.{List, [], ◌∷◌, Memᴰ}
use Rattle.octets.specs.Octets.{pick, Octets}
use Rattle.walk.specs.declared.Settings.{Settings}
use Rattle.arrival.specs.Arriving.{Arrived, whole, stored, again, late, refused, arrived, store_with}
use Rattle.taking.specs.Taking.{Took, took, out_with}
use Rattle.taking.specs.Forgetting.{store_forgotten}
use Rattle.join.specs.Joining.{less_taken, store_joined, out_joined}

-- of `store::arrive` the packet, of `store::take` the lent output, of `join::join` both; each of any length and content; of
-- `store::forget` the cell's number, any one
pub data Call : Type 0 where
  arrival : List ℕ → Call
  taking : List ℕ → Call
  joining : List ℕ → List ℕ → Call
  forgetting : ℕ → Call

-- the call hands over the packet: an arrival of it, or a joining
abbrev pub Brings : List ℕ → Call → Type 0
Brings p c = (c ≡ arrival p) ⊎ ((out : List ℕ) × (c ≡ joining p out))

-- one of the calls does
abbrev pub Handed : List ℕ → List Call → Type 0
Handed p cs = (c : Call) × Memᴰ c cs × Brings p c

-- the packets that some calls hand over are octets: what their type says
abbrev pub Plain : List Call → Type 0
Plain cs = (p : List ℕ) → Handed p cs → Octets p

-- how many packets some calls hand over: their arrivals and joinings
unfoldable pub packets_in : List Call → ℕ
packets_in [] = 0
packets_in (arrival p ∷ cs) = suc (packets_in cs)
packets_in (taking out ∷ cs) = packets_in cs
packets_in (joining p out ∷ cs) = suc (packets_in cs)
packets_in (forgetting i ∷ cs) = packets_in cs

-- the lent output; an arrival has none, and a forgetting
abbrev pub out_of : Call → List ℕ
out_of (arrival p) = []
out_of (taking out) = out
out_of (joining p out) = out
out_of (forgetting i) = []

-- joining goes on to a taking: the segment was stored, held already, or of a message that was taken
abbrev pub goes_on : Arrived → Bool
goes_on whole = false
goes_on (stored i) = true
goes_on again = true
goes_on late = true
goes_on (refused k) = false

module _ (s : Settings) (Z : ℕ) where
  -- the store after an arrival
  abbrev pub arrived_store : List ℕ → List ℕ → List ℕ
  arrived_store st p = store_with Z st p (arrived s Z st p)

  -- whether a call takes, if it finds this store
  abbrev pub draws : List ℕ → Call → Bool
  draws st (arrival p) = false
  draws st (taking out) = true
  draws st (joining p out) = goes_on (arrived s Z st p)
  draws st (forgetting i) = false

  -- the store before its taking: after its arrival, or after its forgetting
  abbrev pub store_at : List ℕ → Call → List ℕ
  store_at st (arrival p) = arrived_store st p
  store_at st (taking out) = st
  store_at st (joining p out) = arrived_store st p
  store_at st (forgetting i) = store_forgotten s Z st i

  -- what its taking comes to, if there is one: a message, or a refusal
  unfoldable pub took_by : List ℕ → Call → Option Took
  took_by st c = pick (draws st c) (some (took s Z (store_at st c) (length (out_of c)))) none

  -- the store after a call
  unfoldable pub store_by : List ℕ → Call → List ℕ
  store_by st (arrival p) = arrived_store st p
  store_by st (taking out) = less_taken s Z st (length out)
  store_by st (joining p out) = store_joined s Z st p (length out)
  store_by st (forgetting i) = store_forgotten s Z st i

  -- and its output
  unfoldable pub out_by : List ℕ → Call → List ℕ
  out_by st (arrival p) = []
  out_by st (taking out) = out_with out (took s Z st (length out))
  out_by st (joining p out) = out_joined s Z st p out
  out_by st (forgetting i) = []

  -- the store after a list of calls
  unfoldable pub store_after : List ℕ → List Call → List ℕ
  store_after st [] = st
  store_after st (c ∷ cs) = store_after (store_by st c) cs

  -- and the outputs, each as its own call left it
  unfoldable pub outs_after : List ℕ → List Call → List (List ℕ)
  outs_after st [] = []
  outs_after st (c ∷ cs) = out_by st c ∷ outs_after (store_by st c) cs
