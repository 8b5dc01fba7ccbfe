-- Joining.
-- SPEC J-1 to J-3, J-5: joining is arrival and then, unless that refuses or the packet came whole, taking. If taking refuses, by 20
-- or 21, what arrived is kept; no other call changes a store beside a refusal. A packet that came whole leaves the output alone,
-- however short it is.
-- Assumes nothing: these are definitions.
use Rattle.std.specs.Prelude.{ℕ, ◌+◌, ◌-◌, List, length}
use Rattle.walk.specs.declared.Settings.{Settings}
use Rattle.walk.specs.declared.Refusal.{Refusal}
use Rattle.walk.specs.Walk.{refusal}
use Rattle.packet.specs.Format.{primary_size}
use Rattle.packet.specs.Reading.{read_packet}
use Rattle.cells.specs.Order.{count_in}
use Rattle.cells.specs.Messages.{Run}
use Rattle.arrival.specs.Arriving.{Arrived, whole, stored, again, late, refused, arrived, store_with}
use Rattle.taking.specs.Taking.{Took, message, unable, took, store_less, out_with}

-- what joining comes to: a body at a place of the arrived packet, with its length; a message that was taken; or a refusal
pub data Joining : Type 0 where
  in_packet : ℕ → ℕ → Joining
  in_output : Run → Joining
  unjoined : Refusal → Joining

-- where the body of a packet begins that came whole: after the primary header and the H octets of the secondary one
abbrev pub body_from : Settings → List ℕ → ℕ
body_from s p = primary_size + (read_packet s p).h

-- taking's answer
abbrev pub took_as : Took → Joining
took_as (message r) = in_output r
took_as (unable k) = unjoined (refusal k)

-- the store after a taking from any octets
abbrev pub less_taken : Settings → ℕ → List ℕ → ℕ → List ℕ
less_taken s Z x long = store_less s Z x (count_in Z x) (took s Z x long)

-- by what the arrival comes to: after "stored", "held" and "taken" there is a taking from the store after the arrival; `long` is the
-- length of the output
abbrev pub joined_by : Settings → ℕ → List ℕ → List ℕ → ℕ → Arrived → Joining
joined_by s Z st p long whole = in_packet (body_from s p) (length p - body_from s p)
joined_by s Z st p long (stored i) = took_as (took s Z (store_with Z st p (stored i)) long)
joined_by s Z st p long again = took_as (took s Z (store_with Z st p again) long)
joined_by s Z st p long late = took_as (took s Z (store_with Z st p late) long)
joined_by s Z st p long (refused r) = unjoined r

-- the store then: the arrived segment is in it, and the message that was taken is not
abbrev pub store_by : Settings → ℕ → List ℕ → List ℕ → ℕ → Arrived → List ℕ
store_by s Z st p long whole = store_with Z st p whole
store_by s Z st p long (stored i) = less_taken s Z (store_with Z st p (stored i)) long
store_by s Z st p long again = less_taken s Z (store_with Z st p again) long
store_by s Z st p long late = less_taken s Z (store_with Z st p late) long
store_by s Z st p long (refused r) = store_with Z st p (refused r)

-- the output then
abbrev pub out_by : Settings → ℕ → List ℕ → List ℕ → List ℕ → Arrived → List ℕ
out_by s Z st p out whole = out
out_by s Z st p out (stored i) = out_with out (took s Z (store_with Z st p (stored i)) (length out))
out_by s Z st p out again = out_with out (took s Z (store_with Z st p again) (length out))
out_by s Z st p out late = out_with out (took s Z (store_with Z st p late) (length out))
out_by s Z st p out (refused r) = out

-- a packet p is joined at a store st, with an output of some length
unfoldable pub joining : Settings → ℕ → List ℕ → List ℕ → ℕ → Joining
joining s Z st p long = joined_by s Z st p long (arrived s Z st p)

-- the store after it
unfoldable pub store_joined : Settings → ℕ → List ℕ → List ℕ → ℕ → List ℕ
store_joined s Z st p long = store_by s Z st p long (arrived s Z st p)

-- the output after it
unfoldable pub out_joined : Settings → ℕ → List ℕ → List ℕ → List ℕ → List ℕ
out_joined s Z st p out = out_by s Z st p out (arrived s Z st p)
