-- What the code hands about: reading's and taking's answers as joining's; and joining where neither settings nor order are
-- tested.
-- Assumes nothing: these are definitions.
use Rattle.std.specs.Prelude.{ℕ, ◌+◌, ◌-◌, Bool, true, false, List, length, eqb, Result, Ok, Err}
use Rattle.octets.specs.Octets.{pick}
use Rattle.walk.specs.declared.Refused.{Refused}
use Rattle.walk.specs.declared.Settings.{Settings}
use Rattle.packet.specs.Answer.{Header}
use Rattle.packet.specs.declared.Header.{Header as Decoded}
use Rattle.arrival.specs.declared.Kind.{Kind}
use Rattle.arrival.specs.declared.Kind.TheVariants.{Whole, Stored, Held, Taken as Late}
use Rattle.taking.specs.Answer.{Taken}
use Rattle.taking.specs.declared.Taken.{Taken as Message}
use Rattle.arrival.specs.Arriving.{Arrived, whole, stored, again, late, refused, arrived_in, store_with}
use Rattle.taking.specs.Taking.{took_in, store_less, out_with}
use Rattle.join.specs.Answer.{Joined}
use Rattle.join.specs.declared.Joined.{Joined as Body}
use Rattle.join.specs.declared.Joined.TheVariants.{Packet, Message as InOutput}
use Rattle.join.specs.Joining.{Joining, in_packet, unjoined, body_from, took_as}
use Rattle.join.specs.Told.{taken, joined_of}

-- the body that reading tells of
abbrev pub body_in : Header → Joined
body_in h = joined_of (in_packet h.body.at h.body.length)

-- a message that was taken, or taking's refusal
unfoldable pub taken_as : Taken → Joined
taken_as t = pick (eqb t.refusal.number 0) (taken t) (joined_of (unjoined t.refusal))

-- as the code has them: the body that reading tells of, and the message that was taken
abbrev pub body_read : Result Decoded Refused → Result Body Refused
body_read (Ok h) = Ok (Packet h.body.at h.body.length)
body_read (Err r) = Err r

abbrev pub output_taken : Result Message Refused → Result Body Refused
output_taken (Ok t) = Ok (InOutput (2 + t.header) t)
output_taken (Err r) = Err r

-- the arrival is one of a message that was taken
abbrev pub is_late : Arrived → Bool
is_late whole = false
is_late (stored i) = false
is_late again = false
is_late late = true
is_late (refused r) = false

-- as it is answered
abbrev pub late_as : Kind → Bool
late_as Whole = false
late_as Stored = false
late_as Held = false
late_as Late = true

-- ---- joining at the first n cells of any octets: `joining` without the tests of settings and order

-- by what the arrival comes to
abbrev pub joined_in_by : Settings → ℕ → List ℕ → ℕ → List ℕ → ℕ → Arrived → Joining
joined_in_by s Z st n p long whole = in_packet (body_from s p) (length p - body_from s p)
joined_in_by s Z st n p long (stored i) = took_as (took_in s Z (store_with Z st p (stored i)) n long)
joined_in_by s Z st n p long again = took_as (took_in s Z (store_with Z st p again) n long)
joined_in_by s Z st n p long late = took_as (took_in s Z (store_with Z st p late) n long)
joined_in_by s Z st n p long (refused r) = unjoined r

abbrev pub less_taken_in : Settings → ℕ → List ℕ → ℕ → ℕ → List ℕ
less_taken_in s Z x n long = store_less s Z x n (took_in s Z x n long)

abbrev pub store_in_by : Settings → ℕ → List ℕ → ℕ → List ℕ → ℕ → Arrived → List ℕ
store_in_by s Z st n p long whole = store_with Z st p whole
store_in_by s Z st n p long (stored i) = less_taken_in s Z (store_with Z st p (stored i)) n long
store_in_by s Z st n p long again = less_taken_in s Z (store_with Z st p again) n long
store_in_by s Z st n p long late = less_taken_in s Z (store_with Z st p late) n long
store_in_by s Z st n p long (refused r) = store_with Z st p (refused r)

abbrev pub out_in_by : Settings → ℕ → List ℕ → ℕ → List ℕ → List ℕ → Arrived → List ℕ
out_in_by s Z st n p out whole = out
out_in_by s Z st n p out (stored i) = out_with out (took_in s Z (store_with Z st p (stored i)) n (length out))
out_in_by s Z st n p out again = out_with out (took_in s Z (store_with Z st p again) n (length out))
out_in_by s Z st n p out late = out_with out (took_in s Z (store_with Z st p late) n (length out))
out_in_by s Z st n p out (refused r) = out

-- what it comes to, the store and the output after it
unfoldable pub joining_in : Settings → ℕ → List ℕ → ℕ → List ℕ → ℕ → Joining
joining_in s Z st n p long = joined_in_by s Z st n p long (arrived_in s Z st n p)

unfoldable pub store_joined_in : Settings → ℕ → List ℕ → ℕ → List ℕ → ℕ → List ℕ
store_joined_in s Z st n p long = store_in_by s Z st n p long (arrived_in s Z st n p)

unfoldable pub out_joined_in : Settings → ℕ → List ℕ → ℕ → List ℕ → List ℕ → List ℕ
out_joined_in s Z st n p out = out_in_by s Z st n p out (arrived_in s Z st n p)
