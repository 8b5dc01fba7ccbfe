-- A step along a recording.
-- SPEC G-1, G-3 to G-6, G-19: packets after their marks; those that are refused or too long are passed over; it stops where none is whole;
-- each message goes out after a mark and its length.
-- Assumes nothing: these are definitions.
use Rattle.std.specs.Prelude.{ℕ, ◌+◌, Bool, false, List, [], ◌∷◌, ◌++◌, length, take, drop, leb, eqb}
use Rattle.octets.specs.Octets.{pick, alike, wide}
use Rattle.walk.specs.declared.Settings.{Settings}
use Rattle.walk.specs.declared.Refusal.{Refusal}
use Rattle.packet.specs.Mark.{packet_mark}
use Rattle.cells.specs.Rows.{size_in, packet_in}
use Rattle.cells.specs.Messages.{Run}
use Rattle.taking.specs.Taking.{writing}
use Rattle.cells.specs.Order.{count_in}
use Rattle.arrival.specs.Arriving.{arrived}
use Rattle.taking.specs.Forgetting.{lowest_record, store_forgotten}
use Rattle.join.specs.Joining.{Joining, in_packet, in_output, unjoined, joining, store_joined}
use Rattle.join.specs.Inner.{is_late}

-- ---- what stands at a place

-- SPEC G-1. What stands where a recording, or a part of one, begins: no octet; other octets than the mark; a mark and a packet that are not
-- whole; or a packet after its mark
pub data Found : Type 0 where
  nothing : Found
  other : Found
  cut : Found
  whole : List ℕ → Found

-- as much of the mark as there are octets
abbrev pub begins : List ℕ → Bool
begins x = alike (take 2 x) (take (length x) packet_mark)

-- SPEC G-3: a packet has at least 7 octets, so without its length field it is not whole
unfoldable pub found_in : List ℕ → Found
found_in x =
    pick (eqb (length x) 0) nothing
    (pick (begins x) (pick (leb (2 + size_in x) (length x)) (whole (packet_in x)) cut) other)

-- ---- what a packet comes to

-- SPEC N-12: the packet without its mark
abbrev pub longest : ℕ
longest = 32768

-- the output that is lent to joining
abbrev pub room : ℕ
room = 65536

-- SPEC G-19: a packet that is refused by 19, since every cell is in use, is joined once more, after the record in the lowest cell that
-- has one is forgotten. A cell is free then, so it is not refused by 19 again: to forget one is enough
abbrev pub is_full : Joining → Bool
is_full (in_packet place long) = false
is_full (in_output r) = false
is_full (unjoined r) = eqb r.number 19

-- a store without the record in the lowest cell that has one
abbrev pub unrecorded : Settings → ℕ → List ℕ → List ℕ
unrecorded s Z st = store_forgotten s Z st (lowest_record s Z st (count_in Z st))

-- the store that a packet is joined to in the end
unfoldable pub roomed : Settings → ℕ → List ℕ → List ℕ → List ℕ
roomed s Z st p = pick (is_full (joining s Z st p room)) (unrecorded s Z st) st

pub data Came : Type 0 where
  over : Came
  refused : Refusal → Came
  kept : Came
  late : Came
  wholly : Came
  message : Run → Came

-- nothing complete (20) refuses no packet: its segment is stored, held already, or of a message that was taken
abbrev pub came_by : Bool → Joining → Came
came_by l (in_packet place long) = wholly
came_by l (in_output r) = message r
came_by l (unjoined r) = pick (eqb r.number 20) (pick l late kept) (refused r)

-- a packet joined to this store
unfoldable pub came_at : Settings → ℕ → List ℕ → List ℕ → Came
came_at s Z st p = came_by (is_late (arrived s Z st p)) (joining s Z st p room)

unfoldable pub came_of : Settings → ℕ → List ℕ → List ℕ → Came
came_of s Z st p = pick (leb (length p) longest) (came_at s Z (roomed s Z st p) p) over

-- the store after it
unfoldable pub store_after : Settings → ℕ → List ℕ → List ℕ → List ℕ
store_after s Z st p = pick (leb (length p) longest) (store_joined s Z (roomed s Z st p) p room) st

-- ---- what is written

-- SPEC G-5: mark, length, message
unfoldable pub framed : List ℕ → List ℕ
framed m = 0x4d ∷ 0x4d ∷ (wide 4 (length m) ++ m)

-- a whole packet likewise: its identification, header and body, that is, without its octets 2 to 5
abbrev pub without : List ℕ → List ℕ
without p = take 2 p ++ drop 6 p

abbrev pub wrote : List ℕ → Came → List ℕ
wrote p over = []
wrote p (refused r) = []
wrote p kept = []
wrote p late = []
wrote p wholly = framed (without p)
wrote p (message r) = framed (writing r)

-- ---- a step along a recording

-- more octets are wanted; the recording ends; no mark follows; a torn mark or packet follows; a packet, and what it comes to
pub data Stepped : Type 0 where
  wanting : Stepped
  ended : Stepped
  unmarked : Stepped
  torn : Stepped
  came : List ℕ → Came → Stepped

module _ (s : Settings) (Z : ℕ) (st : List ℕ) where
  -- by what stands there, and whether the recording ends with the octets in hand
  abbrev pub step_by : Bool → Found → Stepped
  step_by e nothing = pick e ended wanting
  step_by e other = unmarked
  step_by e cut = pick e torn wanting
  step_by e (whole p) = came p (came_of s Z st p)

  unfoldable pub stepped : List ℕ → Bool → Stepped
  stepped x e = step_by e (found_in x)

  abbrev pub store_behind : Stepped → List ℕ
  store_behind wanting = st
  store_behind ended = st
  store_behind unmarked = st
  store_behind torn = st
  store_behind (came p c) = store_after s Z st p

-- the octets that a step uses up
abbrev pub used_by : Stepped → ℕ
used_by wanting = 0
used_by ended = 0
used_by unmarked = 0
used_by torn = 0
used_by (came p c) = 2 + length p

abbrev pub written_by : Stepped → List ℕ
written_by wanting = []
written_by ended = []
written_by unmarked = []
written_by torn = []
written_by (came p c) = wrote p c
