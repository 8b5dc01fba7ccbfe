-- A recording, packet by packet: its packets, the store along them, and what is written as a list of frames.
-- Assumes nothing: these are definitions.
use Rattle.std.specs.Prelude.{ℕ, zero, suc, ◌+◌, ◌≡◌, List, [], ◌∷◌, ◌++◌, length, drop}
use Rattle.octets.specs.Octets.{number}
use Rattle.walk.specs.declared.Settings.{Settings}
use Rattle.cells.specs.Order.{cell_size}
use Rattle.cells.specs.Messages.{body_of}
use Rattle.packet.specs.Mark.{packet_mark}
use Rattle.steps.specs.Stepping.{Found, nothing, other, cut, whole, found_in, store_after, framed, without}
use Rattle.steps.specs.Stepping.{Came, over, refused, kept, late, wholly, message, came_of}
use Rattle.recording.specs.Recording.{empty_store}
use Rattle.recording.specs.Ending.{past}

-- ---- its packets

-- a packet before others; at anything else the recording stops
abbrev pub in_front : Found → List (List ℕ) → List (List ℕ)
in_front nothing ps = []
in_front other ps = []
in_front cut ps = []
in_front (whole p) ps = p ∷ ps

-- the packets in x, each after its mark, up to where no whole mark and packet follow: f at the most
unfoldable pub packets_from : ℕ → List ℕ → List (List ℕ)
packets_from zero x = []
packets_from (suc f) x =
    let r = packets_from f (drop (past (found_in x)) x) in
    in_front (found_in x) r

-- no more packets than octets
abbrev pub packets_of : List ℕ → List (List ℕ)
packets_of x = packets_from (length x) x

-- the other way: packets, each after its mark, as they stand in a recording
unfoldable pub marked : List (List ℕ) → List ℕ
marked [] = []
marked (p ∷ ps) = packet_mark ++ (p ++ marked ps)

-- a packet is as long as its length field says
abbrev pub Sized : List ℕ → Type 0
Sized p = length p ≡ number 2 p 4 + 7

-- ---- the store

-- after some packets; one above 32,768 octets is passed over, any other is joined, and if there is no room for it the record in the lowest
-- cell is forgotten first
unfoldable pub store_from : Settings → List ℕ → List (List ℕ) → List ℕ
store_from s st [] = st
store_from s st (p ∷ ps) = store_from s (store_after s cell_size st p) ps

-- from the empty store on
abbrev pub store_along : Settings → List (List ℕ) → List ℕ
store_along s ps = store_from s empty_store ps

-- ---- what is written

-- of a packet that came whole; or of a message that was joined, by its key, the counter of its first, and its body
pub data Frame : Type 0 where
  whole_packet : List ℕ → Frame
  joined : List ℕ → ℕ → List ℕ → Frame

-- 4D 4D and a length of four octets, and identification, header and body. A key is identification and header; the counter is not written
abbrev pub frame_octets : Frame → List ℕ
frame_octets (whole_packet p) = framed (without p)
frame_octets (joined k c b) = framed (k ++ b)

-- by what a packet comes to: one frame, or none
abbrev pub frames_by : List ℕ → Came → List Frame
frames_by p over = []
frames_by p (refused k) = []
frames_by p kept = []
frames_by p late = []
frames_by p wholly = whole_packet p ∷ []
frames_by p (message r) = joined r.head.key r.head.counter (body_of r) ∷ []

unfoldable pub frames_from : Settings → List ℕ → List (List ℕ) → List Frame
frames_from s st [] = []
frames_from s st (p ∷ ps) =
    let r = frames_from s (store_after s cell_size st p) ps in
    frames_by p (came_of s cell_size st p) ++ r

-- the frames of a recording, in order
abbrev pub frames_of : Settings → List ℕ → List Frame
frames_of s x = frames_from s empty_store (packets_of x)
