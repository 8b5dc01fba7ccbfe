-- What a recording of messages comes to: the messages are in it as demand 3 has them, and are in what is written.
-- Assumes nothing: these are definitions.
use Rattle.std.specs.Prelude.{ℕ, ◌+◌, ◌≤◌, ◌<◌, ◌≡◌, ◌≢◌, ◌⊎◌, ◌↔◌, true, false, length}
use Rattle.std.proofs.Math.Option.{none}
use mathlib.Core.List.{List, ◌∷◌, ◌++◌, map, Memᴰ}
use Rattle.octets.specs.Octets.{Octets}
use Rattle.octets.specs.Laying.{together}
use Rattle.walk.specs.declared.Settings.{Settings}
use Rattle.packet.specs.Format.{SettingsInRange}
use Rattle.packet.specs.Reading.{read_packet, segmented}
use Rattle.cells.specs.Segments.{seg_of}
use Rattle.cells.specs.Rows.{Cell}
use Rattle.cells.specs.Order.{cell_size, untaken_to}
use Rattle.cells.specs.Messages.{look}
use Rattle.demand3.specs.Cells.{has_free}
use Rattle.demand3.specs.Sendings.{Sending, ReadsAs, whole_body, many_of, segment_at, identification_of, header_of, key_in, start_of, IsCut}
use Rattle.demand3.specs.Presupposed.{MayCome, cells_in}
use Rattle.steps.specs.Stepping.{found_in, longest, roomed, framed}
use Rattle.recording.specs.Recording.{cell_count, recorded}
use Rattle.recording.specs.Ending.{past}
use Rattle.tiles.specs.Along.{packets_of, marked, Sized, store_along, Frame, whole_packet, joined, frame_octets, frames_of}

-- ---- a recording of messages

-- all segments of a message are in a recording: of each, a packet that reads as it, whatever its sequence count
abbrev pub AllIn : Settings → Sending → List ℕ → Type 0
AllIn s m x = (i : ℕ) → i < many_of s m → (p : List ℕ) × Memᴰ p (packets_of x) × ReadsAs s p (segment_at s m i)

-- x is a recording of the messages ms, under the settings
pub record RecordingOf (s : Settings) (ms : List Sending) (x : List ℕ) : Type 0 where
  -- the recording is octets, as its type says
  pub octets : Octets x
  -- a message has two or more segments; each is a packet of the format, its values in range, and has at most 1,022 octets
  pub cut : (m : Sending) → Memᴰ m ms → IsCut s cell_size m
  -- any two messages differ in key, or no segment of one has the counter of a segment of the other
  pub apart : (m w : Sending) → Memᴰ m ms → Memᴰ w ms →
      (m ≡ w) ⊎ (key_in s m ≢ key_in s w) ⊎
      ((i j : ℕ) → i < many_of s m → j < many_of s w → (segment_at s m i).counter ≢ (segment_at s w j).counter)
  -- a packet is a segment of a message, in any order and any number of times; or unsegmented; or refused by reading; or too long for a
  -- cell, as all above 32,768 octets are; or of a key that no message has
  pub packets : (p : List ℕ) → Memᴰ p (packets_of x) → MayCome s cell_size ms p

-- the packets of a recording are those that were laid into it, each after its mark, up to a rest with which it stops
abbrev pub RecordingPackets : Type 0
RecordingPackets = (ps : List (List ℕ)) (rest : List ℕ) → ((p : List ℕ) → Memᴰ p ps → Sized p) → past (found_in rest) ≡ 0 →
    packets_of (marked ps ++ rest) ≡ ps

-- the store of 32 cells that a packet is joined to, after those before it: the store along them, without the record in the lowest cell if
-- there was no room for the packet; and its cells
abbrev pub store_for : Settings → List (List ℕ) → List ℕ → List ℕ
store_for s ps p = roomed s cell_size (store_along s ps) p

abbrev pub cells_for : Settings → List (List ℕ) → List ℕ → List Cell
cells_for s ps p = cells_in s cell_size cell_count (store_for s ps p)

-- if a packet comes that is a segment, fits a cell, and has a key and counter that no record has in its range and no cell has, one of the
-- 32 cells is free, or one has a record, which is forgotten for it
abbrev pub RoomAlong : Settings → List ℕ → Type 0
RoomAlong s x = (before after : List (List ℕ)) (p : List ℕ) → packets_of x ≡ before ++ p ∷ after →
    (read_packet s p).refusal.number ≡ 0 → segmented p ≡ true → 2 + length p ≤ cell_size →
    untaken_to s cell_size (store_for s before p) cell_count (seg_of p (read_packet s p)).key (seg_of p (read_packet s p)).counter ≡ true →
    look (cells_for s before p) (seg_of p (read_packet s p)).key (seg_of p (read_packet s p)).counter ≡ none →
    has_free (cells_for s before p) ≡ true

-- a recording of at most 32 packets always has room
abbrev pub RecordingRoom : Type 0
RecordingRoom = (s : Settings) → SettingsInRange s → (x : List ℕ) → Octets x → length (packets_of x) ≤ cell_count → RoomAlong s x

-- ---- what is written

-- a message's own frame: 4D 4D, the length, then its identification, header and body
abbrev pub frame_of : Settings → Sending → Frame
frame_of s m = joined (key_in s m) (start_of s m) (whole_body m)

-- some octets stand in others, in one piece
abbrev pub Stands : List ℕ → List ℕ → Type 0
Stands w y = (before : List ℕ) × (after : List ℕ) × (y ≡ before ++ (w ++ after))

-- what is written is its frames, one after the other, and nothing else; whatever the recording
abbrev pub RecordingFrames : Type 0
RecordingFrames = (s : Settings) (x : List ℕ) → recorded s x ≡ together (map frame_octets (frames_of s x))

-- every message all of whose segments are in the recording is written, whole, at least once. Two messages with the same key and body
-- have two frames: their first counters differ
abbrev pub RecordingDelivers : Type 0
RecordingDelivers = (s : Settings) → SettingsInRange s → (ms : List Sending) (x : List ℕ) → RecordingOf s ms x → RoomAlong s x →
    (m : Sending) → Memᴰ m ms → AllIn s m x → Memᴰ (frame_of s m) (frames_of s x)

-- the same of the octets: somewhere in what is written stand 4D 4D, the length, then identification, header and body
abbrev pub RecordingHas : Type 0
RecordingHas = (s : Settings) → SettingsInRange s → (ms : List Sending) (x : List ℕ) → RecordingOf s ms x → RoomAlong s x →
    (m : Sending) → Memᴰ m ms → AllIn s m x → Stands (framed (identification_of s m ++ header_of s m ++ whole_body m)) (recorded s x)

-- whatever is joined and written under a message's key is one of the messages of that key, whole, and all its segments are in the
-- recording; with room or without
abbrev pub RecordingGenuine : Type 0
RecordingGenuine = (s : Settings) → SettingsInRange s → (ms : List Sending) (x : List ℕ) → RecordingOf s ms x → (k : List ℕ) (c : ℕ) (b : List ℕ) →
    Memᴰ (joined k c b) (frames_of s x) → (m : Sending) → Memᴰ m ms → k ≡ key_in s m →
    (w : Sending) × Memᴰ w ms × (joined k c b ≡ frame_of s w) × AllIn s w x

-- the other frames are just those of the unsegmented packets that reading accepts, of at most 32,768 octets; whatever the recording
abbrev pub RecordingWhole : Type 0
RecordingWhole = (s : Settings) → SettingsInRange s → (x : List ℕ) → Octets x → (p : List ℕ) → Memᴰ (whole_packet p) (frames_of s x) ↔
    (Memᴰ p (packets_of x) × (length p ≤ longest) × ((read_packet s p).refusal.number ≡ 0) × (segmented p ≡ false))
