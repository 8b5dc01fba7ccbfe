-- Each message of a recording exactly once: if at 32 cells, records counted, there is room for its packets, so that no record is forgotten.
-- Assumes nothing: these are definitions.
use Rattle.std.specs.Prelude.{◌≡◌, false, ℕ, ◌≤◌, length}
use mathlib.Core.List.{List, ◌∷◌, ◌++◌, Memᴰ}
use Rattle.octets.specs.Octets.{Octets}
use Rattle.walk.specs.declared.Settings.{Settings}
use Rattle.packet.specs.Format.{SettingsInRange}
use Rattle.cells.specs.Order.{cell_size}
use Rattle.join.specs.Joining.{joining}
use Rattle.steps.specs.Stepping.{room, is_full}
use Rattle.recording.specs.Recording.{cell_count}
use Rattle.demand3.specs.Sendings.{Sending}
use Rattle.tiles.specs.Along.{packets_of, store_along, Frame, frames_of}
use Rattle.tiles.specs.Written.{AllIn, RecordingOf, frame_of}

-- no packet of the recording is refused by 19, and so no record is forgotten for one
abbrev pub NoneFull : Settings → List ℕ → Type 0
NoneFull s x = (before after : List (List ℕ)) (p : List ℕ) → packets_of x ≡ before ++ p ∷ after →
    is_full (joining s cell_size (store_along s before) p room) ≡ false

-- the message's frame is among the frames of the recording, and not twice
pub record WrittenOnce (s : Settings) (m : Sending) (x : List ℕ) : Type 0 where
  pub earlier : List Frame
  pub later : List Frame
  pub place : frames_of s x ≡ earlier ++ frame_of s m ∷ later
  pub not_before : Memᴰ (frame_of s m) earlier → ⊥
  pub not_after : Memᴰ (frame_of s m) later → ⊥

-- every message all of whose segments are in the recording is written exactly once
abbrev pub RecordingOnce : Type 0
RecordingOnce = (s : Settings) → SettingsInRange s → (ms : List Sending) (x : List ℕ) → RecordingOf s ms x → NoneFull s x →
    (m : Sending) → Memᴰ m ms → AllIn s m x → WrittenOnce s m x

-- for a recording of at most 32 packets that is so
abbrev pub RecordingFew : Type 0
RecordingFew = (s : Settings) → SettingsInRange s → (x : List ℕ) → Octets x → length (packets_of x) ≤ cell_count → NoneFull s x
