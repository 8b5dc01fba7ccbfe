-- What a recording comes to is its frames, one after the other; and each frame is of one of its packets, at the store along those before.
-- Assumes nothing.
use Prim.Native.Nat.{ℕ, zero, suc}
use mathlib.Core.Path.{◌≡◌, refl, ap, sym, ◌∙◌, subst}
use mathlib.Core.Logic.{◌⊎◌, inl, inr}
use mathlib.Core.Bool.{true}
use mathlib.Core.List.Memᴰ
use mathlib.Core.List.{List, [], ◌∷◌, ◌++◌, map, append_assoc, Memᴰ}
use native.Mathlib.Omega.{arith}
use lib.ListN.{length, drop}
use Rattle.octets.specs.Octets.{Octets}
use Rattle.octets.specs.Laying.{together}
use Rattle.octets.proofs.Has.{octets_drop, octets_part}
use Rattle.walk.specs.declared.Settings.{Settings}
use Rattle.cells.specs.Rows.{size_in}
use Rattle.cells.specs.Order.{cell_size}
use Rattle.steps.specs.Stepping.{Found, nothing, other, cut, whole, found_in, Came, over, refused, kept, late, wholly, message}
use Rattle.steps.specs.Stepping.{came_of, store_after, wrote, step_by, stepped, store_behind, used_by, written_by}
use Rattle.steps.proofs.Showing.{whole_tells}
use Rattle.recording.specs.Recording.{empty_store, recorded_from, recorded}
use Rattle.recording.specs.Ending.{past}
use Rattle.tiles.specs.Along.{in_front, packets_from, store_from, Frame, frame_octets, frames_by, frames_from, frames_of}
use Rattle.tiles.specs.Written.{Stands, RecordingFrames}

abbrev pub Z : ℕ
Z = cell_size

abbrev octets_of : List Frame → List ℕ
octets_of l = together (map frame_octets l)

-- ---- what is written

-- if it stops, there are no more packets
pub stop_none : (f : ℕ) (x : List ℕ) (d : Found) → found_in x ≡ d → past d ≡ 0 → packets_from f x ≡ []
unfolding packets_from
stop_none zero x d e h = refl
stop_none (suc f) x d e h = ap (λ (k : Found). in_front k (packets_from f (drop (past k) x))) e ∙ by d h
  where
    by : (k : Found) → past k ≡ 0 → in_front k (packets_from f (drop (past k) x)) ≡ []
    by nothing z = refl
    by other z = refl
    by cut z = refl
    by (whole p) z = absurd (omega arith)

-- what a packet writes is its frame's
came_frames : (p : List ℕ) (c : Came) (l : List Frame) → wrote p c ++ octets_of l ≡ octets_of (frames_by p c ++ l)
unfolding together
came_frames p over l = refl
came_frames p (refused k) l = refl
came_frames p kept l = refl
came_frames p late l = refl
came_frames p wholly l = refl
came_frames p (message r) l = refl

frames_from_lem : (s : Settings) (f : ℕ) (st x : List ℕ) → recorded_from s Z f st x ≡ octets_of (frames_from s st (packets_from f x))
unfolding recorded_from packets_from frames_from stepped together
frames_from_lem s zero st x = refl
frames_from_lem s (suc f) st x = go (frames_from_lem s f) (found_in x) refl
  where
    stops : ((sx y : List ℕ) → recorded_from s Z f sx y ≡ octets_of (frames_from s sx (packets_from f y))) → (d : Found) → found_in x ≡ d → past d ≡ 0 →
        recorded_from s Z f st x ≡ []
    stops ih d e h = ih st x ∙ ap (λ (l : List (List ℕ)). octets_of (frames_from s st l)) (stop_none f x d e h)

    go : ((sx y : List ℕ) → recorded_from s Z f sx y ≡ octets_of (frames_from s sx (packets_from f y))) → (d : Found) → found_in x ≡ d →
        written_by (step_by s Z st true d) ++
        recorded_from s Z f (store_behind s Z st (step_by s Z st true d)) (drop (used_by (step_by s Z st true d)) x)
        ≡ octets_of (frames_from s st (in_front d (packets_from f (drop (past d) x))))
    go ih nothing e = stops ih nothing e refl
    go ih other e = stops ih other e refl
    go ih cut e = stops ih cut e refl
    go ih (whole p) e =
        ap (λ (l : List ℕ). wrote p (came_of s Z st p) ++ l) (ih (store_after s Z st p) (drop (past (whole p)) x))
        ∙ came_frames p (came_of s Z st p) (frames_from s (store_after s Z st p) (packets_from f (drop (past (whole p)) x)))

pub recording_frames : RecordingFrames
unfolding recorded
recording_frames s x = frames_from_lem s (length x) empty_store x

-- ---- its packets are octets

whole_octets : (x p : List ℕ) → found_in x ≡ whole p → Octets x → Octets p
whole_octets x p e o = subst Octets (sym (whole_tells x p e).1.1) (octets_part x 2 (size_in x) o)

pub packets_octets : (f : ℕ) (x : List ℕ) → Octets x → (p : List ℕ) → Memᴰ p (packets_from f x) → Octets p
unfolding packets_from
packets_octets zero x o p h = absurd (Memᴰ.not-nil h)
packets_octets (suc f) x o p h = go (found_in x) refl (packets_octets f (drop (past (found_in x)) x) (octets_drop (past (found_in x)) x o) p) h
  where
    go : (d : Found) → found_in x ≡ d → (Memᴰ p (packets_from f (drop (past (found_in x)) x)) → Octets p) →
        Memᴰ p (in_front d (packets_from f (drop (past (found_in x)) x))) → Octets p
    go nothing e ih k = absurd (Memᴰ.not-nil k)
    go other e ih k = absurd (Memᴰ.not-nil k)
    go cut e ih k = absurd (Memᴰ.not-nil k)
    go (whole q) e ih k = by (Memᴰ.cases_cons k)
      where
        by : (p ≡ q) ⊎ Memᴰ p (packets_from f (drop (past (found_in x)) x)) → Octets p
        by (inl d) = subst Octets (sym d) (whole_octets x q e o)
        by (inr d) = ih d

-- ---- the frames, one by one

-- the packet that a frame is of
pub record Framed (s : Settings) (st : List ℕ) (ps : List (List ℕ)) (w : Frame) : Type 0 where
  pub before : List (List ℕ)
  pub packet : List ℕ
  pub after : List (List ℕ)
  pub place : ps ≡ before ++ packet ∷ after
  pub its : Memᴰ w (frames_by packet (came_of s Z (store_from s st before) packet))

pub frame_at : (s : Settings) (ps : List (List ℕ)) (st : List ℕ) (w : Frame) → Memᴰ w (frames_from s st ps) → Framed s st ps w
unfolding frames_from store_from
frame_at s [] st w h = absurd (Memᴰ.not-nil h)
frame_at s (p ∷ ps) st w h = go (frame_at s ps (store_after s Z st p) w) (Memᴰ.append_cases (frames_by p (came_of s Z st p)) h)
  where
    go : (Memᴰ w (frames_from s (store_after s Z st p) ps) → Framed s (store_after s Z st p) ps w) →
        Memᴰ w (frames_by p (came_of s Z st p)) ⊎ Memᴰ w (frames_from s (store_after s Z st p) ps) → Framed s st (p ∷ ps) w
    go ih (inl k) = record { before = []; packet = p; after = ps; place = refl; its = k }
    go ih (inr k) =
        let v = ih k in
        record { before = p ∷ v.before; packet = v.packet; after = v.after; place = ap (λ (l : List (List ℕ)). p ∷ l) v.place; its = v.its }

pub at_frame : (s : Settings) (before : List (List ℕ)) (p : List ℕ) (after : List (List ℕ)) (st : List ℕ) (w : Frame) →
    Memᴰ w (frames_by p (came_of s Z (store_from s st before) p)) → Memᴰ w (frames_from s st (before ++ p ∷ after))
unfolding frames_from store_from
at_frame s [] p after st w h = Memᴰ.append_left (frames_from s (store_after s Z st p) after) h
at_frame s (q ∷ before) p after st w h =
    Memᴰ.append_right (frames_by q (came_of s Z st q)) (at_frame s before p after (store_after s Z st q) w h)

-- a frame's octets stand in what is written
stands_in : (l : List Frame) (w : Frame) → Memᴰ w l → Stands (frame_octets w) (octets_of l)
unfolding together
stands_in [] w h = absurd (Memᴰ.not-nil h)
stands_in (v ∷ l) w h = go (stands_in l w) (Memᴰ.cases_cons h)
  where
    go : (Memᴰ w l → Stands (frame_octets w) (octets_of l)) → (w ≡ v) ⊎ Memᴰ w l → Stands (frame_octets w) (frame_octets v ++ octets_of l)
    go ih (inl e) = ([], octets_of l, ap (λ (y : Frame). frame_octets y ++ octets_of l) (sym e))
    go ih (inr k) =
        let a = ih k in (
          frame_octets v ++ a.0,
          a.1,
          ap (λ (y : List ℕ). frame_octets v ++ y) a.2 ∙ sym (append_assoc (frame_octets v) a.0 (frame_octets w ++ a.1)),
        )

pub frame_stands : (s : Settings) (x : List ℕ) (w : Frame) → Memᴰ w (frames_of s x) → Stands (frame_octets w) (recorded s x)
frame_stands s x w h = let a = stands_in (frames_of s x) w h in (a.0, a.1, recording_frames s x ∙ a.2)
