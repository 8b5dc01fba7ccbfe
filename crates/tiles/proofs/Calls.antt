-- Over the contract of the call on a whole recording: if it is not refused, the octets that it tells as written are what the recording
-- comes to, and so have every message all of whose segments are in it, and exactly once if no packet is refused by 19.
-- Assumes nothing.
use Prim.Native.Nat.{ℕ, ◌+◌}
use mathlib.Core.Path.{◌≡◌, refl, ap, sym, ◌∙◌}
use mathlib.Core.Logic.{⊎_elim}
use mathlib.Core.Bool.{false}
use mathlib.Core.List.{List, ◌++◌, map, Memᴰ}
use native.Mathlib.Omega.{arith}
use contract.Lifetimes as L
use lib.ListN.{length, take, drop}
use lib.Seq.{sets, sets-eq, take-append_seam}
use lib.Dec.{eqb}
use borrow.Author.Tests.{eqb-true, eq-eqb}
use Rattle.octets.specs.Octets.{Octets}
use Rattle.octets.specs.Laying.{together}
use Rattle.octets.proofs.Lists.{bool}
use Rattle.walk.specs.declared.Settings.{Settings}
use Rattle.walk.specs.Walk.{begun}
use Rattle.packet.specs.Format.{SettingsInRange}
use Rattle.format.proofs.Start.{begun_only}
use Rattle.demand3.specs.Sendings.{Sending, identification_of, header_of, whole_body}
use Rattle.steps.specs.Stepping.{framed}
use Rattle.recording.specs.Answer.{Recorded, answered}
use Rattle.recording.specs.Recording.{recorded}
use Rattle.recording.specs.Ending.{refused_by, recorded_of, out_recorded}
use Rattle.recording.proofs.Shorter.{recorded_most}
use Rattle.recording.proofs.Tested.{passed}
use Rattle.recording.proofs.Arguments.{all_call, all_output}
use Rattle.recording.proofs.join_all.Reads as alls
use Rattle.tiles.specs.Along.{frame_octets, frames_of}
use Rattle.tiles.specs.Written.{AllIn, RecordingOf, RoomAlong, Stands}
use Rattle.tiles.specs.Once.{NoneFull, WrittenOnce}
use Rattle.tiles.proofs.Framing.{recording_frames}
use Rattle.tiles.proofs.Recordings.{recording_has}
use Rattle.tiles.proofs.Once.{recording_once}

module _ (s : Settings) (x out : List ℕ) (o : Octets x) where
  abbrev by : ℕ
  by = refused_by s (length x) (length out)

  told_yes : by ≡ 0 → (recorded_of s (length out) x).written ≡ length (recorded s x)
  unfolding recorded_of
  told_yes f = rw f refl

  output_yes : by ≡ 0 → out_recorded s out x ≡ sets out 0 (recorded s x)
  unfolding out_recorded
  output_yes f = rw f refl

  told_no : eqb by 0 ≡ false → (recorded_of s (length out) x).refusal.number ≡ by
  unfolding recorded_of
  told_no f = rw f refl

  pub not_refused : (recorded_of s (length out) x).refusal.number ≡ 0 → by ≡ 0
  not_refused e = ⊎_elim (λ f. eqb-true by 0 f) (λ f. sym (told_no f) ∙ e) (bool (eqb by 0))

  written_is : (recorded_of s (length out) x).refusal.number ≡ 0 → take (recorded_of s (length out) x).written (out_recorded s out x) ≡ recorded s x
  written_is e =
      let f = not_refused e in
      let l = (passed s (length x) (length out) f).1 in
      let m = recorded_most s x o in
      ap (λ (n : ℕ). take n (out_recorded s out x)) (told_yes f)
      ∙ ap (take (length (recorded s x))) (output_yes f ∙ sets-eq (recorded s x) out 0 (omega arith))
      ∙ take-append_seam (recorded s x) (drop (0 + length (recorded s x)) out)

  -- if it is not refused the settings are in range
  in_range : (recorded_of s (length out) x).refusal.number ≡ 0 → SettingsInRange s
  in_range e = (begun_only s (eq-eqb (begun s).refused 0 (passed s (length x) (length out) (not_refused e)).0)).1

-- what it tells as written
pub all_writes :
    (κs : L.Lfts 2) (a : _) (r : _) (s : _) → alls.Post κs a r s → Octets (all_call κs a).recording → (answered r).refusal.number ≡ 0 →
    take (answered r).written (all_output κs s) ≡ recorded (all_call κs a).settings (all_call κs a).recording
all_writes κs a r s k o e =
    let c = all_call κs a in
    ap (λ (v : Recorded). take v.written (all_output κs s)) k.0
    ∙ ap (take (recorded_of c.settings (length c.output) c.recording).written) k.1
    ∙ written_is c.settings c.recording c.output o (ap (λ (v : Recorded). v.refusal.number) (sym k.0) ∙ e)

-- has every message all of whose segments are in the recording
pub all_delivers :
    (κs : L.Lfts 2) (a : _) (r : _) (s : _) → alls.Post κs a r s → (answered r).refusal.number ≡ 0 → (ms : List Sending) →
    RecordingOf (all_call κs a).settings ms (all_call κs a).recording → RoomAlong (all_call κs a).settings (all_call κs a).recording →
    (m : Sending) → Memᴰ m ms → AllIn (all_call κs a).settings m (all_call κs a).recording →
    Stands (framed (identification_of (all_call κs a).settings m ++ header_of (all_call κs a).settings m ++ whole_body m)) (take (answered r).written (all_output κs s))
all_delivers κs a r s k e ms g room m h all =
    let c = all_call κs a in
    let d = ap (λ (v : Recorded). v.refusal.number) (sym k.0) ∙ e in
    let v = recording_has c.settings (in_range c.settings c.recording c.output g.octets d) ms c.recording g room m h all in
    (v.0, v.1, all_writes κs a r s k g.octets e ∙ v.2)

-- if no packet is refused by 19, just the frames of the recording stand there, and each such message's is among them exactly once
pub all_once :
    (κs : L.Lfts 2) (a : _) (r : _) (s : _) → alls.Post κs a r s → (answered r).refusal.number ≡ 0 → (ms : List Sending) →
    RecordingOf (all_call κs a).settings ms (all_call κs a).recording → NoneFull (all_call κs a).settings (all_call κs a).recording →
    (m : Sending) → Memᴰ m ms → AllIn (all_call κs a).settings m (all_call κs a).recording →
    (take (answered r).written (all_output κs s) ≡ together (map frame_octets (frames_of (all_call κs a).settings (all_call κs a).recording))) ×
    WrittenOnce (all_call κs a).settings m (all_call κs a).recording
all_once κs a r s k e ms g never m h all =
    let c = all_call κs a in
    let d = ap (λ (v : Recorded). v.refusal.number) (sym k.0) ∙ e in
    let range = in_range c.settings c.recording c.output g.octets d in (
      all_writes κs a r s k g.octets e ∙ recording_frames c.settings c.recording,
      recording_once c.settings range ms c.recording g never m h all,
    )
