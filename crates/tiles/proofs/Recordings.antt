-- Every message all of whose segments are in a recording is written, and under a message's key nothing that is not a message: by demand
-- 3 over the joinings of the recording's packets, which leave nothing complete in the store.
-- Assumes nothing.
use Prim.Native.Nat.{ℕ, ◌<◌}
use mathlib.Core.Path.{◌≡◌, refl, ap, sym, ◌∙◌, subst}
use mathlib.Core.Logic.{◌≢◌, ◌⊎◌, inl, inr}
use mathlib.Core.Bool.{true}
use mathlib.Core.Option.{none, some}
use mathlib.Core.List.Memᴰ
use mathlib.Core.List.{List, [], ◌∷◌, ◌++◌, Memᴰ}
use native.Mathlib.Omega.{arith}
use lib.ListN.{length}
use borrow.Author.Tests.{le-leb}
use Rattle.octets.specs.Octets.{Octets}
use Rattle.walk.specs.declared.Settings.{Settings}
use Rattle.packet.specs.Format.{SettingsInRange}
use Rattle.packet.specs.Reading.{read_packet}
use Rattle.packet.specs.Numbers.{next_counter}
use Rattle.cells.specs.Segments.{seg_of}
use Rattle.cells.specs.Order.{cell_at, untaken_to}
use Rattle.cells.specs.Messages.{Run, body_of, look}
use Rattle.taking.specs.Taking.{message}
use Rattle.demand3.specs.Cells.{has_free}
use Rattle.steps.specs.Stepping.{longest, roomed, Came, over, refused, kept, late, wholly, message as message_of, came_of, store_after as store_after'}
use Rattle.recording.specs.Recording.{cell_count, empty_store}
use Rattle.demand3.specs.Calls.{Call, arrival, joining, forgetting, Brings, Handed, Plain, arrived_store, took_by, store_after}
use Rattle.sender.specs.Sending.{steps_of}
use Rattle.demand3.specs.Sendings.{Sending, ReadsAs, many_of, segment_at, key_in, start_of}
use Rattle.demand3.specs.Presupposed.{AllCame, Traffic, Room, Given, store_behind, cells_in, fresh, TakesIt, Untaken}
use Rattle.demand3.specs.Whole.{Delivers}
use Rattle.demand3.proofs.ReadAs.{own_fits}
use Rattle.demand3.proofs.Now.{handed_more, arrived_more}
use Rattle.demand3.proofs.Plain.{plain_both, plain_arrival}
use Rattle.demand3.proofs.Whole.{demand3·whole, genuine·whole}
use Rattle.demand3.proofs.JoinsAt.{none_is}
use Rattle.demand3.proofs.Joins.{joining_brings, only_joins·whole}
use Rattle.demand3.proofs.Holds.{held_came, Taken, taken_or}
use Rattle.tiles.specs.Along.{packets_of, store_from, store_along, Frame, whole_packet, joined, frames_by, frames_from, frames_of}
use Rattle.tiles.specs.Written.{AllIn, RecordingOf, store_for, RoomAlong, frame_of, RecordingDelivers, RecordingHas, RecordingGenuine}
use Rattle.tiles.proofs.Framing.{Z, packets_octets, Framed, frame_at, at_frame, frame_stands}
use Rattle.tiles.proofs.Joinings.{output, short, forgets_for, calls_from, calls_of, calls_to, to_store, CallAt, call_at, at_call, forgets_none, handed_in, in_handed}
use Rattle.tiles.proofs.Comes.{came_taken, taken_came, in_use_lem, one_octet, plain_calls, plain_to, calls_join}
use Rattle.tiles.proofs.Delivered.{run_counter, run_frame}

-- a frame of a message is what its packet came to
pub joined_came : (p : List ℕ) (y : Came) (k : List ℕ) (c : ℕ) (b : List ℕ) → Memᴰ (joined k c b) (frames_by p y) →
    (r : Run) × (y ≡ message_of r) × (joined k c b ≡ joined r.head.key r.head.counter (body_of r))
joined_came p over k c b h = absurd (Memᴰ.not-nil h)
joined_came p (refused n) k c b h = absurd (Memᴰ.not-nil h)
joined_came p kept k c b h = absurd (Memᴰ.not-nil h)
joined_came p late k c b h = absurd (Memᴰ.not-nil h)
joined_came p wholly k c b h = absurd (go (Memᴰ.cases_cons h))
  where
    go : (joined k c b ≡ whole_packet p) ⊎ Memᴰ (joined k c b) [] → ⊥
    go (inl e) = let z : ◌≡◌ {A = ℕ} 0 1 = cc e in omega arith
    go (inr e) = Memᴰ.not-nil e
joined_came p (message_of r) k c b h = (r, refl, go (Memᴰ.cases_cons h))
  where
    own : Frame
    own = joined r.head.key r.head.counter (body_of r)

    go : (joined k c b ≡ own) ⊎ Memᴰ (joined k c b) [] → joined k c b ≡ own
    go (inl e) = e
    go (inr e) = absurd (Memᴰ.not-nil e)

module _ (s : Settings) (range : SettingsInRange s) (ms : List Sending) (x : List ℕ) (g : RecordingOf s ms x) where
  abbrev ps : List (List ℕ)
  ps = packets_of x

  abbrev calls : List Call
  calls = calls_of s ps

  -- ---- what demand 3 presupposes

  octets_in : (p : List ℕ) → Memᴰ p ps → Octets p
  octets_in = packets_octets (length x) x g.octets

  plain : Plain calls
  plain = plain_calls s ps octets_in

  pub traffic : Traffic s Z ms calls
  traffic =
      record {
        cut = g.cut;
        apart = g.apart;
        octets = plain;
        packets = λ p h. g.packets p (handed_in s ps empty_store p h);
      }

  -- a segment of a message is short enough to be joined
  own_short : (m : Sending) → Memᴰ m ms → (i : ℕ) → i < many_of s m → (p : List ℕ) → Memᴰ p ps → ReadsAs s p (segment_at s m i) →
      short p ≡ true
  own_short m h i l p k r =
      let f = own_fits s Z m (g.cut m h) i l p (octets_in p k) r in
      le-leb (length p) longest (omega arith)

  all_came : (m : Sending) → Memᴰ m ms → AllIn s m x → AllCame s m calls
  all_came m h f i l = let a = f i l in (a.0, in_handed s ps empty_store a.0 a.1 (own_short m h i l a.0 a.1 a.2), a.2)

  room_of_lem : RoomAlong s x → Room s Z cell_count calls
  room_of_lem room u v c p e b ok seg fit out new = go (call_at s ps empty_store u c v e)
    where
      by : (a : CallAt s empty_store ps u c) → p ≡ a.packet → has_free (cells_in s Z cell_count (store_behind s Z cell_count u)) ≡ true
      by a same =
          let there : store_behind s Z cell_count u ≡ store_for s a.before p =
          ap (store_behind s Z cell_count) a.earlier ∙ to_store s a.before a.packet
          ∙ ap (roomed s Z (store_along s a.before)) (sym same) in
          let place : ps ≡ a.before ++ p ∷ a.after = a.place ∙ ap (λ (q : List ℕ). a.before ++ q ∷ a.after) (sym same) in
          ap (λ (st : List ℕ). has_free (cells_in s Z cell_count st)) there
          ∙ room a.before a.after p place ok seg fit
          (ap (λ (st : List ℕ). untaken_to s Z st cell_count (seg_of p (read_packet s p)).key (seg_of p (read_packet s p)).counter) (sym there) ∙ out)
          (ap (λ (st : List ℕ). look (cells_in s Z cell_count st) (seg_of p (read_packet s p)).key (seg_of p (read_packet s p)).counter) (sym there) ∙ new)

      no_packet : (i : ℕ) → c ≡ forgetting i → Brings p c → ⊥
      no_packet i d (inl f) = let k : forgetting i ≡ arrival p = sym d ∙ f in let z : ◌≡◌ {A = ℕ} 0 1 = cc k in omega arith
      no_packet i d (inr f) = let k : forgetting i ≡ joining p f.0 = sym d ∙ f.1 in let z : ◌≡◌ {A = ℕ} 0 1 = cc k in omega arith

      go : CallAt s empty_store ps u c ⊎ ((i : ℕ) × (c ≡ forgetting i)) → has_free (cells_in s Z cell_count (store_behind s Z cell_count u)) ≡ true
      go (inl a) = by a (joining_brings a.packet output p c a.call b)
      go (inr i) = absurd (no_packet i.0 i.1 b)

  -- ---- whatever a call takes under a message's key is a message

  genuine_at : (u v : List Call) (c : Call) → calls ≡ u ++ c ∷ v → (r : Run) → took_by s Z (store_behind s Z cell_count u) c ≡ some (message r) →
      (m : Sending) → Memᴰ m ms → r.head.key ≡ key_in s m →
      (w : Sending) × Memᴰ w ms × (key_in s w ≡ key_in s m) × Delivers s Z cell_count w (store_behind s Z cell_count u) c
  genuine_at u v c e r t m h k =
      genuine·whole s cell_count (in_use_lem s range) ms u v c (subst (Traffic s Z ms) e traffic) r t m h k

  -- two messages with one key and one first counter are one
  same_message : (m w : Sending) → Memᴰ m ms → Memᴰ w ms → key_in s m ≡ key_in s w → start_of s m ≡ start_of s w → m ≡ w
  same_message m w h k e y = go (g.apart m w h k)
    where
      go : (m ≡ w) ⊎ (key_in s m ≢ key_in s w) ⊎
          ((i j : ℕ) → i < many_of s m → j < many_of s w → (segment_at s m i).counter ≢ (segment_at s w j).counter) → m ≡ w
      go (inl d) = d
      go (inr (inl d)) = absurd (d e)
      go (inr (inr d)) =
          absurd
          (d 0 0 (let a = (g.cut m h).many in omega arith) (let a = (g.cut w k).many in omega arith)
          (ap (steps_of next_counter 0) y))

  -- ---- every message is written

  delivers : RoomAlong s x → (m : Sending) → Memᴰ m ms → AllIn s m x → Memᴰ (frame_of s m) (frames_of s x)
  unfolding store_after took_by
  delivers room m h all = go (taken_or s Z m calls empty_store)
    where
      given : Given s Z cell_count ms calls
      given = record { traffic = traffic; room = room_of_lem room }

      by : (t : Taken s Z m empty_store calls) → CallAt s empty_store ps t.earlier t.call → Memᴰ (frame_of s m) (frames_of s x)
      by t a =
          let st = store_behind s Z cell_count t.earlier in
          let r = t.takes.0 in
          let w = genuine_at t.earlier t.others t.call t.place r t.takes.1 m h t.takes.2.0 in
          let key : r.head.key ≡ key_in s w.0 = t.takes.2.0 ∙ sym w.2 in
          let start : start_of s m ≡ start_of s w.0 =
          sym t.takes.2.1 ∙ run_counter s w.0 st t.call r t.takes.1 key w.3 in
          let same : m ≡ w.0 = same_message m w.0 h w.1 (sym w.2) start in
          let frame = run_frame s w.0 st t.call r t.takes.1 key w.3 in
          let there : st ≡ store_for s a.before a.packet = ap (store_behind s Z cell_count) a.earlier ∙ to_store s a.before a.packet in
          let took : took_by s Z (store_for s a.before a.packet) (joining a.packet output) ≡ some (message r) =
          ap (λ (y : List ℕ). took_by s Z y (joining a.packet output)) (sym there) ∙ ap (took_by s Z st) (sym a.call) ∙ t.takes.1 in
          let came = taken_came s (store_along s a.before) a.packet r a.fits took in
          subst (λ (y : List (List ℕ)). Memᴰ (frame_of s m) (frames_from s empty_store y)) (sym a.place)
          (at_frame s a.before a.packet a.after empty_store (frame_of s m)
          (subst (λ (y : Came). Memᴰ (frame_of s m) (frames_by a.packet y)) (sym came)
          (Memᴰ.head (ap (frame_of s) same ∙ sym frame))))

      -- a forgetting takes nothing
      no_taking : (st : List ℕ) (c : Call) (i : ℕ) → c ≡ forgetting i → TakesIt s Z m st c → ⊥
      no_taking st c i d t =
          let f : none ≡ some (message t.0) = sym (ap (took_by s Z st) d) ∙ t.1 in
          let z : ◌≡◌ {A = ℕ} 0 1 = cc f in
          omega arith

      which : (t : Taken s Z m empty_store calls) → CallAt s empty_store ps t.earlier t.call ⊎ ((i : ℕ) × (t.call ≡ forgetting i)) →
          Memᴰ (frame_of s m) (frames_of s x)
      which t (inl a) = by t a
      which t (inr i) = absurd (no_taking (store_after s Z empty_store t.earlier) t.call i.0 i.1 t.takes)

      go : Untaken s Z m empty_store calls ⊎ Taken s Z m empty_store calls → Memᴰ (frame_of s m) (frames_of s x)
      go (inl u) =
          absurd
          (none_is Z one_octet s cell_count (in_use_lem s range) calls plain (only_joins·whole s cell_count (in_use_lem s range) calls (calls_join s range ps octets_in)) m (g.cut m h)
          ((demand3·whole s cell_count (in_use_lem s range) ms [] calls given m h fresh u).complete.1 (all_came m h all)))
      go (inr t) = which t (call_at s ps empty_store t.earlier t.call t.others t.place)

  -- ---- and nothing else under its key

  -- all segments of what is handed out are in the recording
  all_in : (before : List (List ℕ)) (p : List ℕ) (after : List (List ℕ)) → ps ≡ before ++ p ∷ after → (w : Sending) →
      Delivers s Z cell_count w (store_behind s Z cell_count (calls_to s before p)) (joining p output) → AllIn s w x
  all_in before p after e w d i l =
      let a = d.there i l in
      let at : store_behind s Z cell_count (calls_to s before p ++ arrival p ∷ []) ≡ arrived_store s Z (store_behind s Z cell_count (calls_to s before p)) p =
      arrived_more s Z empty_store (calls_to s before p) p in
      let pl = plain_both (calls_to s before p) (arrival p ∷ []) (plain_to s before p (λ q k. octets_in q (in_before q k))) (plain_arrival p (octets_in p its)) in
      let c = held_came Z one_octet s cell_count (in_use_lem s range) (calls_to s before p ++ arrival p ∷ []) pl a.0 (segment_at s w i) a.1
      (ap (λ (st : List ℕ). cell_at s Z st a.0) at ∙ a.2) in
      (c.0, in_recording c.0 (handed_more (calls_to s before p) p c.0 c.1), c.2)
    where
      its : Memᴰ p ps
      its = subst (Memᴰ p) (sym e) (Memᴰ.append_right before (Memᴰ.head refl))

      handed_to : (q : List ℕ) → Handed q (calls_to s before p) → Memᴰ q before
      handed_to q k = by (Memᴰ.append_cases (calls_of s before) k.1)
        where
          by : Memᴰ k.0 (calls_of s before) ⊎ Memᴰ k.0 (forgets_for s (store_from s empty_store before) p) → Memᴰ q before
          by (inl n) = handed_in s before empty_store q (k.0, n, k.2)
          by (inr n) = absurd (forgets_none s (store_from s empty_store before) p q (k.0, n, k.2))

      in_before : (q : List ℕ) → Memᴰ q before → Memᴰ q ps
      in_before q k = subst (Memᴰ q) (sym e) (Memᴰ.append_left (p ∷ after) k)

      in_recording : (q : List ℕ) → Handed q (calls_to s before p) ⊎ (q ≡ p) → Memᴰ q ps
      in_recording q (inl k) = in_before q (handed_to q k)
      in_recording q (inr k) = subst (Memᴰ q) (sym e) (Memᴰ.append_right before (Memᴰ.head k))

  genuine : (k : List ℕ) (c : ℕ) (b : List ℕ) → Memᴰ (joined k c b) (frames_of s x) → (m : Sending) → Memᴰ m ms → k ≡ key_in s m →
      (w : Sending) × Memᴰ w ms × (joined k c b ≡ frame_of s w) × AllIn s w x
  genuine k c b f m h e = by (genuine_at u later call place r took m h key)
    where
      a : Framed s empty_store ps (joined k c b)
      a = frame_at s ps empty_store (joined k c b) f

      v : (r : Run) × (came_of s Z (store_along s a.before) a.packet ≡ message_of r) ×
          (joined k c b ≡ joined r.head.key r.head.counter (body_of r))
      v = joined_came a.packet (came_of s Z (store_along s a.before) a.packet) k c b a.its

      r : Run
      r = v.0

      call : Call
      call = joining a.packet output

      u : List Call
      u = calls_to s a.before a.packet

      later : List Call
      later = calls_from s (store_after' s Z (store_from s empty_store a.before) a.packet) a.after

      st : List ℕ
      st = store_behind s Z cell_count u

      t : (short a.packet ≡ true) × (took_by s Z (store_for s a.before a.packet) call ≡ some (message r))
      t = came_taken s (store_along s a.before) a.packet r v.1

      place : calls ≡ u ++ call ∷ later
      place = ap (calls_of s) a.place ∙ at_call s a.before a.packet a.after t.0

      took : took_by s Z st call ≡ some (message r)
      took = ap (λ (y : List ℕ). took_by s Z y call) (to_store s a.before a.packet) ∙ t.1

      key : r.head.key ≡ key_in s m
      key = cc (v.2, e)

      by : (w : Sending) × Memᴰ w ms × (key_in s w ≡ key_in s m) × Delivers s Z cell_count w st call →
          (w : Sending) × Memᴰ w ms × (joined k c b ≡ frame_of s w) × AllIn s w x
      by w = (
        w.0,
        w.1,
        v.2 ∙ run_frame s w.0 st call r took (key ∙ sym w.2) w.3,
        all_in a.before a.packet a.after a.place w.0 w.3,
      )

-- ---- the laws

pub recording_delivers : RecordingDelivers
recording_delivers s range ms x g room = delivers s range ms x g room

pub recording_genuine : RecordingGenuine
recording_genuine s range ms x g = genuine s range ms x g

pub recording_has : RecordingHas
recording_has s range ms x g room m h all = frame_stands s x (frame_of s m) (delivers s range ms x g room m h all)
