-- Every message all of whose segments are in a recording is written exactly once, if no packet finds the store without room: two frames of
-- it would be two joinings that hand it out, with no forgetting between, which "each tile once" shuts out.
-- Assumes nothing.
use Prim.Native.Nat.{ℕ}
use mathlib.Core.Path.{◌≡◌, refl, ap, sym, ◌∙◌, subst}
use mathlib.Core.Logic.{◌⊎◌, inl, inr}
use mathlib.Core.Bool.{Bool, true, false}
use mathlib.Core.List.Memᴰ
use mathlib.Core.List.{List, [], ◌∷◌, ◌++◌, append_assoc, Memᴰ}
use native.Mathlib.Omega.{arith}
use Rattle.octets.specs.Octets.{pick}
use Rattle.walk.specs.declared.Settings.{Settings}
use Rattle.packet.specs.Format.{SettingsInRange}
use Rattle.cells.specs.Order.{count_in}
use Rattle.cells.specs.Messages.{body_of}
use Rattle.taking.specs.Forgetting.{lowest_record}
use Rattle.join.specs.Joining.{joining as joining_of}
use Rattle.steps.specs.Stepping.{room, is_full, Came, over, refused, kept, late, wholly, message as message_of, came_of, store_after as step_store}
use Rattle.recording.specs.Recording.{cell_count, empty_store}
use Rattle.demand3.specs.Calls.{Call, joining, forgetting, took_by}
use Rattle.demand3.specs.Sendings.{Sending, whole_body, key_in, start_of}
use Rattle.demand3.specs.Presupposed.{TakesIt, store_behind}
use Rattle.demand3.proofs.Events.{none_split}
use Rattle.once.specs.Once.{NoneForgets}
use Rattle.once.proofs.Outs.{at_most_once}
use Rattle.tiles.specs.Along.{packets_of, store_from, store_along, Frame, whole_packet, joined, frames_by, frames_from, frames_of}
use Rattle.tiles.specs.Written.{RecordingOf, frame_of}
use Rattle.tiles.specs.Once.{NoneFull, RecordingOnce}
use Rattle.tiles.proofs.Framing.{Z, Framed, frame_at}
use Rattle.tiles.proofs.Joinings.{output, short, forgets_for, calls_from, calls_of, calls_to, to_store, at_call}
use Rattle.tiles.proofs.Comes.{came_taken, in_use_lem, one_octet}
use Rattle.tiles.proofs.Recordings.{joined_came, traffic, recording_delivers}
use Rattle.tiles.proofs.Unfull.{room_along}

-- ---- lists

-- where a thing in a list stands
mem_split : {A : Type 0} (w : A) (l : List A) → Memᴰ w l → (a : List A) × (b : List A) × (l ≡ a ++ w ∷ b)
mem_split w [] h = absurd (Memᴰ.not-nil h)
mem_split {A} w (y ∷ l) h = go (mem_split w l) (Memᴰ.cases_cons h)
  where
    go : (Memᴰ w l → (a : List A) × (b : List A) × (l ≡ a ++ w ∷ b)) → (w ≡ y) ⊎ Memᴰ w l →
        (a : List A) × (b : List A) × (y ∷ l ≡ a ++ w ∷ b)
    go ih (inl e) = ([], l, ap (λ (z : A). z ∷ l) (sym e))
    go ih (inr k) = let v = ih k in (y ∷ v.0, v.1, ap (λ (z : List A). y ∷ z) v.2)

-- ---- a frame twice

-- of a packet there is one frame or none
one_frame : (p : List ℕ) (y : Came) → (frames_by p y ≡ []) ⊎ ((w : Frame) × (frames_by p y ≡ w ∷ []))
one_frame p over = inl refl
one_frame p (refused k) = inl refl
one_frame p kept = inl refl
one_frame p late = inl refl
one_frame p wholly = inr (whole_packet p, refl)
one_frame p (message_of r) = inr (joined r.head.key r.head.counter (body_of r), refl)

module _ (s : Settings) where
  -- it comes from two packets, one after the other
  record Twice (st : List ℕ) (ps : List (List ℕ)) (w : Frame) : Type 0 where
    before : List (List ℕ)
    packet : List ℕ
    middle : List (List ℕ)
    other : List ℕ
    after : List (List ℕ)
    place : ps ≡ (before ++ packet ∷ middle) ++ other ∷ after
    first : Memᴰ w (frames_by packet (came_of s Z (store_from s st before) packet))
    second : Memᴰ w (frames_by other (came_of s Z (store_from s st (before ++ packet ∷ middle)) other))

  twice : (ps : List (List ℕ)) (st : List ℕ) (w : Frame) (a b : List Frame) → frames_from s st ps ≡ a ++ w ∷ b → Memᴰ w b → Twice st ps w
  unfolding frames_from store_from
  twice [] st w a b e h = absurd (none_split w a b e)
  twice (p ∷ ps) st w a b e h = go (twice ps (step_store s Z st p) w) (one_frame p (came_of s Z st p))
    where
      rest : List Frame
      rest = frames_from s (step_store s Z st p) ps

      on : Twice (step_store s Z st p) ps w → Twice st (p ∷ ps) w
      on v =
          record {
            before = p ∷ v.before;
            packet = v.packet;
            middle = v.middle;
            other = v.other;
            after = v.after;
            place = ap (λ (l : List (List ℕ)). p ∷ l) v.place;
            first = v.first;
            second = v.second;
          }

      here : Memᴰ w (frames_by p (came_of s Z st p)) → Framed s (step_store s Z st p) ps w → Twice st (p ∷ ps) w
      here k v =
          record {
            before = [];
            packet = p;
            middle = v.before;
            other = v.packet;
            after = v.after;
            place = ap (λ (l : List (List ℕ)). p ∷ l) v.place;
            first = k;
            second = v.its;
          }

      by : ((a' b' : List Frame) → rest ≡ a' ++ w ∷ b' → Memᴰ w b' → Twice (step_store s Z st p) ps w) → (f : Frame) →
          frames_by p (came_of s Z st p) ≡ f ∷ [] → (a' : List Frame) → f ∷ rest ≡ a' ++ w ∷ b → Twice st (p ∷ ps) w
      by ih f d [] q =
          let k : w ≡ f = cc q in
          let t : rest ≡ b = cc q in
          here (subst (Memᴰ w) (sym d) (Memᴰ.head k)) (frame_at s ps (step_store s Z st p) w (subst (Memᴰ w) (sym t) h))
      by ih f d (y ∷ a') q = let t : rest ≡ a' ++ w ∷ b = cc q in on (ih a' b t h)

      go : ((a' b' : List Frame) → rest ≡ a' ++ w ∷ b' → Memᴰ w b' → Twice (step_store s Z st p) ps w) →
          (frames_by p (came_of s Z st p) ≡ []) ⊎ ((f : Frame) × (frames_by p (came_of s Z st p) ≡ f ∷ [])) → Twice st (p ∷ ps) w
      go ih (inl d) = on (ih a b (sym (ap (λ (l : List Frame). l ++ rest) d) ∙ e) h)
      go ih (inr f) = by ih f.0 f.1 a (sym (ap (λ (l : List Frame). l ++ rest) f.1) ∙ e)

  -- ---- no forgetting

  none_forgets : (ps : List (List ℕ)) (st : List ℕ) →
      ((before after : List (List ℕ)) (p : List ℕ) → ps ≡ before ++ p ∷ after → is_full (joining_of s Z (store_from s st before) p room) ≡ false) →
      NoneForgets (calls_from s st ps)
  unfolding calls_from store_from
  none_forgets [] st f i h = Memᴰ.not-nil h
  none_forgets (p ∷ ps) st f i h =
      go (none_forgets ps (step_store s Z st p) (λ a b q e. f (p ∷ a) b q (ap (λ (l : List (List ℕ)). p ∷ l) e)) i)
      (Memᴰ.append_cases (pick (short p) (forgets_for s st p ++ joining p output ∷ []) []) h)
    where
      no_join : (forgetting i ≡ joining p output) ⊎ Memᴰ (forgetting i) [] → ⊥
      no_join (inl e) = let z : ◌≡◌ {A = ℕ} 0 1 = cc e in omega arith
      no_join (inr k) = Memᴰ.not-nil k

      full : (c : Bool) → c ≡ false → Memᴰ (forgetting i) (pick c (forgetting (lowest_record s Z st (count_in Z st)) ∷ []) []) → ⊥
      full true e k = let z : ◌≡◌ {A = ℕ} 0 1 = cc e in omega arith
      full false e k = Memᴰ.not-nil k

      parts : Memᴰ (forgetting i) (forgets_for s st p) ⊎ Memᴰ (forgetting i) (joining p output ∷ []) → ⊥
      parts (inl k) = full (is_full (joining_of s Z st p room)) (f [] ps p refl) k
      parts (inr k) = no_join (Memᴰ.cases_cons k)

      own : (c : Bool) → Memᴰ (forgetting i) (pick c (forgets_for s st p ++ joining p output ∷ []) []) → ⊥
      own true k = parts (Memᴰ.append_cases (forgets_for s st p) k)
      own false k = Memᴰ.not-nil k

      go : (Memᴰ (forgetting i) (calls_from s (step_store s Z st p) ps) → ⊥) →
          Memᴰ (forgetting i) (pick (short p) (forgets_for s st p ++ joining p output ∷ []) []) ⊎
          Memᴰ (forgetting i) (calls_from s (step_store s Z st p) ps) → ⊥
      go ih (inl k) = own (short p) k
      go ih (inr k) = ih k

  -- ---- a frame is a taking

  taken_at_lem : (m : Sending) (before : List (List ℕ)) (p : List ℕ) →
      Memᴰ (frame_of s m) (frames_by p (came_of s Z (store_along s before) p)) →
      (short p ≡ true) × TakesIt s Z m (store_behind s Z cell_count (calls_to s before p)) (joining p output)
  taken_at_lem m before p h =
      let v = joined_came p (came_of s Z (store_along s before) p) (key_in s m) (start_of s m) (whole_body m) h in
      let t = came_taken s (store_along s before) p v.0 v.1 in
      let k : v.0.head.key ≡ key_in s m = cc v.2 in
      let c : v.0.head.counter ≡ start_of s m = cc v.2 in
      (t.0, (v.0, ap (λ (y : List ℕ). took_by s Z y (joining p output)) (to_store s before p) ∙ t.1, (k, c)))

-- ---- the law

module _ (s : Settings) (range : SettingsInRange s) (ms : List Sending) (x : List ℕ) (g : RecordingOf s ms x) (never : NoneFull s x) (m : Sending) (h : Memᴰ m ms) where
  abbrev ps : List (List ℕ)
  ps = packets_of x

  not_twice : (a b : List Frame) → frames_of s x ≡ a ++ frame_of s m ∷ b → Memᴰ (frame_of s m) b → ⊥
  not_twice a b e k =
      at_most_once Z one_octet s cell_count (in_use_lem s range) ms (calls_of s ps) (traffic s range ms x g) (none_forgets s ps empty_store never) m h
      to between later (joining p output) (joining q output) calls_are first.1
      (subst (λ (l : List Call). TakesIt s Z m (store_behind s Z cell_count l) (joining q output)) to_are second.1)
    where
      v : Twice s empty_store ps (frame_of s m)
      v = twice s ps empty_store (frame_of s m) a b e k

      p : List ℕ
      p = v.packet

      q : List ℕ
      q = v.other

      ahead : List (List ℕ)
      ahead = v.before ++ p ∷ v.middle

      first : (short p ≡ true) × TakesIt s Z m (store_behind s Z cell_count (calls_to s v.before p)) (joining p output)
      first = taken_at_lem s m v.before p v.first

      second : (short q ≡ true) × TakesIt s Z m (store_behind s Z cell_count (calls_to s ahead q)) (joining q output)
      second = taken_at_lem s m ahead q v.second

      to : List Call
      to = calls_to s v.before p

      amid : List Call
      amid = calls_from s (step_store s Z (store_from s empty_store v.before) p) v.middle

      between : List Call
      between = amid ++ forgets_for s (store_from s empty_store ahead) q

      later : List Call
      later = calls_from s (step_store s Z (store_from s empty_store ahead) q) v.after

      to_are : calls_to s ahead q ≡ to ++ joining p output ∷ between
      to_are =
          ap (λ (l : List Call). l ++ forgets_for s (store_from s empty_store ahead) q) (at_call s v.before p v.middle first.0)
          ∙ append_assoc to (joining p output ∷ amid) (forgets_for s (store_from s empty_store ahead) q)

      calls_are : calls_of s ps ≡ (to ++ joining p output ∷ between) ++ joining q output ∷ later
      calls_are =
          ap (calls_of s) v.place ∙ at_call s ahead q v.after second.0
          ∙ ap (λ (l : List Call). l ++ joining q output ∷ later) to_are

pub recording_once : RecordingOnce
recording_once s range ms x g never m h all =
    record {
      earlier = v.0;
      later = v.1;
      place = v.2;
      not_before = before;
      not_after = not_twice s range ms x g never m h v.0 v.1 v.2;
    }
  where
    v : (a : List Frame) × (b : List Frame) × (frames_of s x ≡ a ++ frame_of s m ∷ b)
    v = mem_split (frame_of s m) (frames_of s x) (recording_delivers s range ms x g (room_along s range x g.octets never) m h all)

    before : Memᴰ (frame_of s m) v.0 → ⊥
    before k =
        let w = mem_split (frame_of s m) v.0 k in
        not_twice s range ms x g never m h w.0 (w.1 ++ frame_of s m ∷ v.1)
        (v.2 ∙ ap (λ (l : List Frame). l ++ frame_of s m ∷ v.1) w.2 ∙ append_assoc w.0 (frame_of s m ∷ w.1) (frame_of s m ∷ v.1))
        (Memᴰ.append_right w.1 (Memᴰ.head refl))
