-- Demand 3 over cells, for any injective `next` and any `span`; and what of it holds without the room.
-- Assumes nothing.
use Prim.Native.Nat.{ℕ, ◌+◌, ◌≤◌, ◌<◌}
use mathlib.Core.Path.{◌≡◌, refl, sym, ◌∙◌, ap, subst}
use mathlib.Core.Logic.{◌≢◌, ◌⊎◌, inl, inr}
use mathlib.Core.Option.{some}
use mathlib.Core.List.Memᴰ
use mathlib.Core.List.{List, [], ◌∷◌, ◌++◌, Memᴰ}
use native.Mathlib.Omega.{arith}
use lib.ListN.{length, length-append}
use Rattle.cells.specs.Segments.{Seg}
use Rattle.cells.specs.Rows.{Cell}
use Rattle.cells.specs.Messages.{Run, body_of, look, picked}
use Rattle.taking.specs.Taking.{message, unable, writing}
use Rattle.demand3.specs.Cells.{range_by, clear, forgotten}
use Rattle.demand3.specs.Complete.{Held}
use Rattle.demand3.specs.Traffic.{Sent, body_in, steps_in, run_of, segments_of, Event, arrives, takes, forgets, empty, taken_from, stepped, after, OneOf, Stray, Traffic}
use Rattle.demand3.specs.Promise.{Original, Its, Done, Untaken, Anew, fresh, forgot, AllCame, Gives, Output, Handed, Delivery, Demand3, Soundness}
use Rattle.demand3.proofs.Looks.{look_held}
use Rattle.demand3.proofs.Links.{Mem, Opened, opened_key, sent_opened, sent_length, sent_key, sent_start, original}
use Rattle.demand3.proofs.Finds.{There}
use Rattle.demand3.proofs.Exactly.{there_complete, complete_some}
use Rattle.demand3.proofs.Beside.{Beside}
use Rattle.demand3.proofs.Takings.{picked_taken, too_short, taken_cells, taken_own, Fair, beside_after, held_after, beside_gives, beside_empty}
use Rattle.demand3.proofs.Tally.{number_most}
use Rattle.demand3.proofs.Forgets.{look_forgotten, at_noted}
use Rattle.demand3.proofs.Records.{Clean, clean_empty, clean_open, clean_after, forgotten_clean, forgotten_own}
use Rattle.demand3.proofs.Keeps.{Keeps, Nothing, keeps_nothing, keeps_empty, after_append, room_right, Left, keeps_after}
use Rattle.demand3.proofs.Lasts.{Whole, whole_beside, whole_after}
use Rattle.demand3.proofs.Progress.{holds_one, hand_out}
use Rattle.demand3.proofs.Rooms.{after_length, cells_length}

module _ (next : ℕ → ℕ) (span : ℕ) (inj : (x y : ℕ) → next x ≡ next y → x ≡ y) where
  -- each segment that arrives agrees with each message
  pub fair : (ms : List Sent) (es : List Event) → Traffic next span ms es → (m : Sent) → Memᴰ m ms → Fair next span (run_of next m) es
  fair ms es tr m h t k u g p q = go (tr.source t k)
    where
      key_of : (w : Sent) (x : Seg) → Mem x (segments_of next w) → x.key ≡ w.key
      key_of w x y = opened_key next (run_of next w) (sent_opened next w) x y ∙ sent_key next w

      from : (z : OneOf next ms t) →
          (m ≡ z.0) ⊎ (m.key ≢ z.0.key) ⊎
          ((x y : Seg) → Memᴰ x (segments_of next m) → Memᴰ y (segments_of next z.0) → x.counter ≢ y.counter) → t ≡ u
      from z (inl e) = tr.steady m h t u (subst (λ (w : Sent). Mem t (segments_of next w)) (sym e) z.2) g q
      from z (inr (inl e)) = absurd (e (sym (key_of m u g) ∙ sym p ∙ key_of z.0 t z.2))
      from z (inr (inr e)) = absurd (e u t g z.2 (sym q))

      go : OneOf next ms t ⊎ Stray next ms t → t ≡ u
      go (inl z) = from z (tr.apart m z.0 h z.1)
      go (inr z) = absurd (z m h u g p q)

  beside_run : (cells : ℕ) (ms : List Sent) (es : List Event) → Traffic next span ms es → (m : Sent) → Memᴰ m ms →
      Beside (run_of next m) (after next span (empty cells) es)
  beside_run cells ms es tr m h =
      beside_after next span (run_of next m) es (empty cells) (fair ms es tr m h) (beside_empty (run_of next m) cells)

  -- a taking under the message's key and first counter takes the message
  pub its_own : (m : Sent) (cs : List Cell) → Beside (run_of next m) cs → (long : ℕ) (r : Run) →
      taken_from next span cs long ≡ message r → Its m r → r ≡ run_of next m
  its_own m cs b long r e i =
      taken_own next span inj (run_of next m) (sent_opened next m) cs b long r (run_of next m).head e (Memᴰ.head refl)
      (i.0 ∙ sym (sent_key next m)) (i.1 ∙ sym (sent_start next m))

  untaken_left : (m : Sent) (cs : List Cell) (es : List Event) → Untaken next span m cs es →
      Left next span inj (run_of next m) (sent_opened next m) cs es
  untaken_left m cs es u p q long d e = u p q long (run_of next m) d e (sent_key next m, sent_start next m)

  -- nothing of the message is held or recorded where it is told anew
  anew : (cells : ℕ) (m : Sent) (es : List Event) → Fair next span (run_of next m) es → Anew next span cells m es →
      Nothing next (run_of next m) (after next span (empty cells) es)
  unfolding after stepped
  anew cells m es f fresh = keeps_empty next (run_of next m) cells
  anew cells m es f (forgot p i e) =
      subst (Nothing next own) (sym (after_append next span (empty cells) p (forgets i ∷ [])))
      (keeps_nothing next own (forgotten i cs) w.beside (clean_open next own (forgotten i cs) w (forgotten_own next own o i cs v e))
      (λ t k. look_forgotten i cs t.key t.counter ∙ v.parted (at_noted cs i (range_by own) e) t k))
    where
      own : Run
      own = run_of next m

      o : Opened next own
      o = sent_opened next m

      cs : List Cell
      cs = after next span (empty cells) p

      v : Clean next own cs
      v = clean_after next span inj own o p (empty cells) (λ t k. f t (Memᴰ.append_left (forgets i ∷ []) k)) (clean_empty next own cells)

      w : Clean next own (forgotten i cs)
      w = forgotten_clean next own i cs v

  -- a taking that picks the message, with enough output and with less
  output : (m : Sent) (cs : List Cell) → Beside (run_of next m) cs → Output next span m cs
  output m cs b = record { enough = yes'; short = no' }
    where
      run : (r : Run) → picked next span cs ≡ some r → Its m r → r ≡ run_of next m
      run r e i = its_own m cs b (length (writing r)) r (picked_taken next span cs (length (writing r)) r e (omega arith)) i

      own : (r : Run) → picked next span cs ≡ some r → Its m r → Original next m r
      own r e i = original next m r (run r e i)

      written : (r : Run) → Original next m r → writing r ≡ m.key ++ body_in m
      written r o = ap (λ (x : List ℕ). x ++ body_of r) o.key ∙ ap (λ (x : List ℕ). m.key ++ x) o.body

      many : (r : Run) → Original next m r → length (writing r) ≡ length m.key + length (body_in m)
      many r o = ap length (written r o) ∙ length-append m.key (body_in m)

      yes' : (r : Run) → picked next span cs ≡ some r → Its m r → (long : ℕ) → length m.key + length (body_in m) ≤ long →
          (taken_from next span cs long ≡ message r) × (writing r ≡ m.key ++ body_in m) × (r.head.counter ≡ m.start) ×
          (stepped next span cs (takes long) ≡ clear (run_of next m) cs)
      yes' r e i long h =
          let o = own r e i in
          let t : taken_from next span cs long ≡ message r = picked_taken next span cs long r e (rw (many r o) h) in
          (t, written r o, o.counter, taken_cells next span cs long r t ∙ ap (λ (x : Run). clear x cs) (run r e i))

      no' : (r : Run) → picked next span cs ≡ some r → Its m r → (long : ℕ) → long < length m.key + length (body_in m) →
          (taken_from next span cs long ≡ unable 21) × (stepped next span cs (takes long) ≡ cs)
      no' r e i long h = too_short next span cs long r e (rw (many r (own r e i)) h)

  -- ---- complete, and all its segments there

  done_of_lem : (m : Sent) (cs : List Cell) → steps_in m ≤ span → There cs (segments_of next m) → Done next span m cs
  done_of_lem m cs l f =
      let d = there_complete next span cs (run_of next m) (sent_opened next m) (rw (sent_length next m) l) f in
      rw (sent_length next m, sent_key next m, sent_start next m) at d

  -- a message that is complete is held whole
  done_whole : (m : Sent) (cs : List Cell) → Beside (run_of next m) cs → Done next span m cs → Whole (run_of next m) cs
  done_whole m cs b d = record { single = b.single; there = each }
    where
      its_one : (t : Seg) → Mem t (segments_of next m) → (u : Seg) × (look cs t.key t.counter ≡ some u) →
          look cs t.key t.counter ≡ some t
      its_one t k z = z.1 ∙ ap some (b.only t z.0 k z.1)

      each : There cs (segments_of next m)
      each t k =
          its_one t k
          (complete_some next span cs (run_of next m) b.single (sent_opened next m)
          (rw (sent_length next m, sent_key next m, sent_start next m) d) t k)

  handed_out : (m : Sent) (cs : List Cell) (cells : ℕ) → length cs ≡ cells → steps_in m ≤ span → Whole (run_of next m) cs →
      Handed next span cells m cs
  handed_out m cs cells c l w ns h e =
      let v =
      hand_out next span inj (run_of next m) (sent_opened next m) (rw (sent_length next m) l) ns cs w
      (omega (arith, number_most holds_one cs, c)) e in
      (v.0, v.1, v.2, v.3, (v.4.0, v.4.1, original next m v.4.0 v.4.2))

  -- its taking
  delivery : (m : Sent) (cs : List Cell) (cells : ℕ) → length cs ≡ cells → steps_in m ≤ span → Beside (run_of next m) cs →
      Delivery next span (Done next span m) cells m cs
  delivery m cs cells c l b =
      record {
        gives = beside_gives next span inj m cs b;
        output = output m cs b;
        handed = λ d. handed_out m cs cells c l (done_whole m cs b d);
        lasts = on;
      }
    where
      on : Done next span m cs → (more : List Event) → Untaken next span m cs more →
          Done next span m (after next span cs more) × Gives next span m (after next span cs more) ×
          Output next span m (after next span cs more) × Handed next span cells m (after next span cs more)
      on d more u = (
        done_of_lem m then l v.there,
        beside_gives next span inj m then (whole_beside (run_of next m) then v),
        output m then (whole_beside (run_of next m) then v),
        handed_out m then cells (after_length next span more cs ∙ c) l v,
      )
        where
          then : List Cell
          then = after next span cs more

          v : Whole (run_of next m) then
          v = whole_after next span inj (run_of next m) (sent_opened next m) more cs (untaken_left m cs more u) (done_whole m cs b d)

  -- ---- without the room

  -- what is held of a message has arrived since it was told anew
  held_came :
      (cells : ℕ) (ms : List Sent) (before since : List Event) → Traffic next span ms (before ++ since) → (m : Sent) → Memᴰ m ms →
      Anew next span cells m before → (t : Seg) → Mem t (segments_of next m) →
      Held t (after next span (empty cells) (before ++ since)) →
      Memᴰ (arrives t) since
  held_came cells ms before since tr m h a t k g =
      go (held_after next span since (after next span (empty cells) before) t
      (subst (Held t) (after_append next span (empty cells) before since) g))
    where
      w : Nothing next (run_of next m) (after next span (empty cells) before)
      w = anew cells m before (λ u i. fair ms (before ++ since) tr m h u (Memᴰ.append_left since i)) a

      go : Held t (after next span (empty cells) before) ⊎ Memᴰ (arrives t) since → Memᴰ (arrives t) since
      go (inl x) = absurd (w.came t t k (w.beside.single t x))
      go (inr x) = x

  pub soundness : Soundness next span
  soundness cells ms before since tr m h a = (
    λ d t k. held_came cells ms before since tr m h a t k (look_held cs t.key t.counter t ((done_whole m cs b d).there t k)).0,
    delivery m cs cells (cells_length next span (before ++ since) cells) (tr.short m h) b,
  )
    where
      cs : List Cell
      cs = after next span (empty cells) (before ++ since)

      b : Beside (run_of next m) cs
      b = beside_run cells ms (before ++ since) tr m h

  -- ---- demand 3

  pub demand3 : Demand3 next span
  demand3 cells ms before since gv m h a u = record { complete = (s.0, done); delivery = s.1 }
    where
      own : Run
      own = run_of next m

      cs : List Cell
      cs = after next span (empty cells) (before ++ since)

      s : (Done next span m cs → AllCame next m since) × Delivery next span (Done next span m) cells m cs
      s = soundness cells ms before since gv.traffic m h a

      f : Fair next span own (before ++ since)
      f = fair ms (before ++ since) gv.traffic m h

      Came : Seg → Type 0
      Came t = ⊥ ⊎ Memᴰ (arrives t) since

      w : Keeps next own Came cs
      w =
          subst (Keeps next own Came) (sym (after_append next span (empty cells) before since))
          (keeps_after next span inj own (sent_opened next m) since (after next span (empty cells) before) (λ (t : Seg). ⊥)
          (anew cells m before (λ t k. f t (Memᴰ.append_left since k)) a) (λ t k. f t (Memᴰ.append_right before k))
          (room_right next span (empty cells) before since gv.room)
          (untaken_left m (after next span (empty cells) before) since u))

      done : AllCame next m since → Done next span m cs
      done g = done_of_lem m cs (gv.traffic.short m h) (λ t k. w.kept t k (inr (g t k)))
