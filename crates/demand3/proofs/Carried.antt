-- What demand 3 over octets presupposes is what demand 3 over cells does of the events: the messages, the arrivals, the room, a
-- message untaken and told anew, its record not forgotten.
-- Assumes nothing.
use Prim.Native.Nat.{ℕ, ◌+◌, ◌*◌, ◌≤◌, ◌<◌}
use mathlib.Core.Path.{◌≡◌, ap, sym, ◌∙◌, subst}
use mathlib.Core.Logic.{◌≢◌, ◌⊎◌, inl, inr}
use mathlib.Core.Bool.{not}
use mathlib.Core.Option.{some}
use mathlib.Core.List.Memᴰ
use mathlib.Core.List.{List, [], ◌∷◌, ◌++◌, map, append-nil, Memᴰ}
use native.Mathlib.Omega.{arith}
use lib.ListN.{length}
use Rattle.walk.specs.declared.Settings.{Settings}
use Rattle.packet.specs.Numbers.{next_counter, steps_most}
use Rattle.octets.specs.Octets.{most32}
use Rattle.cells.specs.Segments.{Seg, seg_of}
use Rattle.cells.specs.Rows.{Cell, taken}
use Rattle.cells.specs.Order.{cell_at, untaken_to}
use Rattle.cells.specs.Messages.{cells_of, look}
use Rattle.taking.specs.Taking.{message}
use Rattle.demand3.specs.Cells.{has_free, range_by, recorded}
use Rattle.cells.proofs.Empty.{empty_cells, empty_count, empty_order}
use Rattle.demand3.specs.Traffic.{Sent, run_of, segments_of, Event, arrives, takes, forgets, empty, taken_from, after, OneOf, Room as CellRoom, steps_in}
use Rattle.demand3.specs.Promise.{Anew as CellAnew, fresh as cell_fresh, forgot as cell_forgot, Untaken as CellUntaken, AllCame as CellAllCame}
use Rattle.demand3.specs.Promise.{RecordAt as CellRecordAt, Remembered as CellRemembered}
use Rattle.demand3.specs.Base.{Traffic01}
use Rattle.demand3.specs.Calls.{Call, forgetting, Handed, Plain, out_of, store_by, store_after, took_by}
use Rattle.demand3.specs.Sendings.{Sending, ReadsAs, many_of, segment_at, key_in, steps_to, range_sent, IsCut}
use Rattle.demand3.specs.Presupposed.{AllCame, MayCome, own, unsegmented, malformed, over_long, other_keyed, Traffic, Untaken, InUse, empty_store, store_behind, Room}
use Rattle.demand3.specs.Presupposed.{RecordAt, Remembered, Anew, fresh, forgot}
use Rattle.demand3.proofs.Keeps.{after_append}
use Rattle.demand3.proofs.Plain.{plain_left, plain_at}
use Rattle.join.proofs.Plain.{zeros_octets}
use Rattle.demand3.proofs.ReadAs.{own_fits, start_fits}
use Rattle.demand3.proofs.Sents.{sent_of, own_in, in_own, short, end_is}
use Rattle.demand3.proofs.Links.{sent_key, sent_start, sent_length}
use Rattle.demand3.proofs.Marked.{untaken_is, listed_get, listed_past}
use Rattle.demand3.proofs.Steps.{event_of, event_reads, reads_event, settings_go, Kept}
use Rattle.demand3.proofs.Events.{before, events_in, events_append, by_arrives, by_takes, by_forgets, origin}
use Rattle.demand3.proofs.Simulates.{took_by_lem, run_keeps, run_cells, handed_in, in_handed}

-- the empty store
pub begins : (s : Settings) (Z n : ℕ) → 1 ≤ Z → InUse s n → Kept s Z n (empty_store Z n)
begins s Z n one u =
    record {
      settings = settings_go s u.settings;
      order = empty_order s Z n one u.some u.most;
      count = empty_count s Z n one;
      octets = zeros_octets (n * Z);
    }

-- ---- the messages and the arrivals

module _ (s : Settings) (Z : ℕ) (ms : List Sending) where
  -- a segment that arrives is one of theirs, or other-keyed
  seg_source : (p : List ℕ) (t : Seg) → ((m : Sending) → Memᴰ m ms → IsCut s Z m) → MayCome s Z ms p → ReadsAs s p t → 2 + length p ≤ Z →
      OneOf next_counter (map (sent_of s) ms) t ⊎ ((m : Sent) → Memᴰ m (map (sent_of s) ms) → t.key ≢ m.key)
  unfolding seg_of
  seg_source p t k (own m h i l r) a b =
      inl (
        sent_of s m,
        Memᴰ.map (sent_of s) h,
        subst (λ (x : Seg). Memᴰ x (segments_of next_counter (sent_of s m))) (sym r.segment ∙ a.segment) (own_in s Z m (k m h) i l),
      )
  seg_source p t k (unsegmented e) a b = let f = a.segmented in let z : ◌≡◌ {A = ℕ} 0 1 = cc in absurd (omega arith)
  seg_source p t k (malformed e) a b = absurd (e a.accepted)
  seg_source p t k (over_long l) a b = absurd (omega arith)
  seg_source p t k (other_keyed f) a b =
      inr
      (λ m h e.
      let v = Memᴰ.of_map (sent_of s) ms h in
      f v.0 v.1 (ap (λ (x : Seg). x.key) a.segment ∙ e ∙ ap (λ (x : Sent). x.key) (sym v.2)))

  -- of events each arrival of which is among those of some calls
  pub traffic_of : (cs : List Call) → Traffic s Z ms cs → (st : List ℕ) (es : List Event) →
      ((t : Seg) → Memᴰ (arrives t) es → Memᴰ (arrives t) (events_in s Z st cs)) → Traffic01 (map (sent_of s) ms) es
  traffic_of cs g st es into = record { start = first; short = few; apart = part; source = from }
    where
      first : (m : Sent) → Memᴰ m (map (sent_of s) ms) → m.start ≤ most32
      first m h =
          let v = Memᴰ.of_map (sent_of s) ms h in
          subst (λ (x : Sent). x.start ≤ most32) v.2 (start_fits s Z v.0 (g.cut v.0 v.1))

      few : (m : Sent) → Memᴰ m (map (sent_of s) ms) → steps_in m ≤ steps_most
      few m h =
          let v = Memᴰ.of_map (sent_of s) ms h in
          subst (λ (x : Sent). steps_in x ≤ steps_most) v.2 (short s Z v.0 (g.cut v.0 v.1))

      part : (m w : Sent) → Memᴰ m (map (sent_of s) ms) → Memᴰ w (map (sent_of s) ms) →
          (m ≡ w) ⊎ (m.key ≢ w.key) ⊎
          ((t u : Seg) → Memᴰ t (segments_of next_counter m) → Memᴰ u (segments_of next_counter w) → t.counter ≢ u.counter)
      part m w h k =
          let a = Memᴰ.of_map (sent_of s) ms h in
          let b = Memᴰ.of_map (sent_of s) ms k in
          subst
          (λ (x : Sent). (x ≡ w) ⊎ (x.key ≢ w.key) ⊎
          ((t u : Seg) → Memᴰ t (segments_of next_counter x) → Memᴰ u (segments_of next_counter w) → t.counter ≢ u.counter))
          a.2
          (subst
          (λ (y : Sent). (sent_of s a.0 ≡ y) ⊎ (key_in s a.0 ≢ y.key) ⊎
          ((t u : Seg) → Memᴰ t (segments_of next_counter (sent_of s a.0)) → Memᴰ u (segments_of next_counter y) → t.counter ≢ u.counter))
          b.2 (go a.0 b.0 a.1 b.1 (g.apart a.0 b.0 a.1 b.1)))
        where
          go : (x y : Sending) → Memᴰ x ms → Memᴰ y ms →
              (x ≡ y) ⊎ (key_in s x ≢ key_in s y) ⊎
              ((i j : ℕ) → i < many_of s x → j < many_of s y → (segment_at s x i).counter ≢ (segment_at s y j).counter) →
              (sent_of s x ≡ sent_of s y) ⊎ (key_in s x ≢ key_in s y) ⊎
              ((t u : Seg) → Memᴰ t (segments_of next_counter (sent_of s x)) → Memᴰ u (segments_of next_counter (sent_of s y)) → t.counter ≢ u.counter)
          go x y hx hy (inl e) = inl (ap (sent_of s) e)
          go x y hx hy (inr (inl e)) = inr (inl e)
          go x y hx hy (inr (inr f)) =
              inr
              (inr
              (λ t u c d e.
              let v = in_own s Z x (g.cut x hx) t c in
              let w' = in_own s Z y (g.cut y hy) u d in
              f v.0 w'.0 v.1 w'.1
              (ap (λ (z : Seg). z.counter) (sym v.2) ∙ e ∙ ap (λ (z : Seg). z.counter) w'.2)))

      from : (t : Seg) → Memᴰ (arrives t) es →
          OneOf next_counter (map (sent_of s) ms) t ⊎ ((m : Sent) → Memᴰ m (map (sent_of s) ms) → t.key ≢ m.key)
      from t h =
          let v = in_handed s Z cs st t (into t h) in
          let r = event_reads s Z v.0 t v.2 in
          seg_source v.0 t g.cut (g.packets v.0 v.1) r.0 r.1

  -- all its segments have come exactly if all have arrived
  pub came_all : (cs all : List Call) → Traffic s Z ms all → ((p : List ℕ) → Handed p cs → Handed p all) → (st : List ℕ) (m : Sending) →
      Memᴰ m ms → AllCame s m cs → CellAllCame next_counter (sent_of s m) (events_in s Z st cs)
  came_all cs all g into st m h f t k =
      let v = in_own s Z m (g.cut m h) t k in
      let c = f v.0 v.1 in
      let l = own_fits s Z m (g.cut m h) v.0 v.1 c.0 (g.octets c.0 (into c.0 c.1)) c.2 in
      let e : event_of s Z c.0 ≡ arrives t = reads_event s Z c.0 (segment_at s m v.0) c.2 l ∙ ap arrives (sym v.2) in
      subst (λ (x : Event). Memᴰ x (events_in s Z st cs)) e (handed_in s Z cs st c.0 c.1)

  pub all_came : (cs : List Call) (st : List ℕ) (m : Sending) → IsCut s Z m → CellAllCame next_counter (sent_of s m) (events_in s Z st cs) → AllCame s m cs
  all_came cs st m k f i l =
      let v = in_handed s Z cs st (segment_at s m i) (f (segment_at s m i) (own_in s Z m k i l)) in
      (v.0, v.1, (event_reads s Z v.0 (segment_at s m i) v.2).0)

-- ---- takings and the room

module _ (s : Settings) (Z n : ℕ) where
  -- none of the calls takes the message: none of the events does
  pub untaken_of : (m : Sending) (st : List ℕ) (cs : List Call) → Kept s Z n st → Plain cs → Untaken s Z m st cs →
      CellUntaken next_counter steps_most (sent_of s m) (cells_of s Z st n) (events_in s Z st cs)
  untaken_of m st cs k pl u p q long r e t i =
      let o = origin s Z cs st p (takes long) q e in
      let f = plain_at cs o.earlier o.others o.call o.place pl in
      let x = store_after s Z st o.earlier in
      let kx = run_keeps s Z n o.earlier st k f.0 in
      let b = by_takes s Z x o.call long o.ahead o.behind o.its in
      let c : after next_counter steps_most (cells_of s Z st n) p ≡ after next_counter steps_most (cells_of s Z x n) (before s Z o.call) =
      ap (after next_counter steps_most (cells_of s Z st n)) (o.before_it ∙ ap (λ (l : List Event). events_in s Z st o.earlier ++ l) b.0)
      ∙ after_append next_counter steps_most (cells_of s Z st n) (events_in s Z st o.earlier) (before s Z o.call)
      ∙ ap (λ (l : List Cell). after next_counter steps_most l (before s Z o.call)) (sym (run_cells s Z n o.earlier st k f.0)) in
      let d : took_by s Z x o.call ≡ some (message r) =
      took_by_lem s Z n x kx o.call f.1 b.1
      ∙ ap (λ (l : List Cell). some (taken_from next_counter steps_most l (length (out_of o.call)))) (sym c)
      ∙ ap (λ (y : ℕ). some (taken_from next_counter steps_most (after next_counter steps_most (cells_of s Z st n) p) y)) b.2
      ∙ ap some t in
      u o.earlier o.others o.call o.place (r, d, i)

  -- ---- records

  module _ (m : Sending) (c : IsCut s Z m) where
    -- its record is that of its run
    pub range_is : range_by (run_of next_counter (sent_of s m)) ≡ range_sent s m
    range_is =
        λ i. record {
          key = sent_key next_counter (sent_of s m) i;
          first = sent_start next_counter (sent_of s m) i;
          steps = steps_are i;
        }
      where
        steps_are : length (run_of next_counter (sent_of s m)).rest ≡ steps_to s m
        steps_are = sent_length next_counter (sent_of s m) ∙ end_is s Z m c

    pub record_of_lem : (st : List ℕ) (i : ℕ) → RecordAt s Z n m st i → CellRecordAt next_counter steps_most (sent_of s m) (cells_of s Z st n) i
    record_of_lem st i r =
        listed_get (cell_at s Z st) n 0 i i (let e : i ≡ 0 + i = omega arith in e) r.0 ∙ r.1 ∙ ap taken (sym range_is)

    pub of_record : (st : List ℕ) (i : ℕ) → CellRecordAt next_counter steps_most (sent_of s m) (cells_of s Z st n) i → RecordAt s Z n m st i
    of_record st i e =
        let l : i < n = listed_past (cell_at s Z st) n 0 i (range_by (run_of next_counter (sent_of s m))) e in
        (l, sym (listed_get (cell_at s Z st) n 0 i i (let d : i ≡ 0 + i = omega arith in d) l) ∙ e ∙ ap taken range_is)

    -- none of the calls forgets it: none of the events does
    pub remembered_of : (st : List ℕ) (cs : List Call) → Kept s Z n st → Plain cs → Remembered s Z n m st cs →
        CellRemembered next_counter steps_most (sent_of s m) (cells_of s Z st n) (events_in s Z st cs)
    remembered_of st cs k pl u p q i e r =
        let o = origin s Z cs st p (forgets i) q e in
        let b = by_forgets s Z (store_after s Z st o.earlier) o.call i o.ahead o.behind o.its in
        let d : after next_counter steps_most (cells_of s Z st n) p ≡ cells_of s Z (store_after s Z st o.earlier) n =
        ap (after next_counter steps_most (cells_of s Z st n))
        (o.before_it ∙ ap (λ (l : List Event). events_in s Z st o.earlier ++ l) b.0 ∙ append-nil (events_in s Z st o.earlier))
        ∙ sym (run_cells s Z n o.earlier st k (plain_at cs o.earlier o.others o.call o.place pl).0) in
        u o.earlier o.others i (o.place ∙ ap (λ (x : Call). o.earlier ++ x ∷ o.others) b.1)
        (of_record (store_after s Z st o.earlier) i (subst (λ (l : List Cell). CellRecordAt next_counter steps_most (sent_of s m) l i) d r))

    -- and the other way
    pub of_remembered : (st : List ℕ) (cs : List Call) → Kept s Z n st → Plain cs →
        CellRemembered next_counter steps_most (sent_of s m) (cells_of s Z st n) (events_in s Z st cs) → Remembered s Z n m st cs
    unfolding events_in
    of_remembered st cs k pl u x y i e r =
        u (events_in s Z st x) (events_in s Z (store_by s Z (store_after s Z st x) (forgetting i)) y) i
        (ap (events_in s Z st) e ∙ events_append s Z x (forgetting i ∷ y) st)
        (subst (λ (l : List Cell). CellRecordAt next_counter steps_most (sent_of s m) l i) (run_cells s Z n x st k (plain_at cs x y (forgetting i) e pl).0) (record_of_lem (store_after s Z st x) i r))

  module _ (one : 1 ≤ Z) (z : InUse s n) where
    abbrev zeros : List ℕ
    zeros = empty_store Z n

    -- the cells after calls from the empty store on
    pub behind_cells : (cs : List Call) → Plain cs → cells_of s Z (store_behind s Z n cs) n ≡ after next_counter steps_most (empty n) (events_in s Z zeros cs)
    behind_cells cs o =
        run_cells s Z n cs zeros (begins s Z n one z) o
        ∙ ap (λ (l : List Cell). after next_counter steps_most l (events_in s Z zeros cs)) (empty_cells s Z n)

    pub behind_keeps : (cs : List Call) → Plain cs → Kept s Z n (store_behind s Z n cs)
    behind_keeps cs o = run_keeps s Z n cs zeros (begins s Z n one z) o

    pub room_of_lem : (cs : List Call) → Plain cs → Room s Z n cs → CellRoom next_counter steps_most (empty n) (events_in s Z zeros cs)
    unfolding seg_of
    room_of_lem cs pl g p q t e out new =
        let o = origin s Z cs zeros p (arrives t) q e in
        let b = by_arrives s Z (store_behind s Z n o.earlier) o.call t o.ahead o.behind o.its in
        let v = b.1 in
        let r = event_reads s Z v.0 t v.2 in
        let c : after next_counter steps_most (empty n) p ≡ cells_of s Z (store_behind s Z n o.earlier) n =
        ap (after next_counter steps_most (empty n))
        (o.before_it ∙ ap (λ (l : List Event). events_in s Z zeros o.earlier ++ l) b.0 ∙ append-nil (events_in s Z zeros o.earlier))
        ∙ sym (behind_cells o.earlier (plain_at cs o.earlier o.others o.call o.place pl).0) in
        let f =
        g o.earlier o.others o.call v.0 o.place v.1 r.0.accepted r.0.segmented r.1
        (ap (λ (x : Seg). untaken_to s Z (store_behind s Z n o.earlier) n x.key x.counter) r.0.segment
        ∙ untaken_is s Z (store_behind s Z n o.earlier) n t.key t.counter
        ∙ ap not (ap (λ (l : List Cell). recorded next_counter l t.key t.counter) (sym c) ∙ out))
        (ap (λ (x : Seg). look (cells_of s Z (store_behind s Z n o.earlier) n) x.key x.counter) r.0.segment
        ∙ ap (λ (l : List Cell). look l t.key t.counter) (sym c)
        ∙ new) in
        ap has_free c ∙ f

    -- a message told anew by the calls is told anew by the events
    pub anew_of : (m : Sending) → IsCut s Z m → (cs : List Call) → Plain cs → Anew s Z n m cs →
        CellAnew next_counter steps_most n (sent_of s m) (events_in s Z zeros cs)
    unfolding events_in
    anew_of m c cs pl fresh = cell_fresh
    anew_of m c cs pl (forgot x i r) =
        subst (CellAnew next_counter steps_most n (sent_of s m)) (sym d)
        (cell_forgot (events_in s Z zeros x) i
        (subst (λ (l : List Cell). CellRecordAt next_counter steps_most (sent_of s m) l i) (behind_cells x (plain_left x (forgetting i ∷ []) pl)) (record_of_lem m c (store_behind s Z n x) i r)))
      where
        d : events_in s Z zeros (x ++ forgetting i ∷ []) ≡ events_in s Z zeros x ++ forgets i ∷ []
        d = events_append s Z x (forgetting i ∷ []) zeros
