-- A message at the store after some calls, from demand 3 over cells: what of the promise holds without the room, and what with it.
-- Assumes nothing.
use Prim.Native.Nat.{ℕ, ◌≤◌}
use mathlib.Core.Path.{◌≡◌, refl, ap, sym, ◌∙◌, subst}
use mathlib.Core.Logic.{◌⊎◌, inl, inr}
use mathlib.Core.Option.{none, some}
use mathlib.Core.List.Memᴰ
use mathlib.Core.List.{List, [], ◌∷◌, ◌++◌, map, append_assoc, Memᴰ}
use native.Mathlib.Omega.{arith}
use Rattle.octets.specs.Octets.{Octets}
use Rattle.walk.specs.declared.Settings.{Settings}
use Rattle.packet.specs.Numbers.{next_counter, steps_most}
use Rattle.cells.specs.Rows.{Cell}
use Rattle.taking.specs.Taking.{message}
use Rattle.demand3.specs.Traffic.{Event, arrives, empty, after, Room as CellRoom}
use Rattle.demand3.specs.Promise.{Gives, Output, Handed as CellHanded, AllCame as CellAllCame, Untaken as CellUntaken, Delivery as CellDelivery, Promise as CellPromise}
use Rattle.demand3.specs.Base.{CompleteFrom, Done01, Traffic01}
use Rattle.demand3.specs.Calls.{Call, arrival, taking, joining, forgetting, Brings, Handed, Plain, arrived_store, store_at, took_by, store_by, store_after}
use Rattle.demand3.specs.Sendings.{Sending, key_in, start_of, steps_to, IsCut}
use Rattle.demand3.specs.Presupposed.{MayCome, Traffic, Untaken, InUse, empty_store, store_behind, cells_in, Anew}
use Rattle.demand3.specs.Whole.{IsComplete, Takes, HandsOut, Delivery}
use Rattle.demand3.proofs.Base.{demand3·01, soundness01}
use Rattle.demand3.proofs.Sents.{sent_of, end_is}
use Rattle.demand3.proofs.Steps.{Kept}
use Rattle.demand3.proofs.Events.{append_split, one_split, events_in, store_append, events_append}
use Rattle.demand3.proofs.Simulates.{at_keeps, run_keeps, run_cells}
use Rattle.demand3.proofs.Carried.{traffic_of, untaken_of, behind_cells, behind_keeps, anew_of}
use Rattle.demand3.proofs.Plain.{plain_left, plain_right, plain_both, plain_first, plain_arrival}
use Rattle.demand3.proofs.Delivers.{takes_of, idle_takes, hands_of}

-- a packet handed over by some calls or by one more
pub handed_more : (l : List Call) (p q : List ℕ) → Handed q (l ++ arrival p ∷ []) → Handed q l ⊎ (q ≡ p)
handed_more l p q h = go (Memᴰ.append_cases l h.1)
  where
    same : arrival p ≡ h.0 → Brings q h.0 → q ≡ p
    same e (inl d) = let f : arrival p ≡ arrival q = e ∙ d in cc f
    same e (inr d) =
        let f : arrival p ≡ joining q d.0 = e ∙ d.1 in
        let z : ◌≡◌ {A = ℕ} 0 1 = cc f in
        absurd (omega arith)

    only : (h.0 ≡ arrival p) ⊎ Memᴰ h.0 [] → q ≡ p
    only (inl e) = same (sym e) h.2
    only (inr k) = absurd (Memᴰ.not-nil k)

    go : Memᴰ h.0 l ⊎ Memᴰ h.0 (arrival p ∷ []) → Handed q l ⊎ (q ≡ p)
    go (inl k) = inl (h.0, k, h.2)
    go (inr k) = inr (only (Memᴰ.cases_cons k))

-- the store after one arrival more
pub arrived_more : (s : Settings) (Z : ℕ) (st : List ℕ) (l : List Call) (p : List ℕ) →
    store_after s Z st (l ++ arrival p ∷ []) ≡ arrived_store s Z (store_after s Z st l) p
unfolding store_after store_by
arrived_more s Z st l p = store_append s Z l (arrival p ∷ []) st

-- which takes nothing
pub untaken_more : (s : Settings) (Z : ℕ) (m : Sending) (st : List ℕ) (l : List Call) (p : List ℕ) → Untaken s Z m st l →
    Untaken s Z m st (l ++ arrival p ∷ [])
unfolding took_by
untaken_more s Z m st l p u x y c e t = go (append_split l (arrival p ∷ []) x c y e)
  where
    nothing : (c' : Call) → arrival p ≡ c' → took_by s Z (store_after s Z st x) c' ≡ some (message t.0) → ⊥
    nothing c' d f =
        let g : none ≡ some (message t.0) = ap (took_by s Z (store_after s Z st x)) d ∙ f in
        let z : ◌≡◌ {A = ℕ} 0 1 = cc g in
        omega arith

    go : ((v : List Call) × (l ≡ x ++ c ∷ v)) ⊎ ((w : List Call) × (x ≡ l ++ w) × (arrival p ∷ [] ≡ w ++ c ∷ y)) → ⊥
    go (inl v) = u x v.0 c v.1 t
    go (inr w) = nothing c (one_split (arrival p) c w.0 y w.2).1 t.1

module _ (Z : ℕ) (one : 1 ≤ Z) (s : Settings) (n : ℕ) (u : InUse s n) where
  abbrev zeros : List ℕ
  zeros = empty_store Z n

  -- complete by the message's steps, and by those of its segments
  pub done_of_lem : (m : Sending) → IsCut s Z m → (l : List Cell) → CompleteFrom l (key_in s m) (start_of s m) (steps_to s m) → Done01 (sent_of s m) l
  done_of_lem m k l d = subst (CompleteFrom l (key_in s m) (start_of s m)) (sym (end_is s Z m k)) d

  pub of_done : (m : Sending) → IsCut s Z m → (l : List Cell) → Done01 (sent_of s m) l → CompleteFrom l (key_in s m) (start_of s m) (steps_to s m)
  of_done m k l d = subst (CompleteFrom l (key_in s m) (start_of s m)) (end_is s Z m k) d

  module _ (ms : List Sending) (m : Sending) (h : Memᴰ m ms) (first : List Call) (a : Anew s Z n m first) where
    module _ (since : List Call) where
      abbrev now : List ℕ
      now = store_behind s Z n (first ++ since)

      abbrev es : List Event
      es = events_in s Z zeros first ++ events_in s Z (store_behind s Z n first) since

      events_are : events_in s Z zeros (first ++ since) ≡ es
      events_are = events_append s Z first since zeros

      cells_are : Plain (first ++ since) → cells_in s Z n now ≡ after next_counter steps_most (empty n) es
      cells_are o = behind_cells s Z n one u (first ++ since) o ∙ ap (after next_counter steps_most (empty n)) events_are

      pub kept_now : Plain (first ++ since) → Kept s Z n now
      kept_now o = behind_keeps s Z n one u (first ++ since) o

      module _ (g : Traffic s Z ms (first ++ since)) where
        pub traffic_now : Traffic01 (map (sent_of s) ms) es
        traffic_now =
            traffic_of s Z ms (first ++ since) g zeros es (λ t k. subst (Memᴰ (arrives t)) (sym events_are) k)

        -- without the room
        pub sound_now : (Done01 (sent_of s m) (cells_in s Z n now) → CellAllCame next_counter (sent_of s m) (events_in s Z (store_behind s Z n first) since)) ×
            CellDelivery next_counter steps_most (Done01 (sent_of s m)) n (sent_of s m) (cells_in s Z n now)
        sound_now =
            subst
            (λ (l : List Cell). (Done01 (sent_of s m) l → CellAllCame next_counter (sent_of s m) (events_in s Z (store_behind s Z n first) since)) ×
            CellDelivery next_counter steps_most (Done01 (sent_of s m)) n (sent_of s m) l)
            (sym (cells_are g.octets))
            (soundness01 n (map (sent_of s) ms) (events_in s Z zeros first) (events_in s Z (store_behind s Z n first) since) traffic_now (sent_of s m)
            (Memᴰ.map (sent_of s) h) (anew_of s Z n one u m (g.cut m h) first (plain_left first since g.octets) a))

        -- with it
        pub promise_now : CellRoom next_counter steps_most (empty n) (events_in s Z zeros (first ++ since)) → Untaken s Z m (store_behind s Z n first) since →
            CellPromise next_counter steps_most (Done01 (sent_of s m)) n (sent_of s m) (events_in s Z (store_behind s Z n first) since) (cells_in s Z n now)
        promise_now r w =
            subst
            (CellPromise next_counter steps_most (Done01 (sent_of s m)) n (sent_of s m) (events_in s Z (store_behind s Z n first) since))
            (sym (cells_are g.octets))
            (demand3·01 n (map (sent_of s) ms) (events_in s Z zeros first) (events_in s Z (store_behind s Z n first) since)
            (record { traffic = traffic_now; room = subst (CellRoom next_counter steps_most (empty n)) events_are r })
            (sent_of s m) (Memᴰ.map (sent_of s) h) (anew_of s Z n one u m (g.cut m h) first (plain_left first since g.octets) a)
            (subst
            (λ (l : List Cell). CellUntaken next_counter steps_most (sent_of s m) l (events_in s Z (store_behind s Z n first) since))
            (behind_cells s Z n one u first (plain_left first since g.octets))
            (untaken_of s Z n m (store_behind s Z n first) since (behind_keeps s Z n one u first (plain_left first since g.octets))
            (plain_right first since g.octets) w)))

    -- one packet more
    pub traffic_more : (since : List Call) → Traffic s Z ms (first ++ since) → (p : List ℕ) → Octets p → MayCome s Z ms p →
        Traffic s Z ms (first ++ (since ++ arrival p ∷ []))
    traffic_more since g p o c =
        subst (Traffic s Z ms) (append_assoc first since (arrival p ∷ []))
        (record {
          cut = g.cut;
          apart = g.apart;
          octets = λ q k. octets' q (handed_more (first ++ since) p q k);
          packets = λ q k. packets' q (handed_more (first ++ since) p q k);
        })
      where
        octets' : (q : List ℕ) → Handed q (first ++ since) ⊎ (q ≡ p) → Octets q
        octets' q (inl k) = g.octets q k
        octets' q (inr e) = subst Octets (sym e) o

        packets' : (q : List ℕ) → Handed q (first ++ since) ⊎ (q ≡ p) → MayCome s Z ms q
        packets' q (inl k) = g.packets q k
        packets' q (inr e) = subst (MayCome s Z ms) (sym e) c

    pub store_more : (since : List Call) (p : List ℕ) →
        store_behind s Z n (first ++ (since ++ arrival p ∷ [])) ≡ arrived_store s Z (store_behind s Z n (first ++ since)) p
    store_more since p =
        ap (store_behind s Z n) (sym (append_assoc first since (arrival p ∷ []))) ∙ arrived_more s Z zeros (first ++ since) p

    -- its taking
    pub delivery_now : (since : List Call) → Traffic s Z ms (first ++ since) → Delivery s Z n ms m (store_behind s Z n (first ++ since))
    delivery_now since g =
        record {
          takes = takes';
          handed = λ d. hands_of s Z n m k st kept (v.handed (done_of_lem m k (cells_in s Z n st) d));
          lasts = lasts';
        }
      where
        k : IsCut s Z m
        k = g.cut m h

        st : List ℕ
        st = store_behind s Z n (first ++ since)

        kept : Kept s Z n st
        kept = kept_now since g.octets

        v : CellDelivery next_counter steps_most (Done01 (sent_of s m)) n (sent_of s m) (cells_in s Z n st)
        v = (sound_now since g).1

        -- after one packet more
        more_takes : (p : List ℕ) → Octets p × MayCome s Z ms p →
            Gives next_counter steps_most (sent_of s m) (cells_in s Z n (arrived_store s Z st p)) × Output next_counter steps_most (sent_of s m) (cells_in s Z n (arrived_store s Z st p))
        more_takes p o =
            let w = (sound_now (since ++ arrival p ∷ []) (traffic_more since g p o.0 o.1)).1 in
            subst (λ (x : List ℕ). Gives next_counter steps_most (sent_of s m) (cells_in s Z n x) × Output next_counter steps_most (sent_of s m) (cells_in s Z n x))
            (store_more since p) (w.gives, w.output)

        takes' : (c : Call) → ((p : List ℕ) → Brings p c → Octets p × MayCome s Z ms p) → Takes s Z n m st c
        takes' (arrival p) f =
            let w = more_takes p (f p (inl refl)) in
            takes_of s Z n m k st (arrival p) (at_keeps s Z n st kept (arrival p) (λ q b. (f q b).0)) w.0 w.1
        takes' (taking out) f = takes_of s Z n m k st (taking out) kept v.gives v.output
        takes' (forgetting i) f = idle_takes s Z n m k st (forgetting i) refl
        takes' (joining p out) f =
            let w = more_takes p (f p (inr (out, refl))) in
            takes_of s Z n m k st (joining p out) (at_keeps s Z n st kept (joining p out) (λ q b. (f q b).0)) w.0 w.1

        -- after more calls
        done_then : IsComplete s Z n m st → (more : List Call) → Plain more → Untaken s Z m st more →
            Done01 (sent_of s m) (cells_in s Z n (store_after s Z st more)) × Gives next_counter steps_most (sent_of s m) (cells_in s Z n (store_after s Z st more)) ×
            Output next_counter steps_most (sent_of s m) (cells_in s Z n (store_after s Z st more)) ×
            CellHanded next_counter steps_most n (sent_of s m) (cells_in s Z n (store_after s Z st more))
        done_then d more pl w =
            subst
            (λ (l : List Cell). Done01 (sent_of s m) l × Gives next_counter steps_most (sent_of s m) l × Output next_counter steps_most (sent_of s m) l ×
            CellHanded next_counter steps_most n (sent_of s m) l)
            (sym (run_cells s Z n more st kept pl))
            (v.lasts (done_of_lem m k (cells_in s Z n st) d) (events_in s Z st more) (untaken_of s Z n m st more kept pl w))

        takes_then : IsComplete s Z n m st → (more : List Call) → Plain more → Untaken s Z m st more → (c : Call) → Plain (c ∷ []) →
            Takes s Z n m (store_after s Z st more) c
        takes_then d more pl w = at_then
          where
            with_packet : (p : List ℕ) → Octets p →
                Gives next_counter steps_most (sent_of s m) (cells_in s Z n (arrived_store s Z (store_after s Z st more) p)) ×
                Output next_counter steps_most (sent_of s m) (cells_in s Z n (arrived_store s Z (store_after s Z st more) p))
            with_packet p q =
                let y = done_then d (more ++ arrival p ∷ []) (plain_both more (arrival p ∷ []) pl (plain_arrival p q)) (untaken_more s Z m st more p w) in
                subst (λ (x : List ℕ). Gives next_counter steps_most (sent_of s m) (cells_in s Z n x) × Output next_counter steps_most (sent_of s m) (cells_in s Z n x))
                (arrived_more s Z st more p) (y.1, y.2)

            then : List ℕ
            then = store_after s Z st more

            kept_then : Kept s Z n then
            kept_then = run_keeps s Z n more st kept pl

            by_packet : (c : Call) (p : List ℕ) → Plain (c ∷ []) → Brings p c → store_at s Z then c ≡ arrived_store s Z then p → Takes s Z n m then c
            by_packet c p o b e =
                let x =
                subst (λ (y : List ℕ). Gives next_counter steps_most (sent_of s m) (cells_in s Z n y) × Output next_counter steps_most (sent_of s m) (cells_in s Z n y))
                (sym e) (with_packet p (plain_first c [] o p b)) in
                takes_of s Z n m k then c (at_keeps s Z n then kept_then c (plain_first c [] o)) x.0 x.1

            at_then : (c : Call) → Plain (c ∷ []) → Takes s Z n m then c
            at_then (arrival p) o = by_packet (arrival p) p o (inl refl) refl
            at_then (taking out) o = let y = done_then d more pl w in takes_of s Z n m k then (taking out) kept_then y.1 y.2
            at_then (joining p out) o = by_packet (joining p out) p o (inr (out, refl)) refl
            at_then (forgetting i) o = idle_takes s Z n m k then (forgetting i) refl

        lasts' : IsComplete s Z n m st → (more : List Call) → Plain more → Untaken s Z m st more →
            IsComplete s Z n m (store_after s Z st more) × ((c : Call) → Plain (c ∷ []) → Takes s Z n m (store_after s Z st more) c) ×
            HandsOut s Z n m (store_after s Z st more)
        lasts' d more pl w =
            let x = done_then d more pl w in (
              of_done m k (cells_in s Z n (store_after s Z st more)) x.0,
              takes_then d more pl w,
              hands_of s Z n m k (store_after s Z st more) (run_keeps s Z n more st kept pl) x.3,
            )
