-- A joining that completes a message hands it out; joinings, and forgettings between them, leave nothing complete in the store.
-- Assumes nothing.
use Prim.Native.Nat.{ℕ, ◌≤◌}
use mathlib.Core.Path.{◌≡◌, refl, ap, sym, ◌∙◌, subst}
use mathlib.Core.Logic.{◌≢◌, ◌⊎◌, inl, inr}
use mathlib.Core.Bool.{true}
use mathlib.Core.Option.{Option, none, some}
use mathlib.Core.List.Memᴰ
use mathlib.Core.List.{List, [], ◌∷◌, ◌++◌, append_assoc, append-nil, Memᴰ}
use native.Mathlib.Omega.{arith}
use Rattle.octets.specs.Octets.{Octets}
use Rattle.walk.specs.declared.Settings.{Settings}
use Rattle.packet.specs.Numbers.{next_counter, steps_most}
use Rattle.cells.specs.Order.{cell_size}
use Rattle.cells.specs.Messages.{Run, picked}
use Rattle.cells.proofs.Empty.{empty_cells}
use Rattle.taking.specs.Taking.{unable}
use Rattle.demand3.specs.Cells.{has_free}
use Rattle.demand3.specs.Traffic.{empty}
use Rattle.demand3.specs.Calls.{Call, arrival, joining, forgetting, Brings, Handed, Plain, arrived_store, store_by, store_after, took_by}
use Rattle.demand3.specs.Sendings.{IsCut}
use Rattle.demand3.specs.Presupposed.{empty_store, store_behind, cells_in, AllCame, MayCome, Traffic, Room, Given}
use Rattle.demand3.specs.Whole.{IsComplete, Picks, Delivery}
use Rattle.demand3.specs.Joins.{NoneComplete, WholeJoining, WholeNoneLeft, WholeOnlyJoins}
use Rattle.demand3.proofs.Finds.{picked_held}
use Rattle.demand3.proofs.Takings.{held_empty}
use Rattle.demand3.proofs.Events.{append_split, one_split, store_append}
use Rattle.demand3.proofs.Now.{untaken_more, traffic_more, store_more}
use Rattle.demand3.proofs.Whole.{whole_demand3, whole_soundness}
use Rattle.demand3.proofs.Plain.{Pure, plain_at}
use Rattle.demand3.proofs.JoinsAt.{none_forgotten, none_after, completes_picks}

-- ---- a list of calls with one more

last_is : (l : List Call) (c d : Call) → Memᴰ d (l ++ c ∷ []) → Memᴰ d l ⊎ (d ≡ c)
last_is l c d h = go (Memᴰ.append_cases l h)
  where
    only : (d ≡ c) ⊎ Memᴰ d [] → Memᴰ d l ⊎ (d ≡ c)
    only (inl e) = inr e
    only (inr k) = absurd (Memᴰ.not-nil k)

    go : Memᴰ d l ⊎ Memᴰ d (c ∷ []) → Memᴰ d l ⊎ (d ≡ c)
    go (inl k) = inl k
    go (inr k) = only (Memᴰ.cases_cons k)

-- the packet of a joining
pub joining_brings : (p out q : List ℕ) (c : Call) → c ≡ joining p out → Brings q c → q ≡ p
joining_brings p out q c e (inl d) =
    let f : joining p out ≡ arrival q = sym e ∙ d in
    let z : ◌≡◌ {A = ℕ} 0 1 = cc f in
    absurd (omega arith)
joining_brings p out q c e (inr d) = let f : joining p out ≡ joining q d.0 = sym e ∙ d.1 in cc f

-- a packet that one more joining brought is brought by an arrival as well
handed_arrival : (l : List Call) (p out q : List ℕ) → Handed q (l ++ joining p out ∷ []) → Handed q (l ++ arrival p ∷ [])
handed_arrival l p out q h = go (last_is l (joining p out) h.0 h.1)
  where
    go : Memᴰ h.0 l ⊎ (h.0 ≡ joining p out) → Handed q (l ++ arrival p ∷ [])
    go (inl k) = (h.0, Memᴰ.append_left (arrival p ∷ []) k, h.2)
    go (inr e) =
        let d : q ≡ p = joining_brings p out q h.0 e h.2 in
        (arrival p, Memᴰ.append_right l (Memᴰ.head refl), inl (ap arrival (sym d)))

-- and so the room for it
room_arrival : (s : Settings) (Z n : ℕ) (l : List Call) (p out : List ℕ) → Room s Z n (l ++ joining p out ∷ []) → Room s Z n (l ++ arrival p ∷ [])
room_arrival s Z n l p out g x y c q e b ok seg fit free new = go (append_split l (arrival p ∷ []) x c y e)
  where
    same : (c' : Call) → arrival p ≡ c' → Brings q c' → q ≡ p
    same c' d (inl f) = let k : arrival p ≡ arrival q = d ∙ f in cc k
    same c' d (inr f) =
        let k : arrival p ≡ joining q f.0 = d ∙ f.1 in
        let z : ◌≡◌ {A = ℕ} 0 1 = cc k in
        absurd (omega arith)

    go : ((v : List Call) × (l ≡ x ++ c ∷ v)) ⊎ ((w : List Call) × (x ≡ l ++ w) × (arrival p ∷ [] ≡ w ++ c ∷ y)) →
        has_free (cells_in s Z n (store_behind s Z n x)) ≡ true
    go (inl v) =
        g x (v.0 ++ joining p out ∷ []) c q
        (ap (λ (k : List Call). k ++ joining p out ∷ []) v.1 ∙ append_assoc x (c ∷ v.0) (joining p out ∷ [])) b ok seg fit free new
    go (inr w) =
        let a = one_split (arrival p) c w.0 y w.2 in
        let d : q ≡ p = same c a.1 b in
        let f : x ≡ l = w.1 ∙ ap (λ (k : List Call). l ++ k) a.0 ∙ append-nil l in
        g x [] (joining p out) q (ap (λ (k : List Call). k ++ joining p out ∷ []) (sym f)) (inr (out, ap (λ (k : List ℕ). joining k out) (sym d))) ok seg fit free new

-- ---- the laws

empty_none : (n : ℕ) → picked next_counter steps_most (empty n) ≡ none
empty_none n = go (picked next_counter steps_most (empty n)) refl
  where
    go : (o : Option Run) → picked next_counter steps_most (empty n) ≡ o → picked next_counter steps_most (empty n) ≡ none
    go none e = e
    go (some r) e = absurd (held_empty n r.head (picked_held next_counter steps_most (empty n) r e))

module _ (Z : ℕ) (one : 1 ≤ Z) where
  -- nothing is complete in an empty store
  none_begins : (s : Settings) (n : ℕ) → NoneComplete s Z n (store_behind s Z n [])
  unfolding store_after
  none_begins s n = ap (picked next_counter steps_most) (empty_cells s Z n) ∙ empty_none n

  none_left : WholeNoneLeft Z
  unfolding store_after
  none_left s n u l p out o plain e f =
      ap (λ (x : List ℕ). picked next_counter steps_most (cells_in s Z n x)) (store_append s Z l (joining p out ∷ []) (empty_store Z n)) ∙ none_after Z one s n u l o p out plain e f

  only_joins : WholeOnlyJoins Z
  unfolding store_after store_by
  only_joins s n u l g = on l [] refl (none_begins s n)
    where
      on : (y x : List Call) → l ≡ x ++ y → NoneComplete s Z n (store_behind s Z n x) → NoneComplete s Z n (store_behind s Z n l)
      on [] x e h = subst (λ (k : List Call). NoneComplete s Z n (store_behind s Z n k)) (sym (e ∙ append-nil x)) h
      on (c ∷ y) x e h = on y (x ++ c ∷ []) (e ∙ sym (append_assoc x (c ∷ []) y)) (by (g.joins x y c e))
        where
          f : Plain x × Pure c
          f = plain_at l x y c e g.octets

          by : ((p : List ℕ) × (out : List ℕ) × (c ≡ joining p out)) ⊎ ((i : ℕ) × (c ≡ forgetting i)) →
              NoneComplete s Z n (store_behind s Z n (x ++ c ∷ []))
          by (inl j) =
              subst (λ (d : Call). NoneComplete s Z n (store_behind s Z n (x ++ d ∷ []))) (sym j.2)
              (none_left s n u x j.0 j.1 f.0 (f.1 j.0 (inr (j.1, j.2))) h
              (subst (λ (d : Call). took_by s Z (store_behind s Z n x) d ≢ some (unable 21)) j.2 (g.long x y c e)))
          by (inr j) =
              subst (λ (d : Call). NoneComplete s Z n (store_behind s Z n (x ++ d ∷ []))) (sym j.1)
              (subst (NoneComplete s Z n) (sym (store_append s Z x (forgetting j.0 ∷ []) (empty_store Z n))) (none_forgotten Z one s n u x f.0 h j.0))

  joining_whole : WholeJoining Z
  joining_whole s n u ms m first since p out g = (v.1.takes c brings).enough picks g.enough
    where
      l : List Call
      l = first ++ since

      c : Call
      c = joining p out

      k : IsCut s Z m
      k = g.given.traffic.cut m g.sent

      into : (q : List ℕ) → Handed q l → Handed q (l ++ c ∷ [])
      into q h = (h.0, Memᴰ.append_left (c ∷ []) h.1, h.2)

      traffic : Traffic s Z ms l
      traffic =
          let t = g.given.traffic in
          record { cut = t.cut; apart = t.apart; octets = λ q h. t.octets q (into q h); packets = λ q h. t.packets q (into q h) }

      its : Handed p (l ++ c ∷ [])
      its = (c, Memᴰ.append_right l (Memᴰ.head refl), inr (out, refl))

      plain : Octets p
      plain = g.given.traffic.octets p its

      may : MayCome s Z ms p
      may = g.given.traffic.packets p its

      brings : (q : List ℕ) → Brings q c → Octets q × MayCome s Z ms q
      brings q b =
          let e : p ≡ q = sym (joining_brings p out q c refl b) in
          (subst Octets e plain, subst (MayCome s Z ms) e may)

      -- with an arrival in the place of the joining
      given' : Given s Z n ms (first ++ (since ++ arrival p ∷ []))
      given' =
          record {
            traffic = traffic_more Z one s n u ms m g.sent first g.anew since traffic p plain may;
            room = subst (Room s Z n) (append_assoc first since (arrival p ∷ [])) (room_arrival s Z n l p out g.given.room);
          }

      all' : AllCame s m (since ++ arrival p ∷ [])
      all' i h = let a = g.all i h in (a.0, handed_arrival since p out a.0 a.1, a.2)

      complete : IsComplete s Z n m (arrived_store s Z (store_behind s Z n l) p)
      complete =
          subst (IsComplete s Z n m) (store_more Z one s n u ms m g.sent first g.anew since p)
          ((whole_demand3 Z one s n u ms first (since ++ arrival p ∷ []) given' m g.sent g.anew
          (untaken_more s Z m (store_behind s Z n first) since p g.untaken)).complete.1 all')

      picks : Picks s Z n m (store_behind s Z n l) c
      picks = completes_picks Z one s n u l traffic.octets p out plain g.nothing m k complete

      v : (IsComplete s Z n m (store_behind s Z n l) → AllCame s m since) × Delivery s Z n ms m (store_behind s Z n l)
      v = whole_soundness Z one s n u ms first since traffic m g.sent g.anew

-- ---- cells of 1,024 octets

pub joining·whole : WholeJoining cell_size
joining·whole = joining_whole cell_size (omega arith)

pub none_left·whole : WholeNoneLeft cell_size
none_left·whole = none_left cell_size (omega arith)

pub only_joins·whole : WholeOnlyJoins cell_size
only_joins·whole = only_joins cell_size (omega arith)
