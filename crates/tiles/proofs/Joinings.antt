-- A recording's packets as calls that demand 3 speaks of: a packet of at most 32,768 octets is joined, with 65,536 octets of output, after
-- a forgetting if there was no room for it. The store along the packets is the store after these calls, and the packets handed over are the
-- recording's.
-- Assumes nothing.
use Prim.Native.Nat.{ℕ}
use mathlib.Core.Path.{◌≡◌, refl, ap, sym, ◌∙◌}
use mathlib.Core.Logic.{◌⊎◌, inl, inr}
use mathlib.Core.Bool.{Bool, true, false}
use mathlib.Core.List.Memᴰ
use mathlib.Core.List.{List, [], ◌∷◌, ◌++◌, append_assoc, append-nil, Memᴰ}
use native.Mathlib.Omega.{arith}
use lib.ListN.{length, replicate, length-replicate}
use lib.Dec.{leb}
use Rattle.octets.specs.Octets.{pick}
use Rattle.walk.specs.declared.Settings.{Settings}
use Rattle.cells.specs.Order.{count_in}
use Rattle.taking.specs.Forgetting.{lowest_record}
use Rattle.join.specs.Joining.{store_joined, joining as joining_of}
use Rattle.steps.specs.Stepping.{longest, room, is_full, unrecorded, roomed, store_after as step_store}
use Rattle.recording.specs.Recording.{cell_count, empty_store}
use Rattle.demand3.specs.Calls.{Call, arrival, joining, forgetting, Brings, Handed, store_by, store_after}
use Rattle.demand3.specs.Presupposed.{store_behind}
use Rattle.demand3.proofs.Joins.{joining_brings}
use Rattle.demand3.proofs.Events.{append_split, one_split, none_split, store_append}
use Rattle.tiles.specs.Along.{store_from}
use Rattle.tiles.proofs.Framing.{Z}

-- ---- the calls

-- the output that is lent to each
unfoldable pub output : List ℕ
output = replicate room 0

pub output_long : length output ≡ room
unfolding output
output_long = length-replicate {A = ℕ} room 0

abbrev pub short : List ℕ → Bool
short p = leb (length p) longest

module _ (s : Settings) where
  -- if a packet finds no room, the record in the lowest cell is forgotten first
  abbrev pub forgets_for : List ℕ → List ℕ → List Call
  forgets_for st p = pick (is_full (joining_of s Z st p room)) (forgetting (lowest_record s Z st (count_in Z st)) ∷ []) []

  abbrev call_for : List ℕ → List ℕ → List Call
  call_for st p = pick (short p) (forgets_for st p ++ joining p output ∷ []) []

  unfoldable pub calls_from : List ℕ → List (List ℕ) → List Call
  calls_from st [] = []
  calls_from st (p ∷ ps) = call_for st p ++ calls_from (step_store s Z st p) ps

  -- from the empty store on
  abbrev pub calls_of : List (List ℕ) → List Call
  calls_of ps = calls_from empty_store ps

  calls_append : (a b : List (List ℕ)) (st : List ℕ) → calls_from st (a ++ b) ≡ calls_from st a ++ calls_from (store_from s st a) b
  unfolding calls_from store_from
  calls_append [] b st = refl
  calls_append (p ∷ a) b st =
      ap (λ (l : List Call). call_for st p ++ l) (calls_append a b (step_store s Z st p))
      ∙ sym (append_assoc (call_for st p) (calls_from (step_store s Z st p) a) (calls_from (store_from s (step_store s Z st p) a) b))

  -- ---- the store along the packets

  -- that a packet is joined to
  pub forgets_store : (st p : List ℕ) → store_after s Z st (forgets_for st p) ≡ roomed s Z st p
  unfolding store_after store_by roomed
  forgets_store st p = go (is_full (joining_of s Z st p room))
    where
      go : (b : Bool) → store_after s Z st (pick b (forgetting (lowest_record s Z st (count_in Z st)) ∷ []) []) ≡ pick b (unrecorded s Z st) st
      go true = refl
      go false = refl

  call_store : (st p : List ℕ) → store_after s Z st (call_for st p) ≡ step_store s Z st p
  unfolding store_after store_by step_store
  call_store st p = go (short p)
    where
      go : (b : Bool) → store_after s Z st (pick b (forgets_for st p ++ joining p output ∷ []) []) ≡ pick b (store_joined s Z (roomed s Z st p) p room) st
      go true =
          store_append s Z (forgets_for st p) (joining p output ∷ []) st
          ∙ ap (λ (x : List ℕ). store_joined s Z x p (length output)) (forgets_store st p)
          ∙ ap (store_joined s Z (roomed s Z st p) p) output_long
      go false = refl

  calls_from_lem : (ps : List (List ℕ)) (st : List ℕ) → store_after s Z st (calls_from st ps) ≡ store_from s st ps
  unfolding calls_from store_from store_after
  calls_from_lem [] st = refl
  calls_from_lem (p ∷ ps) st =
      store_append s Z (call_for st p) (calls_from (step_store s Z st p) ps) st
      ∙ ap (λ (x : List ℕ). store_after s Z x (calls_from (step_store s Z st p) ps)) (call_store st p)
      ∙ calls_from_lem ps (step_store s Z st p)

  pub calls_store : (ps : List (List ℕ)) → store_behind s Z cell_count (calls_of ps) ≡ store_from s empty_store ps
  calls_store ps = calls_from_lem ps empty_store

  -- the calls before a packet is joined, and the store then
  abbrev pub calls_to : List (List ℕ) → List ℕ → List Call
  calls_to ps p = calls_of ps ++ forgets_for (store_from s empty_store ps) p

  pub to_store : (ps : List (List ℕ)) (p : List ℕ) → store_behind s Z cell_count (calls_to ps p) ≡ roomed s Z (store_from s empty_store ps) p
  to_store ps p =
      store_append s Z (calls_of ps) (forgets_for (store_from s empty_store ps) p) empty_store
      ∙ ap (λ (x : List ℕ). store_after s Z x (forgets_for (store_from s empty_store ps) p)) (calls_store ps)
      ∙ forgets_store (store_from s empty_store ps) p

  -- ---- where a call comes from

  pub record CallAt (st : List ℕ) (ps : List (List ℕ)) (x : List Call) (c : Call) : Type 0 where
    pub before : List (List ℕ)
    pub packet : List ℕ
    pub after : List (List ℕ)
    pub place : ps ≡ before ++ packet ∷ after
    pub fits : short packet ≡ true
    pub call : c ≡ joining packet output
    pub earlier : x ≡ calls_from st before ++ forgets_for (store_from s st before) packet

  -- a joining of a packet, or a forgetting
  pub call_at : (ps : List (List ℕ)) (st : List ℕ) (x : List Call) (c : Call) (y : List Call) → calls_from st ps ≡ x ++ c ∷ y →
      CallAt st ps x c ⊎ ((i : ℕ) × (c ≡ forgetting i))
  unfolding calls_from store_from
  call_at [] st x c y e = absurd (none_split c x y e)
  call_at (p ∷ ps) st x c y e = go (call_at ps (step_store s Z st p)) (append_split (call_for st p) (calls_from (step_store s Z st p) ps) x c y e)
    where
      joins : short p ≡ true → (v : List Call) →
          ((w : List Call) × (forgets_for st p ≡ x ++ c ∷ w)) ⊎ ((w : List Call) × (x ≡ forgets_for st p ++ w) × (joining p output ∷ [] ≡ w ++ c ∷ v)) →
          CallAt st (p ∷ ps) x c ⊎ ((i : ℕ) × (c ≡ forgetting i))
      joins f v (inl w) = inr (by (is_full (joining_of s Z st p room)) w.1)
        where
          by : (b : Bool) → pick b (forgetting (lowest_record s Z st (count_in Z st)) ∷ []) [] ≡ x ++ c ∷ w.0 → (i : ℕ) × (c ≡ forgetting i)
          by true d = (lowest_record s Z st (count_in Z st), sym (one_split (forgetting (lowest_record s Z st (count_in Z st))) c x w.0 d).1)
          by false d = absurd (none_split c x w.0 d)
      joins f v (inr w) =
          let a = one_split (joining p output) c w.0 v w.2 in
          inl
          (record {
            before = [];
            packet = p;
            after = ps;
            place = refl;
            fits = f;
            call = sym a.1;
            earlier = w.1 ∙ ap (λ (l : List Call). forgets_for st p ++ l) a.0 ∙ append-nil (forgets_for st p);
          })

      first : (b : Bool) → short p ≡ b → (v : List Call) → pick b (forgets_for st p ++ joining p output ∷ []) [] ≡ x ++ c ∷ v →
          CallAt st (p ∷ ps) x c ⊎ ((i : ℕ) × (c ≡ forgetting i))
      first true f v d = joins f v (append_split (forgets_for st p) (joining p output ∷ []) x c v d)
      first false f v d = absurd (none_split c x v d)

      on : (w : List Call) → x ≡ call_for st p ++ w → CallAt (step_store s Z st p) ps w c ⊎ ((i : ℕ) × (c ≡ forgetting i)) →
          CallAt st (p ∷ ps) x c ⊎ ((i : ℕ) × (c ≡ forgetting i))
      on w d (inr i) = inr i
      on w d (inl o) =
          inl
          (record {
            before = p ∷ o.before;
            packet = o.packet;
            after = o.after;
            place = ap (λ (l : List (List ℕ)). p ∷ l) o.place;
            fits = o.fits;
            call = o.call;
            earlier = d ∙ ap (λ (l : List Call). call_for st p ++ l) o.earlier
                ∙ sym (append_assoc (call_for st p) (calls_from (step_store s Z st p) o.before) (forgets_for (store_from s (step_store s Z st p) o.before) o.packet));
          })

      go : ((x' : List Call) (c' : Call) (y' : List Call) → calls_from (step_store s Z st p) ps ≡ x' ++ c' ∷ y' →
          CallAt (step_store s Z st p) ps x' c' ⊎ ((i : ℕ) × (c' ≡ forgetting i))) →
          ((v : List Call) × (call_for st p ≡ x ++ c ∷ v)) ⊎ ((w : List Call) × (x ≡ call_for st p ++ w) × (calls_from (step_store s Z st p) ps ≡ w ++ c ∷ y)) →
          CallAt st (p ∷ ps) x c ⊎ ((i : ℕ) × (c ≡ forgetting i))
      go ih (inl v) = first (short p) refl v.0 v.1
      go ih (inr w) = on w.0 w.1 (ih w.0 c y w.2)

  -- and the other way
  pub at_call : (a : List (List ℕ)) (p : List ℕ) (b : List (List ℕ)) → short p ≡ true →
      calls_of (a ++ p ∷ b) ≡ calls_to a p ++ joining p output ∷ calls_from (step_store s Z (store_from s empty_store a) p) b
  unfolding calls_from
  at_call a p b e =
      calls_append a (p ∷ b) empty_store
      ∙ ap (λ (k : Bool). calls_of a ++ (pick k (forgets_for at p ++ joining p output ∷ []) [] ++ calls_from (step_store s Z at p) b)) e
      ∙ ap (λ (l : List Call). calls_of a ++ l) (append_assoc (forgets_for at p) (joining p output ∷ []) (calls_from (step_store s Z at p) b))
      ∙ sym (append_assoc (calls_of a) (forgets_for at p) (joining p output ∷ calls_from (step_store s Z at p) b))
    where
      at : List ℕ
      at = store_from s empty_store a

  -- ---- the packets handed over

  pub forgets_none : (st p q : List ℕ) → Handed q (forgets_for st p) → ⊥
  forgets_none st p q h = go (is_full (joining_of s Z st p room)) h.1
    where
      brings : (c : Call) (i : ℕ) → c ≡ forgetting i → Brings q c → ⊥
      brings c i e (inl d) = let f : forgetting i ≡ arrival q = sym e ∙ d in let z : ◌≡◌ {A = ℕ} 0 1 = cc f in omega arith
      brings c i e (inr d) = let f : forgetting i ≡ joining q d.0 = sym e ∙ d.1 in let z : ◌≡◌ {A = ℕ} 0 1 = cc f in omega arith

      by : (h.0 ≡ forgetting (lowest_record s Z st (count_in Z st))) ⊎ Memᴰ h.0 [] → ⊥
      by (inl e) = brings h.0 (lowest_record s Z st (count_in Z st)) e h.2
      by (inr k) = Memᴰ.not-nil k

      go : (b : Bool) → Memᴰ h.0 (pick b (forgetting (lowest_record s Z st (count_in Z st)) ∷ []) []) → ⊥
      go true k = by (Memᴰ.cases_cons k)
      go false k = Memᴰ.not-nil k

  for_packet : (st p q : List ℕ) (c : Call) → Memᴰ c (call_for st p) → Brings q c → q ≡ p
  for_packet st p q c k b = go (short p) k
    where
      by : Memᴰ c (forgets_for st p) ⊎ Memᴰ c (joining p output ∷ []) → q ≡ p
      by (inl m) = absurd (forgets_none st p q (c, m, b))
      by (inr m) = one (Memᴰ.cases_cons m)
        where
          one : (c ≡ joining p output) ⊎ Memᴰ c [] → q ≡ p
          one (inl e) = joining_brings p output q c e b
          one (inr n) = absurd (Memᴰ.not-nil n)

      go : (d : Bool) → Memᴰ c (pick d (forgets_for st p ++ joining p output ∷ []) []) → q ≡ p
      go true m = by (Memᴰ.append_cases (forgets_for st p) m)
      go false m = absurd (Memᴰ.not-nil m)

  -- a packet that is handed over is one of the recording's
  pub handed_in : (ps : List (List ℕ)) (st q : List ℕ) → Handed q (calls_from st ps) → Memᴰ q ps
  unfolding calls_from
  handed_in [] st q h = absurd (Memᴰ.not-nil h.1)
  handed_in (p ∷ ps) st q h = go (handed_in ps (step_store s Z st p) q) (Memᴰ.append_cases (call_for st p) h.1)
    where
      go : (Handed q (calls_from (step_store s Z st p) ps) → Memᴰ q ps) →
          Memᴰ h.0 (call_for st p) ⊎ Memᴰ h.0 (calls_from (step_store s Z st p) ps) → Memᴰ q (p ∷ ps)
      go ih (inl k) = Memᴰ.head (for_packet st p q h.0 k h.2)
      go ih (inr k) = Memᴰ.tail (ih (h.0, k, h.2))

  pub in_handed : (ps : List (List ℕ)) (st q : List ℕ) → Memᴰ q ps → short q ≡ true → Handed q (calls_from st ps)
  unfolding calls_from
  in_handed [] st q h e = absurd (Memᴰ.not-nil h)
  in_handed (p ∷ ps) st q h e = go (λ k. in_handed ps (step_store s Z st p) q k e) (Memᴰ.cases_cons h)
    where
      first : (b : Bool) → b ≡ true → q ≡ p → Handed q (pick b (forgets_for st p ++ joining p output ∷ []) [] ++ calls_from (step_store s Z st p) ps)
      first true f d = (
        joining p output,
        Memᴰ.append_left (calls_from (step_store s Z st p) ps) (Memᴰ.append_right (forgets_for st p) (Memᴰ.head refl)),
        inr (output, ap (λ (k : List ℕ). joining k output) (sym d)),
      )
      first false f d = let z : ◌≡◌ {A = ℕ} 0 1 = cc f in absurd (omega arith)

      go : (Memᴰ q ps → Handed q (calls_from (step_store s Z st p) ps)) → (q ≡ p) ⊎ Memᴰ q ps →
          Handed q (call_for st p ++ calls_from (step_store s Z st p) ps)
      go ih (inl d) = first (short p) (ap short (sym d) ∙ e) d
      go ih (inr k) = let v = ih k in (v.0, Memᴰ.append_right (call_for st p) v.1, v.2)
