-- Segments linked as a run is: one key, counters that follow, continuations and then a last. What cutting gives is linked, and what
-- the store's search finds.
-- Assumes nothing.
use Prim.Native.Nat.{ℕ, zero, suc, ◌<◌, suc-le-suc, zero-le}
use mathlib.Core.Path.{◌≡◌, refl, sym, ◌∙◌, ap}
use mathlib.Core.Logic.{◌⊎◌, inl, inr}
use mathlib.Core.List.Memᴰ
use mathlib.Core.List.{List, [], ◌∷◌, ◌++◌, Memᴰ}
use native.Mathlib.Omega.{arith}
use lib.ListN.{length}
use Rattle.octets.specs.Laying.{together}
use Rattle.cells.specs.Segments.{Seg}
use Rattle.cells.specs.Messages.{Role, first, middle, last, role_of, Run, bodies, body_of, segments}
use Rattle.taking.specs.Taking.{last_of}
use Rattle.demand3.specs.Traffic.{Sent, body_in, steps_in, later, run_of}
use Rattle.demand3.specs.Promise.{Original}
use Rattle.sender.specs.Sending.{steps_of}

abbrev pub Mem : Seg → List Seg → Type 0
Mem t ts = Memᴰ t ts

abbrev pub role_in : Seg → Role
role_in t = role_of t.flags

-- ---- the three places in a message differ

pub first_middle : {A : Type 0} {f : Role} → f ≡ first → f ≡ middle → A
first_middle p q = absurd (let z : ◌≡◌ {A = ℕ} 0 1 = cc in omega arith)

pub first_last : {A : Type 0} {f : Role} → f ≡ first → f ≡ last → A
first_last p q = absurd (let z : ◌≡◌ {A = ℕ} 0 1 = cc in omega arith)

pub middle_last : {A : Type 0} {f : Role} → f ≡ middle → f ≡ last → A
middle_last p q = absurd (let z : ◌≡◌ {A = ℕ} 0 1 = cc in omega arith)

module _ (next : ℕ → ℕ) where
  -- the segments of a key from the counter c on, up to a last
  abbrev pub Linked : List ℕ → ℕ → List Seg → Type 0
  Linked k c [] = ⊥
  Linked k c (t ∷ ts) =
      (t.key ≡ k) × (t.counter ≡ c) ×
      (((role_in t ≡ last) × (ts ≡ [])) ⊎ ((role_in t ≡ middle) × Linked k (next c) ts))

  -- a whole message: a first and what is linked to it
  pub record Opened (r : Run) : Type 0 where
    pub opens : role_in r.head ≡ first
    pub follows : Linked r.head.key (next r.head.counter) r.rest

  pub linked_key : (k : List ℕ) (c : ℕ) (ts : List Seg) → Linked k c ts → (t : Seg) → Mem t ts → t.key ≡ k
  linked_key k c [] l t m = absurd l
  linked_key k c (u ∷ ts) l t m = go (linked_key k (next c) ts) (Memᴰ.cases_cons m) l.2
    where
      go : (Linked k (next c) ts → (v : Seg) → Mem v ts → v.key ≡ k) → (t ≡ u) ⊎ Mem t ts →
          ((role_in u ≡ last) × (ts ≡ [])) ⊎ ((role_in u ≡ middle) × Linked k (next c) ts) → t.key ≡ k
      go ih (inl e) d = ap (λ (x : Seg). x.key) e ∙ l.0
      go ih (inr h) (inl d) = absurd (Memᴰ.not-nil (rw d.1 at h))
      go ih (inr h) (inr d) = ih d.1 t h

  pub linked_first : (k : List ℕ) (c : ℕ) (ts : List Seg) → Linked k c ts → (t : Seg) → Mem t ts → role_in t ≡ first → ⊥
  linked_first k c [] l t m f = l
  linked_first k c (u ∷ ts) l t m f = go (linked_first k (next c) ts) (Memᴰ.cases_cons m) l.2
    where
      go : (Linked k (next c) ts → (v : Seg) → Mem v ts → role_in v ≡ first → ⊥) → (t ≡ u) ⊎ Mem t ts →
          ((role_in u ≡ last) × (ts ≡ [])) ⊎ ((role_in u ≡ middle) × Linked k (next c) ts) → ⊥
      go ih (inl e) (inl d) = first_last (ap role_in (sym e) ∙ f) d.0
      go ih (inl e) (inr d) = first_middle (ap role_in (sym e) ∙ f) d.0
      go ih (inr h) (inl d) = Memᴰ.not-nil (rw d.1 at h)
      go ih (inr h) (inr d) = ih d.1 t h f

  -- each counter but the first one's follows another
  pub linked_before :
      (k : List ℕ) (c : ℕ) (ts : List Seg) → Linked k (next c) ts → (t : Seg) → Mem t ts →
      (t.counter ≡ next c) ⊎ ((u : Seg) × Mem u ts × (t.counter ≡ next u.counter))
  linked_before k c [] l t m = absurd l
  linked_before k c (v ∷ ts) l t m = go (linked_before k (next c) ts) (Memᴰ.cases_cons m) l.2
    where
      on : (t.counter ≡ next (next c)) ⊎ ((u : Seg) × Mem u ts × (t.counter ≡ next u.counter)) →
          (t.counter ≡ next c) ⊎ ((u : Seg) × Mem u (v ∷ ts) × (t.counter ≡ next u.counter))
      on (inl e) = inr (v, Memᴰ.head refl, e ∙ ap next (sym l.1))
      on (inr w) = inr (w.0, Memᴰ.tail w.1, w.2)

      go : (Linked k (next (next c)) ts → (x : Seg) → Mem x ts →
          (x.counter ≡ next (next c)) ⊎ ((u : Seg) × Mem u ts × (x.counter ≡ next u.counter))) → (t ≡ v) ⊎ Mem t ts →
          ((role_in v ≡ last) × (ts ≡ [])) ⊎ ((role_in v ≡ middle) × Linked k (next (next c)) ts) →
          (t.counter ≡ next c) ⊎ ((u : Seg) × Mem u (v ∷ ts) × (t.counter ≡ next u.counter))
      go ih (inl e) d = inl (ap (λ (x : Seg). x.counter) e ∙ l.1)
      go ih (inr h) (inl d) = absurd (Memᴰ.not-nil (rw d.1 at h))
      go ih (inr h) (inr d) = on (ih d.1 t h)

  pub opened_key : (r : Run) → Opened r → (t : Seg) → Mem t (segments r) → t.key ≡ r.head.key
  opened_key r o t m = go (Memᴰ.cases_cons m)
    where
      go : (t ≡ r.head) ⊎ Mem t r.rest → t.key ≡ r.head.key
      go (inl e) = ap (λ (x : Seg). x.key) e
      go (inr h) = linked_key r.head.key (next r.head.counter) r.rest o.follows t h

  pub opened_before : (r : Run) → Opened r → (t : Seg) → Mem t r.rest →
      (u : Seg) × Mem u (segments r) × (t.counter ≡ next u.counter)
  opened_before r o t m = go (linked_before r.head.key r.head.counter r.rest o.follows t m)
    where
      go : (t.counter ≡ next r.head.counter) ⊎ ((u : Seg) × Mem u r.rest × (t.counter ≡ next u.counter)) →
          (u : Seg) × Mem u (segments r) × (t.counter ≡ next u.counter)
      go (inl e) = (r.head, Memᴰ.head refl, e)
      go (inr w) = (w.0, Memᴰ.tail w.1, w.2)

  -- ---- where a linked list's counters are

  pub linked_at : (k : List ℕ) (c : ℕ) (ts : List Seg) → Linked k c ts → (t : Seg) → Mem t ts →
      (j : ℕ) × (j < length ts) × (t.counter ≡ steps_of next j c)
  unfolding steps_of
  linked_at k c [] l t m = absurd l
  linked_at k c (u ∷ ts) l t m = go (linked_at k (next c) ts) (Memᴰ.cases_cons m) l.2
    where
      go : (Linked k (next c) ts → (v : Seg) → Mem v ts → (j : ℕ) × (j < length ts) × (v.counter ≡ steps_of next j (next c))) →
          (t ≡ u) ⊎ Mem t ts → ((role_in u ≡ last) × (ts ≡ [])) ⊎ ((role_in u ≡ middle) × Linked k (next c) ts) →
          (j : ℕ) × (j < suc (length ts)) × (t.counter ≡ steps_of next j c)
      go ih (inl e) d = (0, suc-le-suc zero-le, ap (λ (x : Seg). x.counter) e ∙ l.1)
      go ih (inr h) (inl d) = absurd (Memᴰ.not-nil (rw d.1 at h))
      go ih (inr h) (inr d) = let z = ih d.1 t h in (suc z.0, suc-le-suc z.1, z.2)

  pub linked_last :
      (k : List ℕ) (c : ℕ) (ts : List Seg) → Linked k c ts → (n : ℕ) → length ts ≡ suc n →
      (t : Seg) × Mem t ts × (t.key ≡ k) × (t.counter ≡ steps_of next n c) × (role_in t ≡ last)
  unfolding steps_of
  linked_last k c [] l n e = absurd l
  linked_last k c (u ∷ ts) l zero e = go l.2
    where
      empty : (us : List Seg) → length us ≡ 0 → Linked k (next c) us → ⊥
      empty [] h q = q
      empty (v ∷ us) h q = omega arith

      go : ((role_in u ≡ last) × (ts ≡ [])) ⊎ ((role_in u ≡ middle) × Linked k (next c) ts) →
          (t : Seg) × Mem t (u ∷ ts) × (t.key ≡ k) × (t.counter ≡ c) × (role_in t ≡ last)
      go (inl d) = (u, Memᴰ.head refl, l.0, l.1, d.0)
      go (inr d) = absurd (empty ts (omega arith) d.1)
  linked_last k c (u ∷ ts) l (suc n) e = go (linked_last k (next c) ts) l.2
    where
      go : (Linked k (next c) ts → (i : ℕ) → length ts ≡ suc i →
          (t : Seg) × Mem t ts × (t.key ≡ k) × (t.counter ≡ steps_of next i (next c)) × (role_in t ≡ last)) →
          ((role_in u ≡ last) × (ts ≡ [])) ⊎ ((role_in u ≡ middle) × Linked k (next c) ts) →
          (t : Seg) × Mem t (u ∷ ts) × (t.key ≡ k) × (t.counter ≡ steps_of next n (next c)) × (role_in t ≡ last)
      go ih (inl d) = absurd (let z : length ts ≡ 0 = ap length d.1 in omega arith)
      go ih (inr d) = let z = ih d.1 n (omega arith) in (z.0, Memᴰ.tail z.1, z.2, z.3, z.4)

  pub linked_middle :
      (k : List ℕ) (c : ℕ) (ts : List Seg) → Linked k c ts → (j : ℕ) → suc j < length ts →
      (t : Seg) × Mem t ts × (t.key ≡ k) × (t.counter ≡ steps_of next j c) × (role_in t ≡ middle)
  unfolding steps_of
  linked_middle k c [] l j e = absurd l
  linked_middle k c (u ∷ ts) l zero e = go l.2
    where
      go : ((role_in u ≡ last) × (ts ≡ [])) ⊎ ((role_in u ≡ middle) × Linked k (next c) ts) →
          (t : Seg) × Mem t (u ∷ ts) × (t.key ≡ k) × (t.counter ≡ c) × (role_in t ≡ middle)
      go (inl d) = absurd (let z : length ts ≡ 0 = ap length d.1 in omega arith)
      go (inr d) = (u, Memᴰ.head refl, l.0, l.1, d.0)
  linked_middle k c (u ∷ ts) l (suc j) e = go (linked_middle k (next c) ts) l.2
    where
      go : (Linked k (next c) ts → (i : ℕ) → suc i < length ts →
          (t : Seg) × Mem t ts × (t.key ≡ k) × (t.counter ≡ steps_of next i (next c)) × (role_in t ≡ middle)) →
          ((role_in u ≡ last) × (ts ≡ [])) ⊎ ((role_in u ≡ middle) × Linked k (next c) ts) →
          (t : Seg) × Mem t (u ∷ ts) × (t.key ≡ k) × (t.counter ≡ steps_of next j (next c)) × (role_in t ≡ middle)
      go ih (inl d) = absurd (let z : length ts ≡ 0 = ap length d.1 in omega arith)
      go ih (inr d) = let z = ih d.1 j (omega arith) in (z.0, Memᴰ.tail z.1, z.2, z.3, z.4)

  -- and its last one, told from the counter before its first
  linked_end : (k : List ℕ) (c : ℕ) (ts : List Seg) → Linked k (next c) ts → last_of c ts ≡ steps_of next (length ts) c
  unfolding last_of steps_of
  linked_end k c [] l = absurd l
  linked_end k c (t ∷ ts) l = go (linked_end k (next c) ts) l.2
    where
      go : (Linked k (next (next c)) ts → last_of (next c) ts ≡ steps_of next (length ts) (next c)) →
          ((role_in t ≡ last) × (ts ≡ [])) ⊎ ((role_in t ≡ middle) × Linked k (next (next c)) ts) →
          last_of t.counter ts ≡ steps_of next (length ts) (next c)
      go ih (inl d) = rw d.1 l.1
      go ih (inr d) = ap (λ (x : ℕ). last_of x ts) l.1 ∙ ih d.1

  pub opened_end : (r : Run) → Opened r → last_of r.head.counter r.rest ≡ steps_of next (length r.rest) r.head.counter
  opened_end r o = linked_end r.head.key r.head.counter r.rest o.follows

  -- ---- what cutting gives

  later_linked : (k : List ℕ) (c : ℕ) (p : List ℕ) (ps : List (List ℕ)) → Linked k c (later next k c (p ∷ ps))
  unfolding later role_of
  later_linked k c p [] = (refl, refl, inl (refl, refl))
  later_linked k c p (q ∷ ps) = (refl, refl, inr (refl, later_linked k (next c) q ps))

  pub sent_opened : (m : Sent) → Opened (run_of next m)
  unfolding run_of role_of
  sent_opened m = record { opens = refl; follows = later_linked m.key (next m.start) m.two m.more }

  later_length : (k : List ℕ) (c : ℕ) (ps : List (List ℕ)) → length (later next k c ps) ≡ length ps
  unfolding later
  later_length k c [] = refl
  later_length k c (p ∷ ps) = ap suc (later_length k (next c) ps)

  pub sent_length : (m : Sent) → length (run_of next m).rest ≡ steps_in m
  unfolding run_of
  sent_length m = later_length m.key (next m.start) (m.two ∷ m.more)

  later_bodies : (k : List ℕ) (c : ℕ) (ps : List (List ℕ)) → bodies (later next k c ps) ≡ together ps
  unfolding bodies later together
  later_bodies k c [] = refl
  later_bodies k c (p ∷ ps) = ap (λ (x : List ℕ). p ++ x) (later_bodies k (next c) ps)

  pub sent_key : (m : Sent) → (run_of next m).head.key ≡ m.key
  unfolding run_of
  sent_key m = refl

  pub sent_start : (m : Sent) → (run_of next m).head.counter ≡ m.start
  unfolding run_of
  sent_start m = refl

  pub sent_body : (m : Sent) → body_of (run_of next m) ≡ body_in m
  unfolding run_of bodies together
  sent_body m = ap (λ (x : List ℕ). m.one ++ x) (later_bodies m.key (next m.start) (m.two ∷ m.more))

  -- the run of the message is the message
  pub original : (m : Sent) (r : Run) → r ≡ run_of next m → Original next m r
  original m r e =
      record {
        key = ap (λ (x : Run). x.head.key) e ∙ sent_key m;
        body = ap body_of e ∙ sent_body m;
        counter = ap (λ (x : Run). x.head.counter) e ∙ sent_start m;
        own = ap segments e;
      }
