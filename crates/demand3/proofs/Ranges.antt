-- Records among a store's cells: the record of a message has just the keys and counters of its segments in its range; and what records there
-- are after a segment is put in, after the cells of a message are given up, and after one is forgotten.
-- Assumes nothing.
use Prim.Native.Nat.{ℕ, zero, suc, ◌≤◌, ◌<◌, suc-le-suc, zero-le}
use mathlib.Core.Path.{◌≡◌, refl, sym, ◌∙◌, ap, subst}
use mathlib.Core.Logic.{◌⊎◌, inl, inr}
use mathlib.Core.Bool.{Bool, true, false, false≢true}
use mathlib.Core.Option.{none, some-ne-none}
use mathlib.Core.List.Memᴰ
use mathlib.Core.List.{List, [], ◌∷◌, Memᴰ}
use native.Mathlib.Omega.{arith}
use lib.ListN.{length}
use lib.Dec.{eqb}
use borrow.Author.Tests.{eq-eqb, eqb-true}
use Rattle.octets.specs.Octets.{pick, alike}
use Rattle.octets.proofs.Lists.{bool, alike_self, alike_true}
use Rattle.cells.specs.Segments.{Seg, reaches}
use Rattle.cells.specs.Rows.{Range, Cell, free, held, taken, range_in, by_range}
use Rattle.cells.specs.Order.{is_free, carries_in}
use Rattle.cells.specs.Messages.{Run, segments, among_in, or, middle, last}
use Rattle.cells.proofs.Held.{both_true}
use Rattle.cells.proofs.CellSegments.{range_or}
use Rattle.sender.specs.Sending.{steps_of}
use Rattle.demand3.specs.Cells.{put, range_by, left, freed, clear, spans, spans_in, recorded}
use Rattle.demand3.proofs.Putting.{put_free, put_on}
use Rattle.demand3.proofs.Links.{Mem, role_in, Linked, Opened, opened_key, linked_at}

-- a cell has this record
abbrev pub Noted : Range → List Cell → Type 0
Noted g cs = Memᴰ (taken g) cs

-- ---- a cell and its record

pub free_not : (g : Range) → free ≡ taken g → ⊥
free_not g e = some-ne-none g (sym (ap range_in e))

pub held_not : (t : Seg) (g : Range) → held t ≡ taken g → ⊥
held_not t g e = some-ne-none g (sym (ap range_in e))

pub taken_same : (g h : Range) → taken g ≡ taken h → g ≡ h
taken_same g h e = cc

free_cell : (x : Cell) (g : Range) → is_free x ≡ true → taken g ≡ x → ⊥
free_cell x g f e = false≢true (ap is_free e ∙ f)

-- ---- a range

module _ (next : ℕ → ℕ) where
  pub reaches_at : (n j c : ℕ) → j ≤ n → reaches next n c (steps_of next j c) ≡ true
  unfolding reaches steps_of
  reaches_at zero zero c l = eq-eqb c c refl
  reaches_at zero (suc j) c l = absurd (omega arith)
  reaches_at (suc n) zero c l = rw (eq-eqb c c refl)
  reaches_at (suc n) (suc j) c l = go (eqb c (steps_of next j (next c))) (reaches_at n j (next c) (omega arith))
    where
      go : (b : Bool) → reaches next n (next c) (steps_of next j (next c)) ≡ true → pick b true (reaches next n (next c) (steps_of next j (next c))) ≡ true
      go true e = refl
      go false e = e

  reaches_some : (n c x : ℕ) → reaches next n c x ≡ true → (j : ℕ) × (j ≤ n) × (x ≡ steps_of next j c)
  unfolding reaches steps_of
  reaches_some zero c x e = (0, zero-le, sym (eqb-true c x e))
  reaches_some (suc n) c x e = go (reaches_some n (next c) x) (bool (eqb c x))
    where
      go : (reaches next n (next c) x ≡ true → (j : ℕ) × (j ≤ n) × (x ≡ steps_of next j (next c))) → (eqb c x ≡ true) ⊎ (eqb c x ≡ false) →
          (j : ℕ) × (j ≤ suc n) × (x ≡ steps_of next j c)
      go ih (inl d) = (0, zero-le, sym (eqb-true c x d))
      go ih (inr d) = let z = ih (rw d at e) in (suc z.0, suc-le-suc z.1, z.2)

  -- a linked list has a segment at each of its counters
  linked_each : (k : List ℕ) (c : ℕ) (ts : List Seg) → Linked next k c ts → (j : ℕ) → j < length ts →
      (t : Seg) × Mem t ts × (t.counter ≡ steps_of next j c)
  unfolding steps_of
  linked_each k c [] l j h = absurd l
  linked_each k c (t ∷ ts) l zero h = (t, Memᴰ.head refl, l.1)
  linked_each k c (t ∷ ts) l (suc j) h = go (linked_each k (next c) ts) l.2
    where
      go : (Linked next k (next c) ts → (i : ℕ) → i < length ts → (u : Seg) × Mem u ts × (u.counter ≡ steps_of next i (next c))) →
          ((role_in t ≡ last) × (ts ≡ [])) ⊎ ((role_in t ≡ middle) × Linked next k (next c) ts) →
          (u : Seg) × Mem u (t ∷ ts) × (u.counter ≡ steps_of next j (next c))
      go ih (inl d) = absurd (let z : length ts ≡ 0 = ap length d.1 in omega arith)
      go ih (inr d) = let z = ih d.1 j (omega arith) in (z.0, Memᴰ.tail z.1, z.2)

  -- the record of a message has each of its segments in its range
  pub spans_own : (r : Run) → Opened next r → (t : Seg) → Mem t (segments r) → spans next t.key t.counter (range_by r) ≡ true
  unfolding spans steps_of
  spans_own r o t m =
      let k = opened_key next r o t m in
      rw (k, at (Memᴰ.cases_cons m), alike_self r.head.key)
    where
      at : (t ≡ r.head) ⊎ Mem t r.rest → reaches next (length r.rest) r.head.counter t.counter ≡ true
      at (inl e) = rw (ap (λ (x : Seg). x.counter) e) (reaches_at (length r.rest) 0 r.head.counter zero-le)
      at (inr h) =
          let z = linked_at next r.head.key (next r.head.counter) r.rest o.follows t h in
          rw z.2 (reaches_at (length r.rest) (suc z.0) r.head.counter z.1)

  -- and nothing else
  pub spans_only : (r : Run) → Opened next r → (k : List ℕ) (c : ℕ) → spans next k c (range_by r) ≡ true →
      (t : Seg) × Mem t (segments r) × (t.key ≡ k) × (t.counter ≡ c)
  unfolding spans steps_of
  spans_only r o k c e =
      let b = both_true (reaches next (length r.rest) r.head.counter c) (alike k r.head.key) e in
      let z = reaches_some (length r.rest) r.head.counter c b.0 in
      at (alike_true k r.head.key b.1) z.0 z.1 z.2
    where
      at : k ≡ r.head.key → (j : ℕ) → j ≤ length r.rest → c ≡ steps_of next j r.head.counter →
          (t : Seg) × Mem t (segments r) × (t.key ≡ k) × (t.counter ≡ c)
      at p zero l q = (r.head, Memᴰ.head refl, sym p, sym q)
      at p (suc j) l q =
          let z = linked_each r.head.key (next r.head.counter) r.rest o.follows j l in
          (z.0, Memᴰ.tail z.1, opened_key next r o z.0 (Memᴰ.tail z.1) ∙ sym p, z.2 ∙ sym q)

  -- ---- a record in one of the cells

  or_cases : (a b : Bool) → or a b ≡ true → (a ≡ true) ⊎ (b ≡ true)
  or_cases true b e = inl refl
  or_cases false b e = inr e

  or_second : (a b : Bool) → b ≡ true → or a b ≡ true
  or_second true b e = refl
  or_second false b e = e

  pub recorded_has : (cs : List Cell) (k : List ℕ) (c : ℕ) → recorded next cs k c ≡ true → (g : Range) × Noted g cs × (spans next k c g ≡ true)
  unfolding recorded
  recorded_has [] k c e = absurd (false≢true e)
  recorded_has (x ∷ cs) k c e = go (recorded_has cs k c) (or_cases (spans_in next k c x) (recorded next cs k c) e)
    where
      here : ((g : Range) × (x ≡ taken g)) ⊎ (range_in x ≡ none) → spans_in next k c x ≡ true → (g : Range) × Noted g (x ∷ cs) × (spans next k c g ≡ true)
      here (inl w) h = (w.0, Memᴰ.head (sym w.1), sym (ap (spans_in next k c) w.1) ∙ h)
      here (inr n) h = absurd (false≢true (sym (ap (by_range false (spans next k c)) n) ∙ h))

      go : (recorded next cs k c ≡ true → (g : Range) × Noted g cs × (spans next k c g ≡ true)) →
          (spans_in next k c x ≡ true) ⊎ (recorded next cs k c ≡ true) → (g : Range) × Noted g (x ∷ cs) × (spans next k c g ≡ true)
      go ih (inl h) = here (range_or x) h
      go ih (inr h) = let z = ih h in (z.0, Memᴰ.tail z.1, z.2)

  pub has_recorded : (cs : List Cell) (k : List ℕ) (c : ℕ) (g : Range) → Noted g cs → spans next k c g ≡ true → recorded next cs k c ≡ true
  unfolding recorded
  has_recorded [] k c g h e = absurd (Memᴰ.not-nil h)
  has_recorded (x ∷ cs) k c g h e = go (λ m. has_recorded cs k c g m e) (Memᴰ.cases_cons h)
    where
      go : (Noted g cs → recorded next cs k c ≡ true) → (taken g ≡ x) ⊎ Noted g cs → or (spans_in next k c x) (recorded next cs k c) ≡ true
      go ih (inl p) = let d : spans_in next k c x ≡ true = ap (spans_in next k c) (sym p) ∙ e in rw d
      go ih (inr m) = or_second (spans_in next k c x) (recorded next cs k c) (ih m)

  -- none has, if no record among the cells does
  pub recorded_none : (cs : List Cell) (k : List ℕ) (c : ℕ) → ((g : Range) → Noted g cs → spans next k c g ≡ true → ⊥) → recorded next cs k c ≡ false
  recorded_none cs k c h = go (bool (recorded next cs k c))
    where
      go : (recorded next cs k c ≡ true) ⊎ (recorded next cs k c ≡ false) → recorded next cs k c ≡ false
      go (inl e) = absurd (let z = recorded_has cs k c e in h z.0 z.1 z.2)
      go (inr e) = e

  -- it goes by key and counter
  pub recorded_at : (cs : List Cell) {k l : List ℕ} {c d : ℕ} → k ≡ l → c ≡ d → recorded next cs k c ≡ recorded next cs l d
  recorded_at cs p q = rw (p, q)

-- ---- which records there are

-- a segment is put in
pub put_noted : (cs : List Cell) (t : Seg) (g : Range) → Noted g (put cs t) → Noted g cs
unfolding put
put_noted [] t g m = m
put_noted (x ∷ cs) t g m = by (put_noted cs t g) (bool (is_free x))
  where
    new : (taken g ≡ held t) ⊎ Noted g cs → Noted g (x ∷ cs)
    new (inl e) = absurd (held_not t g (sym e))
    new (inr h) = Memᴰ.tail h

    old : (Noted g (put cs t) → Noted g cs) → (taken g ≡ x) ⊎ Noted g (put cs t) → Noted g (x ∷ cs)
    old ih (inl e) = Memᴰ.head e
    old ih (inr h) = Memᴰ.tail (ih h)

    by : (Noted g (put cs t) → Noted g cs) → (is_free x ≡ true) ⊎ (is_free x ≡ false) → Noted g (x ∷ cs)
    by ih (inl f) = new (Memᴰ.cases_cons (subst (Noted g) (put_free x cs t f) m))
    by ih (inr f) = old ih (Memᴰ.cases_cons (subst (Noted g) (put_on x cs t f) m))

pub noted_put : (cs : List Cell) (t : Seg) (g : Range) → Noted g cs → Noted g (put cs t)
unfolding put
noted_put [] t g m = m
noted_put (x ∷ cs) t g m = go (noted_put cs t g) (bool (is_free x)) (Memᴰ.cases_cons m)
  where
    go : (Noted g cs → Noted g (put cs t)) → (is_free x ≡ true) ⊎ (is_free x ≡ false) → (taken g ≡ x) ⊎ Noted g cs →
        Noted g (pick (is_free x) (held t ∷ cs) (x ∷ put cs t))
    go ih (inl f) (inl e) = absurd (free_cell x g f e)
    go ih (inl f) (inr h) = rw f (Memᴰ.tail h)
    go ih (inr f) (inl e) = rw f (Memᴰ.head e)
    go ih (inr f) (inr h) = rw f (Memᴰ.tail (ih h))

-- the cells of a message are given up
freed_noted : (r : Run) (x : Cell) (g : Range) → taken g ≡ freed r x → (taken g ≡ x) ⊎ (g ≡ range_by r)
freed_noted r x g e = go (among_in (segments r) x) (carries_in r.head.key r.head.counter x) e
  where
    go : (a b : Bool) → taken g ≡ pick a (pick b (taken (range_by r)) free) x → (taken g ≡ x) ⊎ (g ≡ range_by r)
    go true true d = inr (taken_same g (range_by r) d)
    go true false d = absurd (free_not g (sym d))
    go false b d = inl d

pub clear_noted : (r : Run) (cs : List Cell) (g : Range) → Noted g (clear r cs) → Noted g cs ⊎ (g ≡ range_by r)
clear_noted r [] g m = absurd (Memᴰ.not-nil m)
clear_noted r (x ∷ cs) g m = go (clear_noted r cs g) (Memᴰ.cases_cons m)
  where
    here : (taken g ≡ x) ⊎ (g ≡ range_by r) → Noted g (x ∷ cs) ⊎ (g ≡ range_by r)
    here (inl e) = inl (Memᴰ.head e)
    here (inr e) = inr e

    on : Noted g cs ⊎ (g ≡ range_by r) → Noted g (x ∷ cs) ⊎ (g ≡ range_by r)
    on (inl h) = inl (Memᴰ.tail h)
    on (inr e) = inr e

    go : (Noted g (clear r cs) → Noted g cs ⊎ (g ≡ range_by r)) → (taken g ≡ freed r x) ⊎ Noted g (clear r cs) → Noted g (x ∷ cs) ⊎ (g ≡ range_by r)
    go ih (inl e) = here (freed_noted r x g e)
    go ih (inr h) = on (ih h)

pub noted_clear : (r : Run) (cs : List Cell) (g : Range) → Noted g cs → Noted g (clear r cs)
noted_clear r [] g m = absurd (Memᴰ.not-nil m)
noted_clear r (x ∷ cs) g m = go (noted_clear r cs g) (Memᴰ.cases_cons m)
  where
    go : (Noted g cs → Noted g (clear r cs)) → (taken g ≡ x) ⊎ Noted g cs → Noted g (freed r x ∷ clear r cs)
    go ih (inl e) = Memᴰ.head (e ∙ sym (ap (λ (b : Bool). pick b (left r x) x) (sym (ap (among_in (segments r)) e))))
    go ih (inr h) = Memᴰ.tail (ih h)
