-- The record of one message among a store's cells, whatever happens there, room or no room: beside it no record has one of the message's
-- segments in its range; where it is, none of them is held; and there is one at the most. So once it is forgotten nothing of the message is
-- left, and until then it is out.
-- Assumes nothing.
use Prim.Native.Nat.{ℕ, zero, suc, ◌≤◌, ◌<◌}
use mathlib.Core.Path.{◌≡◌, refl, sym, ◌∙◌, ap, subst}
use mathlib.Core.Logic.{◌⊎◌, inl, inr}
use mathlib.Core.Bool.{Bool, true, false, true≢false, false≢true}
use mathlib.Core.Option.{none, some-ne-none}
use mathlib.Core.List.Memᴰ
use mathlib.Core.List.{List, [], ◌∷◌, Memᴰ}
use native.Mathlib.Omega.{arith}
use lib.ListN.{get_or}
use Rattle.octets.specs.Octets.{pick}
use Rattle.octets.proofs.Lists.{bool, below_or}
use Rattle.cells.specs.Segments.{Seg, carries}
use Rattle.cells.specs.Rows.{Range, Cell, free, taken, range_in, by_range}
use Rattle.cells.specs.Order.{carries_in}
use Rattle.cells.specs.Messages.{Run, segments, look, among_in, or}
use Rattle.cells.proofs.CellSegments.{range_or}
use Rattle.cells.proofs.Distinct.{carries_true, carries_held}
use Rattle.demand3.specs.Cells.{put, range_by, left, freed, clear, forgotten, spans, spans_in, recorded}
use Rattle.demand3.specs.Traffic.{Event, empty, stepped, after}
use Rattle.demand3.proofs.Looks.{carries_no, look_at, put_other, clear_gone, clear_kept}
use Rattle.demand3.proofs.Links.{Mem, Opened}
use Rattle.demand3.proofs.Tally.{number_of, number_some, number_has, number_map, number_put, number_put_same, number_forgotten, number_less}
use Rattle.demand3.proofs.Ranges.{Noted, free_not, spans_own, spans_only, has_recorded, recorded_none, recorded_at, put_noted, clear_noted}
use Rattle.demand3.proofs.Forgets.{look_forgotten, forgotten_noted}
use Rattle.demand3.proofs.Beside.{among_mem, among_none, among_carried, Beside, Agrees, Off, put_beside, clear_beside, forgotten_beside}
use Rattle.demand3.proofs.Takings.{Fair, step_keeps, taken_opened, taken_apart, beside_empty}

pub noted_empty : (n : ℕ) (g : Range) → Noted g (empty n) → ⊥
noted_empty zero g h = Memᴰ.not-nil h
noted_empty (suc n) g h = go (noted_empty n g) (Memᴰ.cases_cons h)
  where
    go : (Noted g (empty n) → ⊥) → (taken g ≡ free) ⊎ Noted g (empty n) → ⊥
    go ih (inl e) = free_not g (sym e)
    go ih (inr k) = ih k

module _ (next : ℕ → ℕ) where
  -- a range with none of the message's segments
  abbrev pub Outside : Run → Range → Type 0
  Outside own g = (t : Seg) → Mem t (segments own) → spans next t.key t.counter g ≡ true → ⊥

  -- the cell of its first, or of its record
  abbrev marks : Run → Cell → Bool
  marks own x = or (carries_in own.head.key own.head.counter x) (spans_in next own.head.key own.head.counter x)

  pub record Clean (own : Run) (cs : List Cell) : Type 0 where
    pub beside : Beside own cs
    pub notes : (g : Range) → Noted g cs → (g ≡ range_by own) ⊎ Outside own g
    pub parted : Noted (range_by own) cs → (t : Seg) → Mem t (segments own) → look cs t.key t.counter ≡ none
    pub once : number_of (marks own) cs ≤ 1

  number_empty : (own : Run) (n : ℕ) → number_of (marks own) (empty n) ≡ 0
  unfolding number_of
  number_empty own zero = refl
  number_empty own (suc n) = number_empty own n

  pub clean_empty : (own : Run) (n : ℕ) → Clean own (empty n)
  clean_empty own n =
      record {
        beside = beside_empty own n;
        notes = λ g h. absurd (noted_empty n g h);
        parted = λ h. absurd (noted_empty n (range_by own) h);
        once = omega (arith, number_empty own n);
      }

  -- its record has each of its segments in its range
  pub noted_recorded : (own : Run) → Opened next own → (cs : List Cell) → Noted (range_by own) cs → (t : Seg) → Mem t (segments own) →
      recorded next cs t.key t.counter ≡ true
  noted_recorded own o cs h t m = has_recorded next cs t.key t.counter (range_by own) h (spans_own next own o t m)

  -- where it is not, none is in any range
  pub clean_open : (own : Run) (cs : List Cell) → Clean own cs → (Noted (range_by own) cs → ⊥) → (t : Seg) → Mem t (segments own) →
      recorded next cs t.key t.counter ≡ false
  clean_open own cs w n t m = recorded_none next cs t.key t.counter (λ g h e. go g h e (w.notes g h))
    where
      go : (g : Range) → Noted g cs → spans next t.key t.counter g ≡ true → (g ≡ range_by own) ⊎ Outside own g → ⊥
      go g h e (inl p) = n (subst (λ (x : Range). Noted x cs) p h)
      go g h e (inr f) = f t m e

  -- ---- a new segment

  module _ (own : Run) (o : Opened next own) (cs : List Cell) (w : Clean own cs) (t : Seg) (g : Agrees own t)
      (fresh : recorded next cs t.key t.counter ≡ false) (new : look cs t.key t.counter ≡ none) where
    put_parted : Noted (range_by own) (put cs t) → (u : Seg) → Mem u (segments own) → look (put cs t) u.key u.counter ≡ none
    put_parted h u m =
        put_other cs t u.key u.counter
        (carries_no u.key u.counter t
        (λ p q. true≢false (sym (noted_recorded own o cs (put_noted cs t (range_by own) h) u m) ∙ recorded_at next cs p q ∙ fresh)))
        ∙ w.parted (put_noted cs t (range_by own) h) u m

    -- where the message's first comes, there is neither it nor a record of it
    unmarked : carries own.head.key own.head.counter t ≡ true → 0 < number_of (marks own) cs → ⊥
    unmarked c l =
        let z = number_has (marks own) cs l in
        go z.0 z.1 (bool (carries_in own.head.key own.head.counter z.0)) z.2
      where
        p : (own.head.key ≡ t.key) × (own.head.counter ≡ t.counter)
        p = carries_true own.head.key own.head.counter t c

        go : (y : Cell) → Memᴰ y cs → (carries_in own.head.key own.head.counter y ≡ true) ⊎
            (carries_in own.head.key own.head.counter y ≡ false) → marks own y ≡ true → ⊥
        go y m (inl a) e =
            let q = carries_held own.head.key own.head.counter y a in
            some-ne-none q.0
            (sym (w.beside.single q.0 (subst (λ (x : Cell). Memᴰ x cs) q.1 m))
            ∙ look_at cs (sym q.2 ∙ p.0) (sym q.3 ∙ p.1) ∙ new)
        go y m (inr a) e = at (range_or y)
          where
            s : spans_in next own.head.key own.head.counter y ≡ true
            s = rw a at e

            at : ((h : Range) × (y ≡ taken h)) ⊎ (range_in y ≡ none) → ⊥
            at (inl q) =
                true≢false
                (sym (has_recorded next cs own.head.key own.head.counter q.0 (subst (λ (x : Cell). Memᴰ x cs) q.1 m)
                (sym (ap (spans_in next own.head.key own.head.counter) q.1) ∙ s))
                ∙ recorded_at next cs p.0 p.1 ∙ fresh)
            at (inr q) = false≢true (sym (ap (by_range false (spans next own.head.key own.head.counter)) q) ∙ s)

    put_once : number_of (marks own) (put cs t) ≤ 1
    put_once = go (bool (carries own.head.key own.head.counter t))
      where
        few : (number_of (marks own) cs < 1) ⊎ (1 ≤ number_of (marks own) cs) → carries own.head.key own.head.counter t ≡ true →
            number_of (marks own) (put cs t) ≤ 1
        few (inl l) c = omega (arith, number_put (marks own) cs t)
        few (inr l) c = absurd (unmarked c l)

        go : (carries own.head.key own.head.counter t ≡ true) ⊎ (carries own.head.key own.head.counter t ≡ false) →
            number_of (marks own) (put cs t) ≤ 1
        go (inl c) = few (below_or (number_of (marks own) cs) 1) c
        go (inr c) = omega (arith, number_put_same (marks own) cs t (rw c), w.once)

    pub put_clean : Clean own (put cs t)
    put_clean =
        record {
          beside = put_beside own cs t new g w.beside;
          notes = λ h m. w.notes h (put_noted cs t h m);
          parted = put_parted;
          once = put_once;
        }

  -- ---- a taking

  module _ (own : Run) (o : Opened next own) (cs : List Cell) (w : Clean own cs) where
    -- of the message itself
    pub clear_own_clean : Clean own (clear own cs)
    clear_own_clean =
        record {
          beside = clear_beside own own cs w.beside;
          notes = λ g h. at g (clear_noted own cs g h);
          parted = λ h t m. clear_gone own cs t.key t.counter (λ u e. among_carried (segments own) t u (among_mem (segments own) t m) e);
          once = omega (arith, number_map (marks own) (freed own) no_sooner cs, w.once);
        }
      where
        at : (g : Range) → Noted g cs ⊎ (g ≡ range_by own) → (g ≡ range_by own) ⊎ Outside own g
        at g (inl h) = w.notes g h
        at g (inr e) = inl e

        no_sooner : (x : Cell) → marks own (freed own x) ≡ true → marks own x ≡ true
        no_sooner x e = go (among_in (segments own) x) (bool (carries_in own.head.key own.head.counter x)) e
          where
            go : (a : Bool) → (carries_in own.head.key own.head.counter x ≡ true) ⊎ (carries_in own.head.key own.head.counter x ≡ false) →
                marks own (pick a (left own x) x) ≡ true → marks own x ≡ true
            go true (inl c) d = rw c
            go true (inr c) d = absurd (false≢true (rw c at d))
            go false c d = d

    -- of another, which has none of its keys and counters
    module _ (r : Run) (or : Opened next r) (f : Off own (segments r)) where
      off_outside : Outside own (range_by r)
      off_outside t m e = let z = spans_only next r or t.key t.counter e in f z.0 t z.1 m z.2 z.3

      pub clear_off_clean : Clean own (clear r cs)
      clear_off_clean =
          record {
            beside = clear_beside own r cs w.beside;
            notes = λ g h. at g (clear_noted r cs g h);
            parted = λ h t m. clear_kept r cs t.key t.counter (λ u e. among_carried (segments r) t u (among_none (segments r) t (λ s k. f s t k m)) e)
                ∙ w.parted (still (clear_noted r cs (range_by own) h)) t m;
            once = omega (arith, number_map (marks own) (freed r) no_sooner cs, w.once);
          }
        where
          at : (g : Range) → Noted g cs ⊎ (g ≡ range_by r) → (g ≡ range_by own) ⊎ Outside own g
          at g (inl h) = w.notes g h
          at g (inr e) = inr (subst (Outside own) (sym e) off_outside)

          first : spans next own.head.key own.head.counter (range_by r) ≡ true → ⊥
          first = off_outside own.head (Memᴰ.head refl)

          still : Noted (range_by own) cs ⊎ (range_by own ≡ range_by r) → Noted (range_by own) cs
          still (inl h) = h
          still (inr e) =
              absurd (first (sym (ap (spans next own.head.key own.head.counter) e) ∙ spans_own next own o own.head (Memᴰ.head refl)))

          no_sooner : (x : Cell) → marks own (freed r x) ≡ true → marks own x ≡ true
          no_sooner x e = go (among_in (segments r) x) (carries_in r.head.key r.head.counter x) e
            where
              go : (a b : Bool) → marks own (pick a (pick b (taken (range_by r)) free) x) ≡ true → marks own x ≡ true
              go true true d = absurd (first d)
              go true false d = absurd (false≢true d)
              go false b d = d

  -- ---- a forgetting

  pub forgotten_clean : (own : Run) (i : ℕ) (cs : List Cell) → Clean own cs → Clean own (forgotten i cs)
  forgotten_clean own i cs w =
      record {
        beside = forgotten_beside own i cs w.beside;
        notes = λ g h. w.notes g (forgotten_noted i cs g h);
        parted = λ h t m. look_forgotten i cs t.key t.counter ∙ w.parted (forgotten_noted i cs (range_by own) h) t m;
        once = omega (arith, number_forgotten (marks own) refl i cs, w.once);
      }

  -- of its own record: it is not there any more
  pub forgotten_own : (own : Run) → Opened next own → (i : ℕ) (cs : List Cell) → Clean own cs → get_or cs i free ≡ taken (range_by own) →
      Noted (range_by own) (forgotten i cs) → ⊥
  forgotten_own own o i cs w e h =
      let a : marks own (taken (range_by own)) ≡ true = spans_own next own o own.head (Memᴰ.head refl) in
      omega (
        arith,
        number_some (marks own) (forgotten i cs) (taken (range_by own)) h a,
        number_less (marks own) refl i cs (taken (range_by own)) e refl a,
        w.once,
      )

-- ---- events

module _ (next : ℕ → ℕ) (span : ℕ) (inj : (x y : ℕ) → next x ≡ next y → x ≡ y) (own : Run) (o : Opened next own) where
  clean_step : (cs : List Cell) (e : Event) (es : List Event) → Fair next span own (e ∷ es) → Clean next own cs →
      Clean next own (stepped next span cs e)
  clean_step cs e es f w =
      step_keeps next span (Clean next own) cs e w
      (λ t d v n. put_clean next own o cs w t (f t (Memᴰ.head (sym d))) v n)
      (λ long r d g. by r (taken_opened next span cs long r g)
      (taken_apart next span inj own o cs w.beside long r g))
      (λ i d. forgotten_clean next own i cs w)
    where
      by : (r : Run) → Opened next r → (r ≡ own) ⊎ Off own (segments r) → Clean next own (clear r cs)
      by r q (inl e') = subst (λ (x : Run). Clean next own (clear x cs)) (sym e') (clear_own_clean next own o cs w)
      by r q (inr f') = clear_off_clean next own o cs w r q f'

  pub clean_after : (es : List Event) (cs : List Cell) → Fair next span own es → Clean next own cs → Clean next own (after next span cs es)
  unfolding after
  clean_after [] cs f w = w
  clean_after (e ∷ es) cs f w =
      clean_after es (stepped next span cs e) (λ t m. f t (Memᴰ.tail m)) (clean_step cs e es f w)
