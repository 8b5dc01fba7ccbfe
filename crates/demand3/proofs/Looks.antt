-- What cells hold under a key and a counter, after a segment is put in and after the cells of a message are given up.
-- Assumes nothing.
use Prim.Native.Nat.{ℕ}
use mathlib.Core.Path.{◌≡◌, refl, sym, ◌∙◌, ap, subst}
use mathlib.Core.Logic.{◌⊎◌, inl, inr}
use mathlib.Core.Bool.{true, false, true≢false, false≢true, Bool}
use mathlib.Core.Option.{none, some, none-ne-some, some-ne-none, Option}
use mathlib.Core.List.Memᴰ
use mathlib.Core.List.{List, [], ◌∷◌}
use borrow.Author.Tests.{eq-eqb}
use Rattle.octets.specs.Octets.{pick}
use Rattle.octets.proofs.Lists.{bool, alike_self}
use Rattle.cells.specs.Segments.{Seg, carries}
use Rattle.cells.specs.Rows.{Cell, free, held, taken, segment_in, by_segment}
use Rattle.cells.specs.Order.{is_free, carries_in}
use Rattle.cells.proofs.CellSegments.{free_none}
use Rattle.cells.specs.Messages.{Run, segments, or_else, held_as, look, among, among_in}
use Rattle.cells.proofs.Distinct.{carries_true}
use Rattle.cells.proofs.Looking.{held_some, or_some, or_none}
use Rattle.demand3.specs.Cells.{put, has_free, range_by, left, freed, clear}
use Rattle.demand3.proofs.Putting.{put_free, put_on}
use Rattle.demand3.specs.Complete.{Held}

-- ---- the test on a segment

pub carries_self : (t : Seg) → carries t.key t.counter t ≡ true
unfolding carries
carries_self t = rw (eq-eqb t.counter t.counter refl, alike_self t.key)

pub carries_no : (k : List ℕ) (c : ℕ) (t : Seg) → (k ≡ t.key → c ≡ t.counter → ⊥) → carries k c t ≡ false
carries_no k c t h = go (bool (carries k c t))
  where
    go : (carries k c t ≡ true) ⊎ (carries k c t ≡ false) → carries k c t ≡ false
    go (inl e) = absurd (h (carries_true k c t e).0 (carries_true k c t e).1)
    go (inr e) = e

-- ---- what is found is held

pub look_hit : (t : Seg) (cs : List Cell) (k : List ℕ) (c : ℕ) → carries k c t ≡ true → look (held t ∷ cs) k c ≡ some t
unfolding look
look_hit t cs k c e = rw e

pub look_miss : (t : Seg) (cs : List Cell) (k : List ℕ) (c : ℕ) → carries k c t ≡ false → look (held t ∷ cs) k c ≡ look cs k c
unfolding look
look_miss t cs k c e = rw e

pub look_held : (cs : List Cell) (k : List ℕ) (c : ℕ) (t : Seg) → look cs k c ≡ some t → Held t cs × (carries k c t ≡ true)
unfolding look
look_held [] k c t e = absurd (none-ne-some t e)
look_held (x ∷ cs) k c t e = go (look_held cs k c t) (or_some (held_as k c x) (look cs k c) t e)
  where
    go : (look cs k c ≡ some t → Held t cs × (carries k c t ≡ true)) → (held_as k c x ≡ some t) ⊎ (look cs k c ≡ some t) →
        Held t (x ∷ cs) × (carries k c t ≡ true)
    go ih (inl h) = let a = held_some k c x t h in (Memᴰ.head (sym a.0), a.1)
    go ih (inr h) = let r = ih h in (Memᴰ.tail r.0, r.1)

-- a free cell gives nothing
free_holds : (k : List ℕ) (c : ℕ) (x : Cell) → is_free x ≡ true → held_as k c x ≡ none
free_holds k c x f = ap (by_segment none (λ u. pick (carries k c u) (some u) none)) (free_none x f)

-- it goes by key and counter
pub look_at : (cs : List Cell) {k l : List ℕ} {c d : ℕ} → k ≡ l → c ≡ d → look cs k c ≡ look cs l d
look_at cs p q = rw (p, q)

pub look_same : (cs : List Cell) (t u : Seg) → t.key ≡ u.key → t.counter ≡ u.counter →
    look cs t.key t.counter ≡ look cs u.key u.counter
look_same cs t u p q = look_at cs p q

-- ---- a segment is put into the lowest free cell

pub put_same :
    (cs : List Cell) (t : Seg) → has_free cs ≡ true → look cs t.key t.counter ≡ none →
    look (put cs t) t.key t.counter ≡ some t
unfolding put has_free look
put_same [] t f e = absurd (false≢true f)
put_same (x ∷ cs) t f e = go (put_same cs t) (bool (is_free x))
  where
    none_here : (held_as t.key t.counter x ≡ none) × (look cs t.key t.counter ≡ none)
    none_here = or_none (held_as t.key t.counter x) (look cs t.key t.counter) e

    go : (has_free cs ≡ true → look cs t.key t.counter ≡ none → look (put cs t) t.key t.counter ≡ some t) →
        (is_free x ≡ true) ⊎ (is_free x ≡ false) → look (pick (is_free x) (held t ∷ cs) (x ∷ put cs t)) t.key t.counter ≡ some t
    go ih (inl h) = rw h (look_hit t cs t.key t.counter (carries_self t))
    go ih (inr h) = rw (h, none_here.0) (ih (rw h at f) none_here.1)

pub put_other : (cs : List Cell) (t : Seg) (k : List ℕ) (c : ℕ) → carries k c t ≡ false → look (put cs t) k c ≡ look cs k c
unfolding put look
put_other [] t k c h = refl
put_other (x ∷ cs) t k c h = go (put_other cs t k c h) (bool (is_free x))
  where
    go : look (put cs t) k c ≡ look cs k c → (is_free x ≡ true) ⊎ (is_free x ≡ false) →
        look (pick (is_free x) (held t ∷ cs) (x ∷ put cs t)) k c ≡ or_else (held_as k c x) (look cs k c)
    go ih (inl f) =
        ap (λ (b : Bool). look (pick b (held t ∷ cs) (x ∷ put cs t)) k c) f
        ∙ look_miss t cs k c h
        ∙ sym (ap (λ (o : Option Seg). or_else o (look cs k c)) (free_holds k c x f))
    go ih (inr f) = ap (λ (b : Bool). look (pick b (held t ∷ cs) (x ∷ put cs t)) k c) f ∙ ap (or_else (held_as k c x)) ih

-- a full store stays
pub put_full : (cs : List Cell) (t : Seg) → has_free cs ≡ false → put cs t ≡ cs
unfolding put has_free
put_full [] t f = refl
put_full (x ∷ cs) t f = go (put_full cs t) (bool (is_free x))
  where
    go : (has_free cs ≡ false → put cs t ≡ cs) → (is_free x ≡ true) ⊎ (is_free x ≡ false) → pick (is_free x) (held t ∷ cs) (x ∷ put cs t) ≡ x ∷ cs
    go ih (inl h) = absurd (true≢false (rw h at f))
    go ih (inr h) = rw h (ap (λ (y : List Cell). x ∷ y) (ih (rw h at f)))

pub put_held : (cs : List Cell) (t u : Seg) → Held u (put cs t) → (u ≡ t) ⊎ Held u cs
unfolding put
put_held [] t u m = inr m
put_held (x ∷ cs) t u m = by (put_held cs t u) (bool (is_free x))
  where
    on : (u ≡ t) ⊎ Held u cs → (u ≡ t) ⊎ Held u (x ∷ cs)
    on (inl e) = inl e
    on (inr h) = inr (Memᴰ.tail h)

    new : (held u ≡ held t) ⊎ Held u cs → (u ≡ t) ⊎ Held u (x ∷ cs)
    new (inl e) = inl (cc e)
    new (inr h) = inr (Memᴰ.tail h)

    old : (Held u (put cs t) → (u ≡ t) ⊎ Held u cs) → (held u ≡ x) ⊎ Held u (put cs t) → (u ≡ t) ⊎ Held u (x ∷ cs)
    old ih (inl e) = inr (Memᴰ.head e)
    old ih (inr h) = on (ih h)

    by : (Held u (put cs t) → (u ≡ t) ⊎ Held u cs) → (is_free x ≡ true) ⊎ (is_free x ≡ false) → (u ≡ t) ⊎ Held u (x ∷ cs)
    by ih (inl f) = new (Memᴰ.cases_cons (subst (Held u) (put_free x cs t f) m))
    by ih (inr f) = old ih (Memᴰ.cases_cons (subst (Held u) (put_on x cs t f) m))

-- ---- cells are given up

-- what a taking leaves in a cell is no segment
pub left_none : (r : Run) (x : Cell) → segment_in (left r x) ≡ none
left_none r x = go (carries_in r.head.key r.head.counter x)
  where
    go : (b : Bool) → segment_in (pick b (taken (range_by r)) free) ≡ none
    go true = refl
    go false = refl

pub segment_left : (b : Bool) (r : Run) (x : Cell) → segment_in (pick b (left r x) x) ≡ pick b none (segment_in x)
segment_left true r x = left_none r x
segment_left false r x = refl

-- what is held under a key and a counter in a cell from which some segments are freed, by its segment
by_freed : (r : Run) (x : Cell) (k : List ℕ) (c : ℕ) →
    held_as k c (freed r x) ≡ by_segment none (λ u. pick (carries k c u) (some u) none) (pick (among_in (segments r) x) none (segment_in x))
by_freed r x k c = ap (by_segment none (λ u. pick (carries k c u) (some u) none)) (segment_left (among_in (segments r) x) r x)

-- what a cell holds once it is freed, where all that is looked for is among the freed
freed_gone :
    (r : Run) (x : Cell) (k : List ℕ) (c : ℕ) → ((t : Seg) → carries k c t ≡ true → among (segments r) t ≡ true) →
    held_as k c (freed r x) ≡ none
freed_gone r x k c h = by_freed r x k c ∙ of (segment_in x)
  where
    go : (t : Seg) → (among (segments r) t ≡ true) ⊎ (among (segments r) t ≡ false) → (carries k c t ≡ true) ⊎ (carries k c t ≡ false) →
        by_segment none (λ u. pick (carries k c u) (some u) none) (pick (among (segments r) t) none (some t)) ≡ none
    go t (inl a) b = rw a
    go t (inr a) (inl b) = absurd (true≢false (sym (h t b) ∙ a))
    go t (inr a) (inr b) = rw (a, b)

    of : (o : Option Seg) → by_segment none (λ u. pick (carries k c u) (some u) none) (pick (by_segment false (among (segments r)) o) none o) ≡ none
    of none = refl
    of (some t) = go t (bool (among (segments r) t)) (bool (carries k c t))

freed_kept :
    (r : Run) (x : Cell) (k : List ℕ) (c : ℕ) → ((t : Seg) → carries k c t ≡ true → among (segments r) t ≡ false) →
    held_as k c (freed r x) ≡ held_as k c x
freed_kept r x k c h = by_freed r x k c ∙ of (segment_in x)
  where
    go : (t : Seg) → (among (segments r) t ≡ true) ⊎ (among (segments r) t ≡ false) → (carries k c t ≡ true) ⊎ (carries k c t ≡ false) →
        by_segment none (λ u. pick (carries k c u) (some u) none) (pick (among (segments r) t) none (some t)) ≡ pick (carries k c t) (some t) none
    go t (inl a) (inl b) = absurd (true≢false (sym a ∙ h t b))
    go t (inl a) (inr b) = rw (a, b)
    go t (inr a) b = rw a

    of : (o : Option Seg) → by_segment none (λ u. pick (carries k c u) (some u) none) (pick (by_segment false (among (segments r)) o) none o) ≡
        by_segment none (λ u. pick (carries k c u) (some u) none) o
    of none = refl
    of (some t) = go t (bool (among (segments r) t)) (bool (carries k c t))

pub clear_gone :
    (r : Run) (cs : List Cell) (k : List ℕ) (c : ℕ) → ((t : Seg) → carries k c t ≡ true → among (segments r) t ≡ true) →
    look (clear r cs) k c ≡ none
unfolding look
clear_gone r [] k c h = refl
clear_gone r (x ∷ cs) k c h = rw (freed_gone r x k c h) (clear_gone r cs k c h)

pub clear_kept :
    (r : Run) (cs : List Cell) (k : List ℕ) (c : ℕ) → ((t : Seg) → carries k c t ≡ true → among (segments r) t ≡ false) →
    look (clear r cs) k c ≡ look cs k c
unfolding look
clear_kept r [] k c h = refl
clear_kept r (x ∷ cs) k c h = rw (freed_kept r x k c h, clear_kept r cs k c h)

freed_held : (r : Run) (x : Cell) (t : Seg) → held t ≡ freed r x → (held t ≡ x) × (among (segments r) t ≡ false)
freed_held r x t e = go (bool (among_in (segments r) x))
  where
    go : (among_in (segments r) x ≡ true) ⊎ (among_in (segments r) x ≡ false) → (held t ≡ x) × (among (segments r) t ≡ false)
    go (inl a) = absurd (some-ne-none t (ap segment_in (e ∙ ap (λ (b : Bool). pick b (left r x) x) a) ∙ left_none r x))
    go (inr a) = let f : held t ≡ x = e ∙ ap (λ (b : Bool). pick b (left r x) x) a in (f, ap (among_in (segments r)) f ∙ a)

pub clear_held : (r : Run) (cs : List Cell) (t : Seg) → Held t (clear r cs) → Held t cs × (among (segments r) t ≡ false)
clear_held r [] t m = absurd (Memᴰ.not-nil m)
clear_held r (x ∷ cs) t m = go (clear_held r cs t) (Memᴰ.cases_cons m)
  where
    go : (Held t (clear r cs) → Held t cs × (among (segments r) t ≡ false)) → (held t ≡ freed r x) ⊎ Held t (clear r cs) →
        Held t (x ∷ cs) × (among (segments r) t ≡ false)
    go ih (inl e) = (Memᴰ.head (freed_held r x t e).0, (freed_held r x t e).1)
    go ih (inr h) = (Memᴰ.tail (ih h).0, (ih h).1)
