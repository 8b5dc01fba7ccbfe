-- A record that is forgotten: what the cells hold stays as it was, no other record goes, and none comes; and the record that a taking leaves.
-- Assumes nothing.
use Prim.Native.Nat.{ℕ, zero, suc}
use mathlib.Core.Path.{◌≡◌, refl, sym, ◌∙◌, ap}
use mathlib.Core.Logic.{◌⊎◌, inl, inr}
use mathlib.Core.Bool.{true}
use mathlib.Core.Option.{Option, none, some}
use mathlib.Core.List.Memᴰ
use mathlib.Core.List.{List, [], ◌∷◌}
use native.Mathlib.Omega.{arith}
use lib.ListN.{length, get_or}
use Rattle.octets.specs.Octets.{pick}
use Rattle.cells.specs.Segments.{Seg, carries}
use Rattle.cells.specs.Rows.{Range, Cell, free, held, taken, broken, segment_in, by_segment}
use Rattle.cells.specs.Messages.{Run, segments, or_else, held_as, look, among}
use Rattle.taking.specs.Forgetting.{is_record}
use Rattle.demand3.specs.Cells.{range_by, freed, clear, forgotten}
use Rattle.demand3.specs.Complete.{Held, Single}
use Rattle.demand3.proofs.Looks.{carries_self}
use Rattle.demand3.proofs.Ranges.{Noted, free_not}

-- ---- one cell

abbrev emptied : Cell → Cell
emptied x = pick (is_record x) free x

emptied_segment : (x : Cell) → segment_in (emptied x) ≡ segment_in x
emptied_segment free = refl
emptied_segment (held t) = refl
emptied_segment (taken g) = refl
emptied_segment broken = refl

emptied_held : (x : Cell) (t : Seg) → held t ≡ emptied x → held t ≡ x
emptied_held free t e = e
emptied_held (held u) t e = e
emptied_held (taken g) t e = absurd (let z : ◌≡◌ {A = ℕ} 0 1 = cc in omega arith)
emptied_held broken t e = e

emptied_noted : (x : Cell) (g : Range) → taken g ≡ emptied x → taken g ≡ x
emptied_noted free g e = e
emptied_noted (held u) g e = e
emptied_noted (taken h) g e = absurd (free_not g (sym e))
emptied_noted broken g e = e

-- ---- what is held

pub look_forgotten : (i : ℕ) (cs : List Cell) (k : List ℕ) (c : ℕ) → look (forgotten i cs) k c ≡ look cs k c
unfolding look forgotten
look_forgotten i [] k c = refl
look_forgotten zero (x ∷ cs) k c =
    ap (λ (o : Option Seg). or_else (by_segment none (λ t. pick (carries k c t) (some t) none) o) (look cs k c)) (emptied_segment x)
look_forgotten (suc i) (x ∷ cs) k c = ap (or_else (held_as k c x)) (look_forgotten i cs k c)

pub held_forgotten : (i : ℕ) (cs : List Cell) (t : Seg) → Held t (forgotten i cs) → Held t cs
unfolding forgotten
held_forgotten i [] t h = h
held_forgotten zero (x ∷ cs) t h = go (Memᴰ.cases_cons h)
  where
    go : (held t ≡ emptied x) ⊎ Held t cs → Held t (x ∷ cs)
    go (inl e) = Memᴰ.head (emptied_held x t e)
    go (inr k) = Memᴰ.tail k
held_forgotten (suc i) (x ∷ cs) t h = go (held_forgotten i cs t) (Memᴰ.cases_cons h)
  where
    go : (Held t (forgotten i cs) → Held t cs) → (held t ≡ x) ⊎ Held t (forgotten i cs) → Held t (x ∷ cs)
    go ih (inl e) = Memᴰ.head e
    go ih (inr k) = Memᴰ.tail (ih k)

pub forgotten_single : (i : ℕ) (cs : List Cell) → Single cs → Single (forgotten i cs)
forgotten_single i cs s t h = look_forgotten i cs t.key t.counter ∙ s t (held_forgotten i cs t h)

pub forgotten_length : (i : ℕ) (cs : List Cell) → length (forgotten i cs) ≡ length cs
unfolding forgotten
forgotten_length i [] = refl
forgotten_length zero (x ∷ cs) = refl
forgotten_length (suc i) (x ∷ cs) = ap suc (forgotten_length i cs)

-- ---- which records there are

pub forgotten_noted : (i : ℕ) (cs : List Cell) (g : Range) → Noted g (forgotten i cs) → Noted g cs
unfolding forgotten
forgotten_noted i [] g h = h
forgotten_noted zero (x ∷ cs) g h = go (Memᴰ.cases_cons h)
  where
    go : (taken g ≡ emptied x) ⊎ Noted g cs → Noted g (x ∷ cs)
    go (inl e) = Memᴰ.head (emptied_noted x g e)
    go (inr k) = Memᴰ.tail k
forgotten_noted (suc i) (x ∷ cs) g h = go (forgotten_noted i cs g) (Memᴰ.cases_cons h)
  where
    go : (Noted g (forgotten i cs) → Noted g cs) → (taken g ≡ x) ⊎ Noted g (forgotten i cs) → Noted g (x ∷ cs)
    go ih (inl e) = Memᴰ.head e
    go ih (inr k) = Memᴰ.tail (ih k)

-- one that is not in the cell stays
pub noted_forgotten : (i : ℕ) (cs : List Cell) (g : Range) → (get_or cs i free ≡ taken g → ⊥) → Noted g cs → Noted g (forgotten i cs)
unfolding forgotten
noted_forgotten i [] g n h = h
noted_forgotten zero (x ∷ cs) g n h = go (Memᴰ.cases_cons h)
  where
    go : (taken g ≡ x) ⊎ Noted g cs → Noted g (emptied x ∷ cs)
    go (inl e) = absurd (n (sym e))
    go (inr k) = Memᴰ.tail k
noted_forgotten (suc i) (x ∷ cs) g n h = go (noted_forgotten i cs g n) (Memᴰ.cases_cons h)
  where
    go : (Noted g cs → Noted g (forgotten i cs)) → (taken g ≡ x) ⊎ Noted g cs → Noted g (x ∷ forgotten i cs)
    go ih (inl e) = Memᴰ.head e
    go ih (inr k) = Memᴰ.tail (ih k)

-- ---- where a record is

pub noted_at : (cs : List Cell) (g : Range) → Noted g cs → (i : ℕ) × (get_or cs i free ≡ taken g)
noted_at [] g h = absurd (Memᴰ.not-nil h)
noted_at (x ∷ cs) g h = go (noted_at cs g) (Memᴰ.cases_cons h)
  where
    go : (Noted g cs → (i : ℕ) × (get_or cs i free ≡ taken g)) → (taken g ≡ x) ⊎ Noted g cs → (i : ℕ) × (get_or (x ∷ cs) i free ≡ taken g)
    go ih (inl e) = (0, sym e)
    go ih (inr k) = let z = ih k in (suc z.0, z.1)

pub at_noted : (cs : List Cell) (i : ℕ) (g : Range) → get_or cs i free ≡ taken g → Noted g cs
at_noted [] i g e = absurd (free_not g e)
at_noted (x ∷ cs) zero g e = Memᴰ.head (sym e)
at_noted (x ∷ cs) (suc i) g e = Memᴰ.tail (at_noted cs i g e)

-- ---- a taking leaves the record of its message

pub own_noted : (r : Run) (cs : List Cell) → among (segments r) r.head ≡ true → Held r.head cs → Noted (range_by r) (clear r cs)
own_noted r [] a h = absurd (Memᴰ.not-nil h)
own_noted r (x ∷ cs) a h = go (own_noted r cs a) (Memᴰ.cases_cons h)
  where
    here : held r.head ≡ x → taken (range_by r) ≡ freed r x
    here e = rw (← e, a, carries_self r.head)

    go : (Held r.head cs → Noted (range_by r) (clear r cs)) → (held r.head ≡ x) ⊎ Held r.head cs → Noted (range_by r) (freed r x ∷ clear r cs)
    go ih (inl e) = Memᴰ.head (here e)
    go ih (inr k) = Memᴰ.tail (ih k)
