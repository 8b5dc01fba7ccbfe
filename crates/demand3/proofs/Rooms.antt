-- A store with as many cells as segments arrive has room for them, whatever is taken and forgotten: a taking leaves a record in one of its
-- message's cells, and so no more cells in use.
-- Assumes nothing.
use Prim.Native.Nat.{ℕ, zero, suc, ◌+◌, ◌≤◌, ◌<◌, suc-le-suc, zero-le}
use mathlib.Core.Path.{◌≡◌, refl, sym, ◌∙◌, ap}
use mathlib.Core.Logic.{◌⊎◌, inl, inr}
use mathlib.Core.Bool.{true, false, not, true≢false, false≢true, Bool}
use mathlib.Core.Option.{none}
use mathlib.Core.List.{List, [], ◌∷◌, ◌++◌}
use native.Mathlib.Omega.{arith}
use lib.ListN.{length, length-replicate, length-map}
use Rattle.octets.proofs.Lists.{bool}
use Rattle.octets.specs.Octets.{pick}
use Rattle.cells.specs.Segments.{Seg}
use Rattle.cells.specs.Rows.{Cell, free, held, segment_in, by_segment}
use Rattle.cells.specs.Order.{is_free}
use Rattle.cells.specs.Messages.{Run, segments, look, or, among, among_in}
use Rattle.demand3.specs.Cells.{put, has_free, left, freed, recorded}
use Rattle.demand3.specs.Traffic.{Event, arrives, passes, takes, forgets, empty, stepped, after, Room}
use Rattle.demand3.proofs.Takings.{step_keeps}
use Rattle.cells.proofs.CellSegments.{segment_or}
use Rattle.demand3.proofs.Forgets.{forgotten_length}
use Rattle.demand3.proofs.Tally.{number_of, number_map, number_put, number_forgotten}

-- how many segments arrive
unfoldable pub arrivals : List Event → ℕ
arrivals [] = 0
arrivals (arrives t ∷ es) = suc (arrivals es)
arrivals (passes ∷ es) = arrivals es
arrivals (takes n ∷ es) = arrivals es
arrivals (forgets i ∷ es) = arrivals es

-- ---- the number of cells

put_length : (cs : List Cell) (t : Seg) → length (put cs t) ≡ length cs
unfolding put
put_length [] t = refl
put_length (x ∷ cs) t = go (put_length cs t) (is_free x)
  where
    go : length (put cs t) ≡ length cs → (b : Bool) → length (pick b (held t ∷ cs) (x ∷ put cs t)) ≡ suc (length cs)
    go ih true = refl
    go ih false = ap suc ih

module _ (next : ℕ → ℕ) (span : ℕ) where
  step_length : (cs : List Cell) (e : Event) → length (stepped next span cs e) ≡ length cs
  step_length cs e =
      step_keeps next span (λ (x : List Cell). length x ≡ length cs) cs e refl (λ t d v n. put_length cs t)
      (λ long r d m. length-map cs (freed r)) (λ i d. forgotten_length i cs)

  pub after_length : (es : List Event) (cs : List Cell) → length (after next span cs es) ≡ length cs
  unfolding after
  after_length [] cs = refl
  after_length (e ∷ es) cs = after_length es (stepped next span cs e) ∙ step_length cs e

  pub cells_length : (es : List Event) (n : ℕ) → length (after next span (empty n) es) ≡ n
  cells_length es n = after_length es (empty n) ∙ length-replicate n free

-- ---- the number of those not free

abbrev in_use : Cell → Bool
in_use x = not (is_free x)

full_used : (cs : List Cell) → has_free cs ≡ false → number_of in_use cs ≡ length cs
unfolding has_free number_of
full_used [] e = refl
full_used (x ∷ cs) e = go (full_used cs) (is_free x) e
  where
    go : (has_free cs ≡ false → number_of in_use cs ≡ length cs) → (b : Bool) → or b (has_free cs) ≡ false →
        pick (not b) (suc (number_of in_use cs)) (number_of in_use cs) ≡ suc (length cs)
    go ih true d = absurd (true≢false d)
    go ih false d = ap suc (ih d)

-- a cell that a taking leaves was not free before
freed_used : (r : Run) (x : Cell) → in_use (freed r x) ≡ true → in_use x ≡ true
freed_used r x e = go (bool (among_in (segments r) x))
  where
    go : (among_in (segments r) x ≡ true) ⊎ (among_in (segments r) x ≡ false) → in_use x ≡ true
    go (inl a) = by (segment_or x)
      where
        by : ((t : Seg) × (x ≡ held t)) ⊎ (segment_in x ≡ none) → in_use x ≡ true
        by (inl w) = ap in_use w.1
        by (inr n) = absurd (false≢true (sym (ap (by_segment false (among (segments r))) n) ∙ a))
    go (inr a) = sym (ap (λ (b : Bool). in_use (pick b (left r x) x)) a) ∙ e

empty_used : (n : ℕ) → number_of in_use (empty n) ≡ 0
unfolding number_of
empty_used zero = refl
empty_used (suc n) = empty_used n

arrivals_cons : (e : Event) (es : List Event) → arrivals (e ∷ es) ≡ arrivals (e ∷ []) + arrivals es
unfolding arrivals
arrivals_cons (arrives t) es = omega arith
arrivals_cons passes es = omega arith
arrivals_cons (takes n) es = omega arith
arrivals_cons (forgets i) es = omega arith

arrivals_one : (t : Seg) → arrivals (arrives t ∷ []) ≡ 1
unfolding arrivals
arrivals_one t = refl

arrivals_split : (p q : List Event) (t : Seg) → arrivals p < arrivals (p ++ arrives t ∷ q)
unfolding arrivals
arrivals_split [] q t = suc-le-suc zero-le
arrivals_split (arrives u ∷ p) q t = suc-le-suc (arrivals_split p q t)
arrivals_split (passes ∷ p) q t = arrivals_split p q t
arrivals_split (takes n ∷ p) q t = arrivals_split p q t
arrivals_split (forgets i ∷ p) q t = arrivals_split p q t

module _ (next : ℕ → ℕ) (span : ℕ) where
  step_used : (cs : List Cell) (e : Event) → number_of in_use (stepped next span cs e) ≤ number_of in_use cs + arrivals (e ∷ [])
  step_used cs e =
      step_keeps next span (λ (x : List Cell). number_of in_use x ≤ number_of in_use cs + arrivals (e ∷ [])) cs e (omega arith) new
      (λ long r d m. omega (arith, number_map in_use (freed r) (freed_used r) cs)) (λ i d. omega (arith, number_forgotten in_use refl i cs))
    where
      new : (t : Seg) → e ≡ arrives t → recorded next cs t.key t.counter ≡ false → look cs t.key t.counter ≡ none →
          number_of in_use (put cs t) ≤ number_of in_use cs + arrivals (e ∷ [])
      new t d v n =
          let a : arrivals (e ∷ []) ≡ 1 = ap (λ (x : Event). arrivals (x ∷ [])) d ∙ arrivals_one t in
          omega (arith, number_put in_use cs t, a)

  after_used : (es : List Event) (cs : List Cell) → number_of in_use (after next span cs es) ≤ number_of in_use cs + arrivals es
  unfolding after
  after_used [] cs = omega arith
  after_used (e ∷ es) cs = omega (arith, after_used es (stepped next span cs e), step_used cs e, arrivals_cons e es)

  -- fewer segments than cells leave one free
  pub some_free : (cells : ℕ) (es : List Event) → arrivals es < cells → has_free (after next span (empty cells) es) ≡ true
  some_free cells es h = go (bool (has_free (after next span (empty cells) es)))
    where
      go : (has_free (after next span (empty cells) es) ≡ true) ⊎ (has_free (after next span (empty cells) es) ≡ false) →
          has_free (after next span (empty cells) es) ≡ true
      go (inl e) = e
      go (inr e) =
          absurd
          (omega (
            arith,
            full_used (after next span (empty cells) es) e,
            cells_length next span es cells,
            after_used es (empty cells),
            empty_used cells,
          ))

  pub roomy : (cells : ℕ) (es : List Event) → arrivals es ≤ cells → Room next span (empty cells) es
  roomy cells es h p q t d v n = let a : arrivals p < arrivals es = rw d (arrivals_split p q t) in some_free cells p (omega arith)
