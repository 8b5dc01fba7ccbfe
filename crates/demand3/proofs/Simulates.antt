-- The cells after a list of calls are the cells after its events; what a call takes is what the event takes; and a packet was
-- handed over exactly if its event is among them.
-- Assumes nothing.
use Prim.Native.Nat.{ℕ}
use mathlib.Core.Path.{◌≡◌, refl, ap, sym, ◌∙◌, subst}
use mathlib.Core.Logic.{◌⊎◌, inl, inr}
use mathlib.Core.Bool.{Bool, true, false}
use mathlib.Core.Option.{none, some}
use mathlib.Core.List.Memᴰ
use mathlib.Core.List.{List, [], ◌∷◌, ◌++◌, Memᴰ}
use native.Mathlib.Omega.{arith}
use lib.ListN.{length}
use Rattle.octets.specs.Octets.{pick}
use Rattle.walk.specs.declared.Settings.{Settings}
use Rattle.packet.specs.Numbers.{next_counter, steps_most}
use Rattle.cells.specs.Segments.{Seg}
use Rattle.cells.specs.Rows.{Cell}
use Rattle.cells.specs.Messages.{cells_of, Run}
use Rattle.taking.specs.Taking.{message, took}
use Rattle.join.specs.Joining.{less_taken}
use Rattle.demand3.specs.Traffic.{arrives, takes, forgets, taken_from, stepped, after}
use Rattle.demand3.specs.Calls.{Call, arrival, taking, joining, forgetting, Brings, Handed, Plain, out_of, draws, store_at, took_by, store_by, store_after}
use Rattle.demand3.proofs.Called.{store_by_lem}
use Rattle.demand3.proofs.Plain.{Pure, plain_first, plain_rest}
use Rattle.demand3.proofs.Keeps.{after_append}
use Rattle.demand3.proofs.Steps.{event_of, Kept, arrival_cells, arrival_keeps, took_is, taking_cells, taking_keeps, forgetting_cells, forgetting_keeps}
use Rattle.demand3.proofs.Events.{before, drawing, events_by, events_in}

-- a call that takes a message
pub by_took : (s : Settings) (Z : ℕ) (st : List ℕ) (c : Call) (r : Run) → took_by s Z st c ≡ some (message r) →
    (draws s Z st c ≡ true) × (took s Z (store_at s Z st c) (length (out_of c)) ≡ message r)
unfolding took_by
by_took s Z st c r e = go (draws s Z st c) e
  where
    go : (b : Bool) → pick b (some (took s Z (store_at s Z st c) (length (out_of c)))) none ≡ some (message r) →
        (b ≡ true) × (took s Z (store_at s Z st c) (length (out_of c)) ≡ message r)
    go true d = (refl, cc)
    go false d = let z : ◌≡◌ {A = ℕ} 0 1 = cc in absurd (omega arith)

module _ (s : Settings) (Z n : ℕ) where
  -- ---- one call

  module _ (st : List ℕ) (k : Kept s Z n st) where
    abbrev cs : List Cell
    cs = cells_of s Z st n

    -- the store that its taking finds
    pub at_keeps : (c : Call) → Pure c → Kept s Z n (store_at s Z st c)
    at_keeps (arrival p) o = arrival_keeps s Z n st k p (o p (inl refl))
    at_keeps (taking out) o = k
    at_keeps (joining p out) o = arrival_keeps s Z n st k p (o p (inr (out, refl)))
    at_keeps (forgetting i) o = forgetting_keeps s Z n st k i

    pub at_cells : (c : Call) → cells_of s Z (store_at s Z st c) n ≡ after next_counter steps_most cs (before s Z c)
    unfolding after
    at_cells (arrival p) = arrival_cells s Z n st k p
    at_cells (taking out) = refl
    at_cells (joining p out) = arrival_cells s Z n st k p
    at_cells (forgetting i) = forgetting_cells s Z n st k i

    -- what it takes
    pub took_by_lem : (c : Call) → Pure c → draws s Z st c ≡ true →
        took_by s Z st c ≡ some (taken_from next_counter steps_most (after next_counter steps_most cs (before s Z c)) (length (out_of c)))
    unfolding took_by
    took_by_lem c o d =
        ap (λ (b : Bool). pick b (some (took s Z (store_at s Z st c) (length (out_of c)))) none) d
        ∙ ap some
        (took_is s Z n (store_at s Z st c) (at_keeps c o) (length (out_of c))
        ∙ ap (λ (x : List Cell). taken_from next_counter steps_most x (length (out_of c))) (at_cells c))

    pub by_keeps : (c : Call) → Pure c → Kept s Z n (store_by s Z st c)
    by_keeps c o = subst (Kept s Z n) (sym (store_by_lem s Z st c)) (go (draws s Z st c))
      where
        go : (b : Bool) → Kept s Z n (pick b (less_taken s Z (store_at s Z st c) (length (out_of c))) (store_at s Z st c))
        go true = taking_keeps s Z n (store_at s Z st c) (at_keeps c o) (length (out_of c))
        go false = at_keeps c o

    pub by_cells : (c : Call) → Pure c → cells_of s Z (store_by s Z st c) n ≡ after next_counter steps_most cs (events_by s Z st c)
    unfolding after
    by_cells c o =
        ap (λ (x : List ℕ). cells_of s Z x n) (store_by_lem s Z st c)
        ∙ go (draws s Z st c)
        ∙ sym (after_append next_counter steps_most cs (before s Z c) (drawing s Z (draws s Z st c) c))
      where
        go : (b : Bool) → cells_of s Z (pick b (less_taken s Z (store_at s Z st c) (length (out_of c))) (store_at s Z st c)) n ≡
            after next_counter steps_most (after next_counter steps_most cs (before s Z c)) (drawing s Z b c)
        go true =
            taking_cells s Z n (store_at s Z st c) (at_keeps c o) (length (out_of c))
            ∙ ap (λ (x : List Cell). stepped next_counter steps_most x (takes (length (out_of c)))) (at_cells c)
        go false = at_cells c

  -- ---- a list of calls

  pub run_keeps : (l : List Call) (st : List ℕ) → Kept s Z n st → Plain l → Kept s Z n (store_after s Z st l)
  unfolding store_after
  run_keeps [] st k o = k
  run_keeps (c ∷ l) st k o = run_keeps l (store_by s Z st c) (by_keeps st k c (plain_first c l o)) (plain_rest c l o)

  pub run_cells : (l : List Call) (st : List ℕ) → Kept s Z n st → Plain l →
      cells_of s Z (store_after s Z st l) n ≡ after next_counter steps_most (cells_of s Z st n) (events_in s Z st l)
  unfolding store_after events_in after
  run_cells [] st k o = refl
  run_cells (c ∷ l) st k o =
      run_cells l (store_by s Z st c) (by_keeps st k c (plain_first c l o)) (plain_rest c l o)
      ∙ ap (λ (x : List Cell). after next_counter steps_most x (events_in s Z (store_by s Z st c) l)) (by_cells st k c (plain_first c l o))
      ∙ sym (after_append next_counter steps_most (cells_of s Z st n) (events_by s Z st c) (events_in s Z (store_by s Z st c) l))

module _ (s : Settings) (Z : ℕ) where
  -- ---- packets among the calls

  brings_before : (c : Call) (p : List ℕ) → Brings p c → Memᴰ (event_of s Z p) (before s Z c)
  brings_before c p (inl e) = rw e (Memᴰ.head refl)
  brings_before c p (inr e) = rw e.1 (Memᴰ.head refl)

  -- a packet that was handed over is an event
  pub handed_in : (l : List Call) (st : List ℕ) (p : List ℕ) → Handed p l → Memᴰ (event_of s Z p) (events_in s Z st l)
  unfolding events_in
  handed_in [] st p h = absurd (Memᴰ.not-nil h.1)
  handed_in (c ∷ l) st p h = go (λ k. handed_in l (store_by s Z st c) p (h.0, k, h.2)) (Memᴰ.cases_cons h.1)
    where
      go : (Memᴰ h.0 l → Memᴰ (event_of s Z p) (events_in s Z (store_by s Z st c) l)) → (h.0 ≡ c) ⊎ Memᴰ h.0 l →
          Memᴰ (event_of s Z p) (events_by s Z st c ++ events_in s Z (store_by s Z st c) l)
      go ih (inl e) =
          Memᴰ.append_left (events_in s Z (store_by s Z st c) l)
          (Memᴰ.append_left (drawing s Z (draws s Z st c) c) (brings_before c p (rw e at h.2)))
      go ih (inr k) = Memᴰ.append_right (events_by s Z st c) (ih k)

  before_brings : (c : Call) (t : Seg) → Memᴰ (arrives t) (before s Z c) → (p : List ℕ) × Brings p c × (event_of s Z p ≡ arrives t)
  before_brings (arrival p) t h = go (Memᴰ.cases_cons h)
    where
      go : (arrives t ≡ event_of s Z p) ⊎ Memᴰ (arrives t) [] → (q : List ℕ) × Brings q (arrival p) × (event_of s Z q ≡ arrives t)
      go (inl d) = (p, inl refl, sym d)
      go (inr d) = absurd (Memᴰ.not-nil d)
  before_brings (taking out) t h = absurd (Memᴰ.not-nil h)
  before_brings (joining p out) t h = go (Memᴰ.cases_cons h)
    where
      go : (arrives t ≡ event_of s Z p) ⊎ Memᴰ (arrives t) [] → (q : List ℕ) × Brings q (joining p out) × (event_of s Z q ≡ arrives t)
      go (inl d) = (p, inr (out, refl), sym d)
      go (inr d) = absurd (Memᴰ.not-nil d)
  before_brings (forgetting i) t h = go (Memᴰ.cases_cons h)
    where
      go : (arrives t ≡ forgets i) ⊎ Memᴰ (arrives t) [] → (q : List ℕ) × Brings q (forgetting i) × (event_of s Z q ≡ arrives t)
      go (inl d) = let z : ◌≡◌ {A = ℕ} 0 1 = cc in absurd (omega arith)
      go (inr d) = absurd (Memᴰ.not-nil d)

  no_arrival : (b : Bool) (c : Call) (t : Seg) → Memᴰ (arrives t) (drawing s Z b c) → ⊥
  no_arrival true c t h = go (Memᴰ.cases_cons h)
    where
      go : (arrives t ≡ takes (length (out_of c))) ⊎ Memᴰ (arrives t) [] → ⊥
      go (inl e) = let z : ◌≡◌ {A = ℕ} 0 1 = cc in omega arith
      go (inr k) = Memᴰ.not-nil k
  no_arrival false c t h = Memᴰ.not-nil h

  -- and an arrival among the events is a packet that was handed over
  pub in_handed : (l : List Call) (st : List ℕ) (t : Seg) → Memᴰ (arrives t) (events_in s Z st l) →
      (p : List ℕ) × Handed p l × (event_of s Z p ≡ arrives t)
  unfolding events_in
  in_handed [] st t h = absurd (Memᴰ.not-nil h)
  in_handed (c ∷ l) st t h =
      go (in_handed l (store_by s Z st c) t) (Memᴰ.append_cases (events_by s Z st c) h)
    where
      first : Memᴰ (arrives t) (before s Z c) ⊎ Memᴰ (arrives t) (drawing s Z (draws s Z st c) c) →
          (p : List ℕ) × Handed p (c ∷ l) × (event_of s Z p ≡ arrives t)
      first (inl k) =
          let v = before_brings c t k in
          (v.0, (c, Memᴰ.head refl, v.1), v.2)
      first (inr k) = absurd (no_arrival (draws s Z st c) c t k)

      go : (Memᴰ (arrives t) (events_in s Z (store_by s Z st c) l) → (p : List ℕ) × Handed p l × (event_of s Z p ≡ arrives t)) →
          Memᴰ (arrives t) (events_by s Z st c) ⊎ Memᴰ (arrives t) (events_in s Z (store_by s Z st c) l) →
          (p : List ℕ) × Handed p (c ∷ l) × (event_of s Z p ≡ arrives t)
      go ih (inl k) = first (Memᴰ.append_cases (before s Z c) k)
      go ih (inr k) =
          let v = ih k in
          (v.0, (v.1.0, Memᴰ.tail v.1.1, v.1.2), v.2)
