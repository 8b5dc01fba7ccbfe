-- What taking picks is a complete message, in SPEC's words, and the one whose first lies in the lowest cell; and where one is
-- complete, taking picks one.
-- Assumes nothing.
use Prim.Native.Nat.{ℕ, zero, suc, ◌≤◌, ◌<◌, suc-le-suc, zero-le}
use mathlib.Core.Path.{◌≡◌, refl, sym, ◌∙◌, ap}
use mathlib.Core.Logic.{◌⊎◌, inl, inr, ◌↔◌}
use mathlib.Core.Option.{some, none-ne-some, some-injective}
use mathlib.Core.List.Memᴰ
use mathlib.Core.List.{List, [], ◌∷◌, ◌++◌}
use native.Mathlib.Omega.{arith}
use lib.ListN.{length}
use Rattle.cells.specs.Segments.{Seg}
use Rattle.cells.specs.Rows.{Cell, held}
use Rattle.cells.specs.Messages.{Role, first, middle, last, Run, segments, look, rest_from, run_from, picked}
use Rattle.demand3.specs.Complete.{Held, Single, Has, Complete}
use Rattle.demand3.proofs.Looks.{look_held, look_at}
use Rattle.demand3.proofs.Links.{Mem, role_in, Linked, Opened, opened_key, linked_at, linked_last, linked_middle}
use Rattle.demand3.proofs.Finds.{There, Joint, link_inv, Found, found_opened, found_there, found_from, Lowest, picked_lowest, picked_held, picked_some}
use Rattle.sender.specs.Sending.{steps_of}

pub below_suc : (j n : ℕ) → j < suc n → (j ≡ n) ⊎ (j < n)
below_suc zero zero h = inl refl
below_suc zero (suc n) h = inr (suc-le-suc zero-le)
below_suc (suc j) zero h = absurd (omega arith)
below_suc (suc j) (suc n) h = go (below_suc j n (omega arith))
  where
    go : (j ≡ n) ⊎ (j < n) → (suc j ≡ suc n) ⊎ (suc j < suc n)
    go (inl e) = inl (ap suc e)
    go (inr l) = inr (suc-le-suc l)

-- what a cell has is what is looked up
pub has_look : (cs : List Cell) → Single cs → (k : List ℕ) (c : ℕ) (f : Role) → Has cs k c f →
    (t : Seg) × (look cs k c ≡ some t) × (role_in t ≡ f)
has_look cs s k c f h = (h.0, look_at cs (sym h.2) (sym h.3) ∙ s h.0 h.1, h.4)

module _ (next : ℕ → ℕ) (span : ℕ) where
  -- ---- a run that is there is complete, and the other way round

  pub there_complete :
      (cs : List Cell) (r : Run) → Opened next r → length r.rest ≤ span → There cs (segments r) →
      Complete next span cs r.head.key r.head.counter (length r.rest)
  unfolding steps_of
  there_complete cs r o l f = by (length r.rest) refl (some_rest r.rest o.follows)
    where
      k : List ℕ
      k = r.head.key

      c : ℕ
      c = r.head.counter

      some_rest : (ts : List Seg) → Linked next k (next c) ts → 1 ≤ length ts
      some_rest [] q = absurd q
      some_rest (t ∷ ts) q = suc-le-suc zero-le

      in_cells : (t : Seg) → Mem t (segments r) → Held t cs
      in_cells t m = (look_held cs t.key t.counter t (f t m)).0

      has : (j : ℕ) (f' : Role) → (t : Seg) × Mem t r.rest × (t.key ≡ k) × (t.counter ≡ steps_of next j (next c)) × (role_in t ≡ f') →
          Has cs k (steps_of next j (next c)) f'
      has j f' z = (z.0, in_cells z.0 (Memᴰ.tail z.1), z.2, z.3, z.4)

      by : (n : ℕ) → length r.rest ≡ n → 1 ≤ n → Complete next span cs k c n
      by zero e h = absurd (omega arith)
      by (suc n) e h = record { opens = op; closes = cl; onward = h; within = (let y : suc n ≤ span = rw e at l in y); between = mid }
        where
          op : Has cs k c first
          op = (r.head, in_cells r.head (Memᴰ.head refl), refl, refl, o.opens)

          cl : Has cs k (steps_of next (suc n) c) last
          cl = has n last (linked_last next k (next c) r.rest o.follows n e)

          mid : (j : ℕ) → 0 < j → j < suc n → Has cs k (steps_of next j c) middle
          mid zero p q = absurd (omega arith)
          mid (suc j) p q = has j middle (linked_middle next k (next c) r.rest o.follows j (omega arith))

  -- complete: under each of the run's counters something is held
  pub complete_some :
      (cs : List Cell) (r : Run) → Single cs → Opened next r →
      Complete next span cs r.head.key r.head.counter (length r.rest) →
      (t : Seg) → Mem t (segments r) → (u : Seg) × (look cs t.key t.counter ≡ some u)
  unfolding steps_of
  complete_some cs r s o d t m = go (Memᴰ.cases_cons m)
    where
      found : (f : Role) → Has cs r.head.key t.counter f → (u : Seg) × (look cs t.key t.counter ≡ some u)
      found f h = let z = has_look cs s r.head.key t.counter f h in (z.0, look_at cs (opened_key next r o t m) refl ∙ z.1)

      go : (t ≡ r.head) ⊎ Mem t r.rest → (u : Seg) × (look cs t.key t.counter ≡ some u)
      go (inl e) = found first (rw (ap (λ (x : Seg). x.counter) e) d.opens)
      go (inr h) = on (linked_at next r.head.key (next r.head.counter) r.rest o.follows t h)
        where
          on : (j : ℕ) × (j < length r.rest) × (t.counter ≡ steps_of next j (next r.head.counter)) →
              (u : Seg) × (look cs t.key t.counter ≡ some u)
          on z = ends (below_suc (suc z.0) (length r.rest) (suc-le-suc z.1))
            where
              ends : (suc z.0 ≡ length r.rest) ⊎ (suc z.0 < length r.rest) →
                  (u : Seg) × (look cs t.key t.counter ≡ some u)
              ends (inl e) = found last (rw z.2 (rw (← e) at d.closes))
              ends (inr l) = found middle (rw z.2 (d.between (suc z.0) (suc-le-suc zero-le) l))

  -- ---- complete exactly if picked

  rest_complete :
      (cs : List Cell) → Single cs → (n fuel : ℕ) (k : List ℕ) (c : ℕ) → n < fuel → Has cs k (steps_of next n c) last →
      ((j : ℕ) → j < n → Has cs k (steps_of next j c) middle) →
      (r : List Seg) × (rest_from next span fuel cs k c ≡ some r) × (length r ≡ suc n)
  unfolding rest_from steps_of
  rest_complete cs s n zero k c h l m = absurd (omega arith)
  rest_complete cs s zero (suc fuel) k c h l m = let v = has_look cs s k c last l in (v.0 ∷ [], rw v.1 (rw v.2), refl)
  rest_complete cs s (suc n) (suc fuel) k c h l m =
      let v = has_look cs s k c middle (m 0 (suc-le-suc zero-le)) in
      let r = rest_complete cs s n fuel k (next c) (omega arith) l (λ j g. m (suc j) (suc-le-suc g)) in
      (v.0 ∷ r.0, rw (v.1, r.1) (rw v.2), ap suc r.2)

  -- a complete message is a run that the search finds from its first
  pub complete_found :
      (cs : List Cell) → Single cs → (k : List ℕ) (c n : ℕ) → Complete next span cs k c n →
      (r : Run) × Held r.head cs × Found next span cs r × (r.head.key ≡ k) × (r.head.counter ≡ c) × (length r.rest ≡ n)
  unfolding steps_of
  complete_found cs s k c zero d = absurd (let h = d.onward in omega arith)
  complete_found cs s k c (suc n) d =
      let o = d.opens in
      let r =
      rest_complete cs s n span k (next c) (let h = d.within in omega arith) d.closes
      (λ j g. d.between (suc j) (suc-le-suc zero-le) (suc-le-suc g)) in
      (record { head = o.0; rest = r.0 }, o.1, record { opens = o.4; finds = rw (o.2, o.3) r.1 }, o.2, o.3, r.2)

  -- where any message is complete, taking picks one
  pub complete_picks : (cs : List Cell) → Single cs → (k : List ℕ) (c n : ℕ) → Complete next span cs k c n →
      (r : Run) × (picked next span cs ≡ some r)
  complete_picks cs s k c n d = let z = complete_found cs s k c n d in picked_some next span cs z.0 z.1 z.2

  pub rest_short : (n : ℕ) (cs : List Cell) (k : List ℕ) (c : ℕ) (r : List Seg) → rest_from next span n cs k c ≡ some r → length r ≤ n
  unfolding rest_from
  rest_short zero cs k c r e = absurd (none-ne-some r e)
  rest_short (suc n) cs k c r e = go (rest_short n cs k (next c)) (link_inv (look cs k c) (rest_from next span n cs k (next c)) r e)
    where
      go : ((r' : List Seg) → rest_from next span n cs k (next c) ≡ some r' → length r' ≤ n) →
          (t : Seg) × (look cs k c ≡ some t) × Joint (rest_from next span n cs k (next c)) r t → length r ≤ suc n
      go ih w = on w.2
        where
          on : Joint (rest_from next span n cs k (next c)) r w.0 → length r ≤ suc n
          on (inl q) = rw q.1 (suc-le-suc zero-le)
          on (inr q) = rw q.1.2 (suc-le-suc (ih q.1.0 q.1.1))

  -- what is found from a held first is complete, and all its segments are there
  pub found_complete :
      (cs : List Cell) (r : Run) → Single cs → Held r.head cs → Found next span cs r →
      Complete next span cs r.head.key r.head.counter (length r.rest)
  found_complete cs r s h f =
      there_complete cs r (found_opened next span cs r f)
      (rest_short span cs r.head.key (next r.head.counter) r.rest f.finds) (found_there next span cs r s h f)

  -- what taking picks
  pub record Picks (cs : List Cell) (r : Run) : Type 0 where
    -- it is complete
    pub complete : Complete next span cs r.head.key r.head.counter (length r.rest)
    -- its segments are linked, and are what is held under their keys and counters
    pub linked : Opened next r
    pub there : There cs (segments r)
    -- its first lies in a cell, and no first of a complete message in a lower one
    pub lower : List Cell
    pub higher : List Cell
    pub place : cs ≡ lower ++ held r.head ∷ higher
    pub lowest : (t : Seg) → Held t lower → (n : ℕ) → Complete next span cs t.key t.counter n → ⊥

  pub picked_complete : (cs : List Cell) → Single cs → (r : Run) → picked next span cs ≡ some r → Picks cs r
  picked_complete cs s r e =
      record {
        complete = found_complete cs r s h f;
        linked = found_opened next span cs r f;
        there = found_there next span cs r s h f;
        lower = w.0;
        higher = w.1;
        place = w.2;
        lowest = none_lower;
      }
    where
      h : Held r.head cs
      h = picked_held next span cs r e

      f : Found next span cs r
      f = (picked_lowest next span cs r e).1

      w : Lowest next span cs cs r
      w = (picked_lowest next span cs r e).0

      none_lower : (t : Seg) → Held t w.0 → (n : ℕ) → Complete next span cs t.key t.counter n → ⊥
      none_lower t m n d =
          let z = complete_found cs s t.key t.counter n d in
          let i : Held t (w.0 ++ held r.head ∷ w.1) = Memᴰ.append_left (held r.head ∷ w.1) m in
          let g : Held t cs = rw w.2 i in
          let q : z.0.head ≡ t =
          some-injective z.0.head t (sym (s z.0.head z.1) ∙ look_at cs z.3 z.4 ∙ s t g) in
          none-ne-some z.0 (sym (w.3 t m) ∙ ap (run_from next span cs) (sym q) ∙ found_from next span cs z.0 z.2)

  -- taking picks a message exactly where one is complete
  pub picked_exactly :
      (cs : List Cell) → Single cs →
      ((r : Run) × (picked next span cs ≡ some r)) ↔ ((k : List ℕ) × (c : ℕ) × (n : ℕ) × Complete next span cs k c n)
  picked_exactly cs s = (
    λ w. (w.0.head.key, w.0.head.counter, length w.0.rest, (picked_complete cs s w.0 w.1).complete),
    λ w. complete_picks cs s w.0 w.1 w.2 w.3,
  )
