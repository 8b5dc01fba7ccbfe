-- What the store's search finds: linked segments that are held; a linked run that is held whole is found; what is picked lies lowest.
-- Assumes nothing.
use Prim.Native.Nat.{ℕ, zero, suc, ◌≤◌}
use mathlib.Core.Path.{◌≡◌, refl, sym, ◌∙◌, ap}
use mathlib.Core.Logic.{◌⊎◌, inl, inr}
use mathlib.Core.Option.{Option, none, some, none-ne-some, some-injective}
use mathlib.Core.List.Memᴰ
use mathlib.Core.List.{List, [], ◌∷◌, ◌++◌}
use native.Mathlib.Omega.{arith}
use lib.ListN.{length}
use Rattle.cells.specs.Segments.{Seg}
use Rattle.cells.specs.Rows.{Cell, held, segment_in, by_segment}
use Rattle.cells.proofs.CellSegments.{segment_or}
use Rattle.cells.specs.Messages.{Role, first, middle, last, Run, segments, or_else, look, link_by, link, opens_by, rest_from, run_from, run_in, pick_in, picked}
use Rattle.cells.proofs.Distinct.{carries_true}
use Rattle.demand3.specs.Complete.{Held, Single}
use Rattle.demand3.proofs.Looks.{look_held, look_at}
use Rattle.demand3.proofs.Links.{Mem, role_in, middle_last, Linked, Opened}

-- ---- one step of the search, taken apart

-- the segments are all there, each under its own key and counter
abbrev pub There : List Cell → List Seg → Type 0
There cs ts = (t : Seg) → Mem t ts → look cs t.key t.counter ≡ some t

-- under these segments' keys and counters these are held, or nothing
abbrev pub Only : List Cell → List Seg → Type 0
Only cs ts = (t u : Seg) → Mem t ts → look cs t.key t.counter ≡ some u → u ≡ t

abbrev pub Joint : Option (List Seg) → List Seg → Seg → Type 0
Joint q r t = ((role_in t ≡ last) × (r ≡ t ∷ [])) ⊎ ((role_in t ≡ middle) × ((ts : List Seg) × (q ≡ some ts) × (r ≡ t ∷ ts)))

link_by_inv : (f : Role) (t : Seg) (q : Option (List Seg)) (r : List Seg) → role_in t ≡ f → link_by f t q ≡ some r → Joint q r t
link_by_inv first t q r h e = absurd (none-ne-some r e)
link_by_inv middle t none r h e = absurd (none-ne-some r e)
link_by_inv middle t (some ts) r h e = inr (h, (ts, refl, sym (some-injective (t ∷ ts) r e)))
link_by_inv last t q r h e = inl (h, sym (some-injective (t ∷ []) r e))

pub link_inv : (o : Option Seg) (q : Option (List Seg)) (r : List Seg) → link o q ≡ some r → (t : Seg) × (o ≡ some t) × Joint q r t
link_inv none q r e = absurd (none-ne-some r e)
link_inv (some t) q r e = (t, refl, link_by_inv (role_in t) t q r refl e)

opens_inv : (f : Role) (t : Seg) (q : Option (List Seg)) (r : Run) → opens_by f t q ≡ some r →
    (f ≡ first) × (r.head ≡ t) × (q ≡ some r.rest)
opens_inv first t none r e = absurd (none-ne-some r e)
opens_inv first t (some ts) r e =
    let p : ◌≡◌ {A = Run} record { head = t; rest = ts } r = some-injective _ r e in
    (refl, sym (ap (λ (x : Run). x.head) p), ap (λ (x : Run). some x.rest) p)
opens_inv middle t q r e = absurd (none-ne-some r e)
opens_inv last t q r e = absurd (none-ne-some r e)

-- a segment that is looked for under some key and counter has them
pub look_own : (cs : List Cell) (k : List ℕ) (c : ℕ) (t : Seg) → look cs k c ≡ some t →
    (t.key ≡ k) × (t.counter ≡ c) × (look cs t.key t.counter ≡ some t)
look_own cs k c t e =
    let h = carries_true k c t (look_held cs k c t e).1 in
    (sym h.0, sym h.1, look_at cs (sym h.0) (sym h.1) ∙ e)

module _ (next : ℕ → ℕ) (span : ℕ) where
  -- ---- the rest of a run

  -- what it finds is linked, and is there
  pub rest_linked : (n : ℕ) (cs : List Cell) (k : List ℕ) (c : ℕ) (r : List Seg) → rest_from next span n cs k c ≡ some r →
      Linked next k c r × There cs r
  unfolding rest_from
  rest_linked zero cs k c r e = absurd (none-ne-some r e)
  rest_linked (suc n) cs k c r e = go (rest_linked n cs k (next c)) (link_inv (look cs k c) (rest_from next span n cs k (next c)) r e)
    where
      there : (t : Seg) (ts : List Seg) → look cs t.key t.counter ≡ some t → There cs ts → There cs (t ∷ ts)
      there t ts h f u m = at (Memᴰ.cases_cons m)
        where
          at : (u ≡ t) ⊎ Mem u ts → look cs u.key u.counter ≡ some u
          at (inl e') = rw e' h
          at (inr m') = f u m'

      go : ((r' : List Seg) → rest_from next span n cs k (next c) ≡ some r' → Linked next k (next c) r' × There cs r') →
          (t : Seg) × (look cs k c ≡ some t) × Joint (rest_from next span n cs k (next c)) r t → Linked next k c r × There cs r
      go ih w = on (look_own cs k c w.0 w.1) w.2
        where
          on : (w.0.key ≡ k) × (w.0.counter ≡ c) × (look cs w.0.key w.0.counter ≡ some w.0) →
              Joint (rest_from next span n cs k (next c)) r w.0 → Linked next k c r × There cs r
          on h (inl q) = rw q.1 ((h.0, h.1, inl (q.0, refl)), there w.0 [] h.2 (λ u m. absurd (Memᴰ.not-nil m)))
          on h (inr q) =
              let z = ih q.1.0 q.1.1 in
              rw q.1.2 ((h.0, h.1, inr (q.0, z.0)), there w.0 q.1.0 h.2 z.1)

  -- linked segments that are all there are found
  pub rest_all :
      (n : ℕ) (cs : List Cell) (k : List ℕ) (c : ℕ) (ts : List Seg) → Linked next k c ts → length ts ≤ n → There cs ts →
      rest_from next span n cs k c ≡ some ts
  unfolding rest_from
  rest_all n cs k c [] l h f = absurd l
  rest_all zero cs k c (t ∷ ts) l h f = absurd (omega arith)
  rest_all (suc n) cs k c (t ∷ ts) l h f = go (rest_all n cs k (next c) ts) l.2
    where
      here : look cs k c ≡ some t
      here = look_at cs (sym l.0) (sym l.1) ∙ f t (Memᴰ.head refl)

      go : (Linked next k (next c) ts → length ts ≤ n → There cs ts → rest_from next span n cs k (next c) ≡ some ts) →
          ((role_in t ≡ last) × (ts ≡ [])) ⊎ ((role_in t ≡ middle) × Linked next k (next c) ts) →
          link (look cs k c) (rest_from next span n cs k (next c)) ≡ some (t ∷ ts)
      go ih (inl d) = rw (here, d.0, d.1) refl
      go ih (inr d) = rw (here, d.0, ih d.1 (omega arith) (λ u m. f u (Memᴰ.tail m))) refl

  -- where linked segments are the only ones under their counters, the rest is just those
  pub rest_only :
      (n : ℕ) (cs : List Cell) (k : List ℕ) (c : ℕ) (ts r : List Seg) → Linked next k c ts → Only cs ts →
      rest_from next span n cs k c ≡ some r → r ≡ ts
  unfolding rest_from
  rest_only n cs k c [] r l o e = absurd l
  rest_only zero cs k c (t ∷ ts) r l o e = absurd (none-ne-some r e)
  rest_only (suc n) cs k c (t ∷ ts) r l o e =
      go (rest_only n cs k (next c) ts) (link_inv (look cs k c) (rest_from next span n cs k (next c)) r e)
    where
      go : ((r' : List Seg) → Linked next k (next c) ts → Only cs ts → rest_from next span n cs k (next c) ≡ some r' → r' ≡ ts) →
          (u : Seg) × (look cs k c ≡ some u) × Joint (rest_from next span n cs k (next c)) r u → r ≡ t ∷ ts
      go ih w = on w.2 l.2
        where
          mine : w.0 ≡ t
          mine = o t w.0 (Memᴰ.head refl) (look_at cs l.0 l.1 ∙ w.1)

          on : Joint (rest_from next span n cs k (next c)) r w.0 →
              ((role_in t ≡ last) × (ts ≡ [])) ⊎ ((role_in t ≡ middle) × Linked next k (next c) ts) → r ≡ t ∷ ts
          on (inl q) (inl d) = q.1 ∙ ap (λ (x : Seg). x ∷ []) mine ∙ ap (λ (x : List Seg). t ∷ x) (sym d.1)
          on (inl q) (inr d) = middle_last d.0 (ap role_in (sym mine) ∙ q.0)
          on (inr q) (inl d) = middle_last (ap role_in (sym mine) ∙ q.0) d.0
          on (inr q) (inr d) =
              let a : q.1.0 ≡ ts = ih q.1.0 d.1 (λ x y m. o x y (Memᴰ.tail m)) q.1.1 in
              q.1.2 ∙ ap (λ (x : Seg). x ∷ q.1.0) mine ∙ ap (λ (x : List Seg). t ∷ x) a

  -- ---- what is picked

  -- the run is what the search finds from its first
  pub record Found (cs : List Cell) (r : Run) : Type 0 where
    pub opens : role_in r.head ≡ first
    pub finds : rest_from next span span cs r.head.key (next r.head.counter) ≡ some r.rest

  pub found_opened : (cs : List Cell) (r : Run) → Found cs r → Opened next r
  found_opened cs r f =
      record { opens = f.opens; follows = (rest_linked span cs r.head.key (next r.head.counter) r.rest f.finds).0 }

  pub found_there : (cs : List Cell) (r : Run) → Single cs → Held r.head cs → Found cs r → There cs (segments r)
  found_there cs r s h f t m = go (Memᴰ.cases_cons m)
    where
      go : (t ≡ r.head) ⊎ Mem t r.rest → look cs t.key t.counter ≡ some t
      go (inl e) = rw e (s r.head h)
      go (inr k) = (rest_linked span cs r.head.key (next r.head.counter) r.rest f.finds).1 t k

  from_found : (cs : List Cell) (t : Seg) (r : Run) → run_from next span cs t ≡ some r → (r.head ≡ t) × Found cs r
  unfolding run_from
  from_found cs t r e =
      let w = opens_inv (role_in t) t (rest_from next span span cs t.key (next t.counter)) r e in (
        w.1,
        record {
          opens = ap role_in w.1 ∙ w.0;
          finds = ap (λ (x : Seg). rest_from next span span cs x.key (next x.counter)) w.1 ∙ w.2;
        },
      )

  pub found_from : (cs : List Cell) (r : Run) → Found cs r → run_from next span cs r.head ≡ some r
  unfolding run_from
  found_from cs r f = rw (f.opens, f.finds) refl

  -- the run begins in one of the cells, and in no lower one does any
  abbrev pub Lowest : List Cell → List Cell → Run → Type 0
  Lowest cs xs r =
      (p : List Cell) × (q : List Cell) × (xs ≡ p ++ held r.head ∷ q) × ((t : Seg) → Held t p → run_from next span cs t ≡ none)

  in_lowest : (cs : List Cell) (x : Cell) (xs : List Cell) (r : Run) → run_in next span cs x ≡ none → Lowest cs xs r →
      Lowest cs (x ∷ xs) r
  in_lowest cs x xs r e w = (x ∷ w.0, w.1, ap (λ (y : List Cell). x ∷ y) w.2, λ t m. go t (Memᴰ.cases_cons m))
    where
      go : (t : Seg) → (held t ≡ x) ⊎ Held t w.0 → run_from next span cs t ≡ none
      go t (inl d) = ap (run_in next span cs) d ∙ e
      go t (inr m) = w.3 t m

  pick_in_inv : (cs xs : List Cell) (r : Run) → pick_in next span cs xs ≡ some r → Lowest cs xs r × Found cs r
  unfolding pick_in
  pick_in_inv cs [] r e = absurd (none-ne-some r e)
  pick_in_inv cs (x ∷ xs) r e = go (pick_in_inv cs xs r) (run_in next span cs x) refl e
    where
      here : ((t : Seg) × (x ≡ held t)) ⊎ (segment_in x ≡ none) → run_in next span cs x ≡ some r → Lowest cs (x ∷ xs) r × Found cs r
      here (inl k) d =
          let w = from_found cs k.0 r (sym (ap (run_in next span cs) k.1) ∙ d) in
          (([], xs, ap (λ (y : Cell). y ∷ xs) (k.1 ∙ ap held (sym w.0)), λ u m. absurd (Memᴰ.not-nil m)), w.1)
      here (inr n) d = absurd (none-ne-some r (sym (ap (by_segment none (run_from next span cs)) n) ∙ d))

      go : (pick_in next span cs xs ≡ some r → Lowest cs xs r × Found cs r) → (o : Option Run) → run_in next span cs x ≡ o →
          or_else o (pick_in next span cs xs) ≡ some r → Lowest cs (x ∷ xs) r × Found cs r
      go ih none d e' = let w = ih e' in (in_lowest cs x xs r d w.0, w.1)
      go ih (some y) d e' = here (segment_or x) (d ∙ e')

  pub picked_lowest : (cs : List Cell) (r : Run) → picked next span cs ≡ some r → Lowest cs cs r × Found cs r
  picked_lowest cs r e = pick_in_inv cs cs r e

  pub picked_held : (cs : List Cell) (r : Run) → picked next span cs ≡ some r → Held r.head cs
  picked_held cs r e =
      let w = (picked_lowest cs r e).0 in
      let h : Held r.head (w.0 ++ held r.head ∷ w.1) = Memᴰ.append_right w.0 (Memᴰ.head refl) in
      rw w.2 h

  or_some : (a b : Option Run) (r : Run) → (a ≡ some r) ⊎ ((x : Run) × (b ≡ some x)) → (x : Run) × (or_else a b ≡ some x)
  or_some none b r (inl e) = absurd (none-ne-some r e)
  or_some none b r (inr w) = w
  or_some (some y) b r (inl e) = (y, refl)
  or_some (some y) b r (inr w) = (y, refl)

  pick_in_some : (cs xs : List Cell) (r : Run) → Held r.head xs → Found cs r → (x : Run) × (pick_in next span cs xs ≡ some x)
  unfolding pick_in
  pick_in_some cs [] r m f = absurd (Memᴰ.not-nil m)
  pick_in_some cs (x ∷ xs) r m f = go (λ h. pick_in_some cs xs r h f) (Memᴰ.cases_cons m)
    where
      go : (Held r.head xs → (y : Run) × (pick_in next span cs xs ≡ some y)) → (held r.head ≡ x) ⊎ Held r.head xs →
          (y : Run) × (or_else (run_in next span cs x) (pick_in next span cs xs) ≡ some y)
      go ih (inl e) =
          or_some (run_in next span cs x) (pick_in next span cs xs) r (inl (ap (run_in next span cs) (sym e) ∙ found_from cs r f))
      go ih (inr h) = or_some (run_in next span cs x) (pick_in next span cs xs) r (inr (ih h))

  -- where a run is found from a held first, one is picked
  pub picked_some : (cs : List Cell) (r : Run) → Held r.head cs → Found cs r → (x : Run) × (picked next span cs ≡ some x)
  picked_some cs r m f = pick_in_some cs cs r m f
