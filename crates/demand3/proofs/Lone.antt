-- If no message is complete in a store, one more segment completes one message at the most, the one that it belongs to; and the taking
-- of that one leaves nothing complete.
-- Assumes nothing.
use Prim.Native.Nat.{ℕ, ◌≤◌, ◌<◌}
use mathlib.Core.Path.{◌≡◌, refl, sym, ◌∙◌, ap, subst}
use mathlib.Core.Logic.{◌≢◌, ◌⊎◌, inl, inr}
use mathlib.Core.Bool.{Bool, true, false, true≢false}
use mathlib.Core.Option.{Option, none, some, none-ne-some}
use mathlib.Core.List.Memᴰ
use mathlib.Core.List.{List, [], ◌∷◌}
use lib.ListN.{length}
use Rattle.octets.proofs.Lists.{bool, below_or}
use Rattle.cells.specs.Segments.{Seg, carries}
use Rattle.cells.specs.Rows.{Cell}
use Rattle.cells.specs.Messages.{Run, segments, look, picked, among, or}
use Rattle.cells.proofs.Distinct.{carries_true}
use Rattle.taking.specs.Taking.{unable, writing}
use Rattle.demand3.specs.Cells.{put, clear, forgotten}
use Rattle.demand3.specs.Complete.{Held, Single}
use Rattle.demand3.specs.Traffic.{Event, takes, taken_from, stepped}
use Rattle.demand3.proofs.Looks.{carries_no, look_held, put_other, clear_held}
use Rattle.demand3.proofs.Forgets.{look_forgotten, forgotten_single}
use Rattle.demand3.proofs.Links.{Mem, Opened}
use Rattle.demand3.proofs.Finds.{There, Found, found_opened, found_there, picked_lowest, picked_held, picked_some}
use Rattle.demand3.proofs.Exactly.{rest_short}
use Rattle.demand3.proofs.Beside.{among_same, among_mem, put_single, clear_single, Beside, Off, found_apart}
use Rattle.demand3.proofs.Takings.{picked_taken, too_short, nothing_picked, taken_cells, step_keeps}
use Rattle.demand3.proofs.Lasts.{whole_beside}
use Rattle.demand3.proofs.Progress.{own_found}

-- ---- one of some segments has the key and counter of another

among_has : (us : List Seg) (t : Seg) → among us t ≡ true → (u : Seg) × Mem u us × (u.key ≡ t.key) × (u.counter ≡ t.counter)
unfolding among
among_has [] t e = absurd (true≢false (sym e))
among_has (u ∷ us) t e = go (among_has us t) (carries u.key u.counter t) refl e
  where
    go : (among us t ≡ true → (v : Seg) × Mem v us × (v.key ≡ t.key) × (v.counter ≡ t.counter)) →
        (b : Bool) → carries u.key u.counter t ≡ b → or b (among us t) ≡ true →
        (v : Seg) × Mem v (u ∷ us) × (v.key ≡ t.key) × (v.counter ≡ t.counter)
    go ih true d h = let c = carries_true u.key u.counter t d in (u, Memᴰ.head refl, c.0, c.1)
    go ih false d h = let v = ih h in (v.0, Memᴰ.tail v.1, v.2, v.3)

among_not : (us : List Seg) (t u : Seg) → among us t ≡ false → Mem u us → carries u.key u.counter t ≡ false
among_not us t u e m =
    carries_no u.key u.counter t (λ p q. true≢false (sym (among_mem us u m) ∙ among_same us u t p q ∙ e))

module _ (next : ℕ → ℕ) (span : ℕ) (inj : (x y : ℕ) → next x ≡ next y → x ≡ y) where
  -- a message that lies whole in the cells
  pub record Lies (cs : List Cell) (r : Run) : Type 0 where
    pub first : Held r.head cs
    pub found : Found next span cs r

  -- there is one at the most
  abbrev pub Lone : List Cell → Type 0
  Lone cs = (r q : Run) → Lies cs r → Lies cs q → q ≡ r

  abbrev pub Idle : List Cell → Type 0
  Idle cs = picked next span cs ≡ none

  -- what is picked lies there
  pub picked_lies : (cs : List Cell) (r : Run) → picked next span cs ≡ some r → Lies cs r
  picked_lies cs r e = record { first = picked_held next span cs r e; found = (picked_lowest next span cs r e).1 }

  -- if nothing is picked, none does
  pub idle_none : (cs : List Cell) → Idle cs → (r : Run) → Lies cs r → ⊥
  idle_none cs e r w = let z = picked_some next span cs r w.first w.found in none-ne-some z.0 (sym e ∙ z.1)

  -- all its segments are there, and no more is needed
  lies_there : (cs : List Cell) (r : Run) → Single cs → Lies cs r → There cs (segments r)
  lies_there cs r s w = found_there next span cs r s w.first w.found

  lies_again : (cs xs : List Cell) (r : Run) → Lies cs r → There xs (segments r) → Lies xs r
  lies_again cs xs r w f =
      let o : Opened next r = found_opened next span cs r w.found in
      let l : length r.rest ≤ span = rest_short next span span cs r.head.key (next r.head.counter) r.rest w.found.finds in
      let z = own_found next span inj r o l xs f in
      record { first = z.0; found = z.1 }

  -- ---- a new segment

  module _ (cs : List Cell) (s : Single cs) (e : Idle cs) (t : Seg) (new : look cs t.key t.counter ≡ none) where
    -- what lies there then has the new segment
    has_new : (r : Run) → Lies (put cs t) r → among (segments r) t ≡ true
    has_new r w = go (bool (among (segments r) t))
      where
        go : (among (segments r) t ≡ true) ⊎ (among (segments r) t ≡ false) → among (segments r) t ≡ true
        go (inl a) = a
        go (inr a) =
            absurd
            (idle_none cs e r
            (lies_again (put cs t) cs r w
            (λ u m. sym (put_other cs t u.key u.counter (among_not (segments r) t u a m))
            ∙ lies_there (put cs t) r (put_single cs t new s) w u m)))

    put_lone : Lone (put cs t)
    put_lone r q w v = go (found_apart next span inj r o (put cs t) b q v.first v.found)
      where
        single : Single (put cs t)
        single = put_single cs t new s

        o : Opened next r
        o = found_opened next span (put cs t) r w.found

        b : Beside r (put cs t)
        b = whole_beside r (put cs t) (record { single = single; there = lies_there (put cs t) r single w })

        go : (q ≡ r) ⊎ Off r (segments q) → q ≡ r
        go (inl d) = d
        go (inr f) =
            let x = among_has (segments r) t (has_new r w) in
            let y = among_has (segments q) t (has_new q v) in
            absurd (f y.0 x.0 y.1 x.1 (y.2 ∙ sym x.2) (y.3 ∙ sym x.3))

  -- a record is forgotten
  forgotten_lies : (cs : List Cell) → Single cs → (j : ℕ) (r : Run) → Lies (forgotten j cs) r → Lies cs r
  forgotten_lies cs s j r w =
      lies_again (forgotten j cs) cs r w
      (λ u m. sym (look_forgotten j cs u.key u.counter) ∙ lies_there (forgotten j cs) r (forgotten_single j cs s) w u m)

  pub idle_forgotten : (cs : List Cell) → Single cs → Idle cs → (j : ℕ) → Idle (forgotten j cs)
  idle_forgotten cs s i j = go (picked next span (forgotten j cs)) refl
    where
      go : (o : Option Run) → picked next span (forgotten j cs) ≡ o → Idle (forgotten j cs)
      go none e = e
      go (some r) e = absurd (idle_none cs i r (forgotten_lies cs s j r (picked_lies (forgotten j cs) r e)))

  -- a call that hands over a packet
  pub lone_step : (cs : List Cell) → Single cs → Idle cs → (e : Event) → ((long : ℕ) → e ≢ takes long) → Lone (stepped next span cs e)
  lone_step cs s i e no-take =
      step_keeps next span Lone cs e (λ r q w v. absurd (idle_none cs i r w)) (λ t d v n. put_lone cs s i t n)
      (λ long r d m. absurd (no-take long d)) (λ j d r q w v. absurd (idle_none cs i r (forgotten_lies cs s j r w)))

  -- ---- its taking

  module _ (cs : List Cell) (s : Single cs) (one : Lone cs) where
    -- after it nothing lies there
    cleared_none : (r q : Run) → Lies cs r → Lies (clear r cs) q → ⊥
    cleared_none r q w v =
        let same : q ≡ r = one r q w (lies_again (clear r cs) cs q v all) in
        true≢false
        (sym (among_mem (segments r) r.head (Memᴰ.head refl))
        ∙ ap (λ (x : Run). among (segments r) x.head) (sym same)
        ∙ (clear_held r cs q.head v.first).1)
      where
        all : There cs (segments q)
        all u m =
            let a = lies_there (clear r cs) q (clear_single r cs s) v u m in
            s u (clear_held r cs u (look_held (clear r cs) u.key u.counter u a).0).0

    -- unless it is refused for want of output, nothing is complete then
    pub idle_taken : (long : ℕ) → taken_from next span cs long ≢ unable 21 → Idle (stepped next span cs (takes long))
    idle_taken long no-21 = go (picked next span cs) refl
      where
        left : (r : Run) → picked next span cs ≡ some r → length (writing r) ≤ long → (o : Option Run) →
            picked next span (stepped next span cs (takes long)) ≡ o → Idle (stepped next span cs (takes long))
        left r e l none d = d
        left r e l (some q) d =
            let c : stepped next span cs (takes long) ≡ clear r cs =
            taken_cells next span cs long r (picked_taken next span cs long r e l) in
            absurd (cleared_none r q (picked_lies cs r e) (subst (λ (x : List Cell). Lies x q) c (picked_lies _ q d)))

        by : (r : Run) → picked next span cs ≡ some r → (long < length (writing r)) ⊎ (length (writing r) ≤ long) →
            Idle (stepped next span cs (takes long))
        by r e (inl l) = absurd (no-21 (too_short next span cs long r e l).0)
        by r e (inr l) = left r e l (picked next span (stepped next span cs (takes long))) refl

        go : (o : Option Run) → picked next span cs ≡ o → Idle (stepped next span cs (takes long))
        go none e = ap (picked next span) (nothing_picked next span cs long e).1 ∙ e
        go (some r) e = by r e (below_or long (length (writing r)))
