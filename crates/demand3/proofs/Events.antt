-- Calls on a store's octets, one after the other, are events of its cells: a joining is an arrival, and a taking where it goes on.
-- The cells after the calls are the cells after the events; each event comes from one of the calls.
-- Assumes nothing.
use Prim.Native.Nat.{ℕ}
use mathlib.Core.Path.{◌≡◌, refl, ap, sym, ◌∙◌}
use mathlib.Core.Logic.{◌⊎◌, inl, inr}
use mathlib.Core.Bool.{Bool, true, false}
use mathlib.Core.List.{List, [], ◌∷◌, ◌++◌, map, append_assoc, append-nil}
use native.Mathlib.Omega.{arith}
use lib.ListN.{length}
use Rattle.octets.specs.Octets.{pick}
use Rattle.walk.specs.declared.Settings.{Settings}
use Rattle.cells.specs.Segments.{Seg}
use Rattle.demand3.specs.Traffic.{Event, arrives, takes, forgets}
use Rattle.demand3.specs.Calls.{Call, arrival, taking, joining, forgetting, Brings, out_of, draws, store_by, store_after, out_by, outs_after}
use Rattle.demand3.proofs.Steps.{event_of, event_no_take, event_no_forget}

-- ---- lists

module _ {A : Type 0} where
  -- where a thing in a list of two lists stands
  pub append_split : (a b p : List A) (e : A) (q : List A) → a ++ b ≡ p ++ e ∷ q →
      ((v : List A) × (a ≡ p ++ e ∷ v)) ⊎ ((w : List A) × (p ≡ a ++ w) × (b ≡ w ++ e ∷ q))
  append_split [] b p e q h = inr (p, refl, h)
  append_split (x ∷ a) b [] e q h = inl (a, let z : x ≡ e = cc in ap (λ (y : A). y ∷ a) z)
  append_split (x ∷ a) b (y ∷ p) e q h =
      let z : x ≡ y = cc in
      let t : a ++ b ≡ p ++ e ∷ q = cc in
      go z (append_split a b p e q t)
    where
      go : x ≡ y → ((v : List A) × (a ≡ p ++ e ∷ v)) ⊎ ((w : List A) × (p ≡ a ++ w) × (b ≡ w ++ e ∷ q)) →
          ((v : List A) × (x ∷ a ≡ y ∷ p ++ e ∷ v)) ⊎ ((w : List A) × (y ∷ p ≡ x ∷ a ++ w) × (b ≡ w ++ e ∷ q))
      go z (inl v) = inl (v.0, cc (z, v.1))
      go z (inr w) = inr (w.0, cc (z, w.1), w.2)

  pub one_split : (x e : A) (u v : List A) → x ∷ [] ≡ u ++ e ∷ v → (u ≡ []) × (x ≡ e)
  one_split x e [] v h = (refl, cc)
  one_split x e (y ∷ []) v h = let z : ◌≡◌ {A = ℕ} 0 1 = cc in absurd (omega arith)
  one_split x e (y ∷ w ∷ u) v h = let z : ◌≡◌ {A = ℕ} 0 1 = cc in absurd (omega arith)

  pub none_split : (e : A) (u v : List A) → [] ≡ u ++ e ∷ v → ⊥
  none_split e [] v h = let z : ◌≡◌ {A = ℕ} 0 1 = cc in omega arith
  none_split e (y ∷ u) v h = let z : ◌≡◌ {A = ℕ} 0 1 = cc in omega arith

module _ (s : Settings) (Z : ℕ) where
  -- ---- a call's events

  -- its arrival, or its forgetting
  abbrev pub before : Call → List Event
  before (arrival p) = event_of s Z p ∷ []
  before (taking out) = []
  before (joining p out) = event_of s Z p ∷ []
  before (forgetting i) = forgets i ∷ []

  -- and its taking
  abbrev pub drawing : Bool → Call → List Event
  drawing b c = pick b (takes (length (out_of c)) ∷ []) []

  abbrev pub events_by : List ℕ → Call → List Event
  events_by st c = before c ++ drawing (draws s Z st c) c

  unfoldable pub events_in : List ℕ → List Call → List Event
  events_in st [] = []
  events_in st (c ∷ cs) = events_by st c ++ events_in (store_by s Z st c) cs

  -- ---- one list of calls after another

  pub store_append : (x y : List Call) (st : List ℕ) → store_after s Z st (x ++ y) ≡ store_after s Z (store_after s Z st x) y
  unfolding store_after
  store_append [] y st = refl
  store_append (c ∷ x) y st = store_append x y (store_by s Z st c)

  pub outs_append : (x y : List Call) (st : List ℕ) →
      outs_after s Z st (x ++ y) ≡ outs_after s Z st x ++ outs_after s Z (store_after s Z st x) y
  unfolding store_after outs_after
  outs_append [] y st = refl
  outs_append (c ∷ x) y st = ap (λ (l : List (List ℕ)). out_by s Z st c ∷ l) (outs_append x y (store_by s Z st c))

  pub events_append : (x y : List Call) (st : List ℕ) →
      events_in st (x ++ y) ≡ events_in st x ++ events_in (store_after s Z st x) y
  unfolding store_after events_in
  events_append [] y st = refl
  events_append (c ∷ x) y st =
      ap (λ (l : List Event). events_by st c ++ l) (events_append x y (store_by s Z st c))
      ∙ sym (append_assoc (events_by st c) (events_in (store_by s Z st c) x) (events_in (store_after s Z (store_by s Z st c) x) y))

  -- the events of one call
  pub events_one : (st : List ℕ) (c : Call) → events_in st (c ∷ []) ≡ events_by st c
  unfolding events_in
  events_one st c = append-nil (events_by st c)

  -- takings one after the other
  pub events_takings : (outs : List (List ℕ)) (st : List ℕ) → events_in st (map taking outs) ≡ map takes (map length outs)
  unfolding events_in
  events_takings [] st = refl
  events_takings (out ∷ outs) st = ap (λ (l : List Event). takes (length out) ∷ l) (events_takings outs (store_by s Z st (taking out)))

  -- ---- where an event comes from

  -- of one call: an arrival is its packet's
  pub by_arrives : (st : List ℕ) (c : Call) (t : Seg) (u v : List Event) → events_by st c ≡ u ++ arrives t ∷ v →
      (u ≡ []) × ((p : List ℕ) × Brings p c × (event_of s Z p ≡ arrives t))
  by_arrives st c t u v h = go (append_split (before c) (drawing (draws s Z st c) c) u (arrives t) v h)
    where
      first : (c' : Call) (v' : List Event) → before c' ≡ u ++ arrives t ∷ v' →
          (u ≡ []) × ((p : List ℕ) × Brings p c' × (event_of s Z p ≡ arrives t))
      first (arrival p) v' e = let a = one_split (event_of s Z p) (arrives t) u v' e in (a.0, (p, inl refl, a.1))
      first (taking out) v' e = absurd (none_split (arrives t) u v' e)
      first (joining p out) v' e = let a = one_split (event_of s Z p) (arrives t) u v' e in (a.0, (p, inr (out, refl), a.1))
      first (forgetting i) v' e =
          let a = (one_split (forgets i) (arrives t) u v' e).1 in
          let z : ◌≡◌ {A = ℕ} 0 1 = cc a in
          absurd (omega arith)

      second : (b : Bool) (w : List Event) → drawing b c ≡ w ++ arrives t ∷ v → ⊥
      second true w e =
          let a = (one_split (takes (length (out_of c))) (arrives t) w v e).1 in
          let z : ◌≡◌ {A = ℕ} 0 1 = cc a in
          omega arith
      second false w e = none_split (arrives t) w v e

      go : ((v' : List Event) × (before c ≡ u ++ arrives t ∷ v')) ⊎
          ((w : List Event) × (u ≡ before c ++ w) × (drawing (draws s Z st c) c ≡ w ++ arrives t ∷ v)) →
          (u ≡ []) × ((p : List ℕ) × Brings p c × (event_of s Z p ≡ arrives t))
      go (inl a) = first c a.0 a.1
      go (inr a) = absurd (second (draws s Z st c) a.0 a.2)

  -- a taking is its own
  pub by_takes : (st : List ℕ) (c : Call) (long : ℕ) (u v : List Event) → events_by st c ≡ u ++ takes long ∷ v →
      (u ≡ before c) × (draws s Z st c ≡ true) × (length (out_of c) ≡ long)
  by_takes st c long u v h = go (append_split (before c) (drawing (draws s Z st c) c) u (takes long) v h)
    where
      first : (c' : Call) (v' : List Event) → before c' ≡ u ++ takes long ∷ v' → ⊥
      first (arrival p) v' e = event_no_take s Z p long (one_split (event_of s Z p) (takes long) u v' e).1
      first (taking out) v' e = none_split (takes long) u v' e
      first (joining p out) v' e = event_no_take s Z p long (one_split (event_of s Z p) (takes long) u v' e).1
      first (forgetting i) v' e =
          let a = (one_split (forgets i) (takes long) u v' e).1 in
          let z : ◌≡◌ {A = ℕ} 0 1 = cc a in
          omega arith

      second : (b : Bool) (w : List Event) → u ≡ before c ++ w → drawing b c ≡ w ++ takes long ∷ v →
          (u ≡ before c) × (b ≡ true) × (length (out_of c) ≡ long)
      second true w d e =
          let a = one_split (takes (length (out_of c))) (takes long) w v e in
          (d ∙ ap (λ (l : List Event). before c ++ l) a.0 ∙ append-nil (before c), refl, cc a.1)
      second false w d e = absurd (none_split (takes long) w v e)

      go : ((v' : List Event) × (before c ≡ u ++ takes long ∷ v')) ⊎
          ((w : List Event) × (u ≡ before c ++ w) × (drawing (draws s Z st c) c ≡ w ++ takes long ∷ v)) →
          (u ≡ before c) × (draws s Z st c ≡ true) × (length (out_of c) ≡ long)
      go (inl a) = absurd (first c a.0 a.1)
      go (inr a) = second (draws s Z st c) a.0 a.1 a.2

  -- a forgetting is its own
  pub by_forgets : (st : List ℕ) (c : Call) (i : ℕ) (u v : List Event) → events_by st c ≡ u ++ forgets i ∷ v → (u ≡ []) × (c ≡ forgetting i)
  by_forgets st c i u v h = go (append_split (before c) (drawing (draws s Z st c) c) u (forgets i) v h)
    where
      first : (c' : Call) (v' : List Event) → before c' ≡ u ++ forgets i ∷ v' → (u ≡ []) × (c' ≡ forgetting i)
      first (arrival p) v' e = absurd (event_no_forget s Z p i (one_split (event_of s Z p) (forgets i) u v' e).1)
      first (taking out) v' e = absurd (none_split (forgets i) u v' e)
      first (joining p out) v' e = absurd (event_no_forget s Z p i (one_split (event_of s Z p) (forgets i) u v' e).1)
      first (forgetting k) v' e = let a = one_split (forgets k) (forgets i) u v' e in let q : k ≡ i = cc a.1 in (a.0, ap forgetting q)

      second : (b : Bool) (w : List Event) → drawing b c ≡ w ++ forgets i ∷ v → ⊥
      second true w e =
          let a = (one_split (takes (length (out_of c))) (forgets i) w v e).1 in
          let z : ◌≡◌ {A = ℕ} 0 1 = cc a in
          omega arith
      second false w e = none_split (forgets i) w v e

      go : ((v' : List Event) × (before c ≡ u ++ forgets i ∷ v')) ⊎
          ((w : List Event) × (u ≡ before c ++ w) × (drawing (draws s Z st c) c ≡ w ++ forgets i ∷ v)) →
          (u ≡ []) × (c ≡ forgetting i)
      go (inl a) = first c a.0 a.1
      go (inr a) = absurd (second (draws s Z st c) a.0 a.2)

  -- the call that an event of a list of calls comes from
  pub record Origin (st : List ℕ) (cs : List Call) (p : List Event) (e : Event) : Type 0 where
    pub earlier : List Call
    pub call : Call
    pub others : List Call
    pub place : cs ≡ earlier ++ call ∷ others
    pub ahead : List Event
    pub behind : List Event
    pub its : events_by (store_after s Z st earlier) call ≡ ahead ++ e ∷ behind
    pub before_it : p ≡ events_in st earlier ++ ahead

  pub origin : (cs : List Call) (st : List ℕ) (p : List Event) (e : Event) (q : List Event) → events_in st cs ≡ p ++ e ∷ q → Origin st cs p e
  unfolding store_after events_in
  origin [] st p e q h = absurd (none_split e p q h)
  origin (c ∷ cs) st p e q h =
      go (origin cs (store_by s Z st c)) (append_split (events_by st c) (events_in (store_by s Z st c) cs) p e q h)
    where
      go : ((p' : List Event) (e' : Event) (q' : List Event) → events_in (store_by s Z st c) cs ≡ p' ++ e' ∷ q' → Origin (store_by s Z st c) cs p' e') →
          ((v : List Event) × (events_by st c ≡ p ++ e ∷ v)) ⊎
          ((w : List Event) × (p ≡ events_by st c ++ w) × (events_in (store_by s Z st c) cs ≡ w ++ e ∷ q)) →
          Origin st (c ∷ cs) p e
      go ih (inl v) =
          record { earlier = []; call = c; others = cs; place = refl; ahead = p; behind = v.0; its = v.1; before_it = refl }
      go ih (inr w) =
          let o = ih w.0 e q w.2 in
          record {
            earlier = c ∷ o.earlier;
            call = o.call;
            others = o.others;
            place = ap (λ (l : List Call). c ∷ l) o.place;
            ahead = o.ahead;
            behind = o.behind;
            its = o.its;
            before_it =
                w.1 ∙ ap (λ (l : List Event). events_by st c ++ l) o.before_it
                ∙ sym (append_assoc (events_by st c) (events_in (store_by s Z st c) o.earlier) o.ahead);
          }
