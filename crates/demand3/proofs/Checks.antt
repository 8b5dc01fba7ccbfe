-- The hypotheses of demand 3 about a given list of events, told by tests that compute.
-- Assumes nothing.
use Prim.Native.Nat.{ℕ}
use mathlib.Core.Path.{◌≡◌, refl, sym, ◌∙◌, ap}
use mathlib.Core.Logic.{◌⊎◌, inl, inr}
use mathlib.Core.Bool.{Bool, true, not, false≢true}
use mathlib.Core.Option.{Option, none, some}
use mathlib.Core.List.Memᴰ
use mathlib.Core.List.{List, [], ◌∷◌, ◌++◌, Memᴰ}
use native.Mathlib.Omega.{arith}
use lib.ListN.{get_or}
use Rattle.octets.specs.Octets.{pick}
use Rattle.cells.specs.Segments.{Seg, carries, both}
use Rattle.cells.specs.Rows.{Cell, free}
use Rattle.cells.proofs.Held.{both_true}
use Rattle.cells.specs.Messages.{look}
use Rattle.cells.proofs.Distinct.{carries_yes}
use Rattle.taking.specs.Taking.{Took, message, unable}
use Rattle.demand3.specs.Cells.{has_free, range_by, spans, spans_in, recorded}
use Rattle.demand3.specs.Traffic.{Sent, run_of, Event, arrives, passes, takes, forgets, taken_from, stepped, after, Room}
use Rattle.demand3.specs.Promise.{Untaken, Remembered}
use Rattle.demand3.proofs.Links.{sent_opened, sent_key, sent_start}
use Rattle.demand3.proofs.Ranges.{spans_own}

-- ---- every segment that arrives

abbrev pub Each : (Seg → Type 0) → List Event → Type 0
Each F [] = Unit {0}
Each F (arrives t ∷ es) = F t × Each F es
Each F (passes ∷ es) = Each F es
Each F (takes long ∷ es) = Each F es
Each F (forgets i ∷ es) = Each F es

pub each_arrives : (F : Seg → Type 0) (es : List Event) → Each F es → (t : Seg) → Memᴰ (arrives t) es → F t
each_arrives F [] w t m = absurd (Memᴰ.not-nil m)
each_arrives F (arrives u ∷ es) w t m = go (each_arrives F es w.1 t) (Memᴰ.cases_cons m)
  where
    go : (Memᴰ (arrives t) es → F t) → (arrives t ≡ arrives u) ⊎ Memᴰ (arrives t) es → F t
    go ih (inl e) = let q : t ≡ u = cc e in rw q w.0
    go ih (inr k) = ih k
each_arrives F (passes ∷ es) w t m = go (each_arrives F es w t) (Memᴰ.cases_cons m)
  where
    go : (Memᴰ (arrives t) es → F t) → (arrives t ≡ passes) ⊎ Memᴰ (arrives t) es → F t
    go ih (inl e) = absurd (let z : ◌≡◌ {A = ℕ} 0 1 = cc in omega arith)
    go ih (inr k) = ih k
each_arrives F (takes long ∷ es) w t m = go (each_arrives F es w t) (Memᴰ.cases_cons m)
  where
    go : (Memᴰ (arrives t) es → F t) → (arrives t ≡ takes long) ⊎ Memᴰ (arrives t) es → F t
    go ih (inl e) = absurd (let z : ◌≡◌ {A = ℕ} 0 1 = cc in omega arith)
    go ih (inr k) = ih k
each_arrives F (forgets i ∷ es) w t m = go (each_arrives F es w t) (Memᴰ.cases_cons m)
  where
    go : (Memᴰ (arrives t) es → F t) → (arrives t ≡ forgets i) ⊎ Memᴰ (arrives t) es → F t
    go ih (inl e) = absurd (let z : ◌≡◌ {A = ℕ} 0 1 = cc in omega arith)
    go ih (inr k) = ih k

-- ---- room, whether a message is taken, and whether its record is forgotten

abbrev room_beside : Option Seg → List Cell → Bool
room_beside none cs = has_free cs
room_beside (some u) cs = true

abbrev other_than : Sent → Took → Bool
other_than m (message r) = not (carries m.key m.start r.head)
other_than m (unable k) = true

module _ (next : ℕ → ℕ) (span : ℕ) where
  abbrev room_at : List Cell → Event → Bool
  room_at cs (arrives t) = pick (recorded next cs t.key t.counter) true (room_beside (look cs t.key t.counter) cs)
  room_at cs passes = true
  room_at cs (takes long) = true
  room_at cs (forgets i) = true

  abbrev left_at : Sent → List Cell → Event → Bool
  left_at m cs (arrives t) = true
  left_at m cs passes = true
  left_at m cs (takes long) = other_than m (taken_from next span cs long)
  left_at m cs (forgets i) = true

  abbrev remembers_at : Sent → List Cell → Event → Bool
  remembers_at m cs (arrives t) = true
  remembers_at m cs passes = true
  remembers_at m cs (takes long) = true
  remembers_at m cs (forgets i) = not (spans_in next m.key m.start (get_or cs i free))

  -- whenever a new segment arrives, a cell is free
  unfoldable pub room_in : List Cell → List Event → Bool
  room_in cs [] = true
  room_in cs (e ∷ es) = both (room_at cs e) (room_in (stepped next span cs e) es)

  -- none of the takings takes the message
  unfoldable pub left_in : Sent → List Cell → List Event → Bool
  left_in m cs [] = true
  left_in m cs (e ∷ es) = both (left_at m cs e) (left_in m (stepped next span cs e) es)

  room_at_lem : (p q : List Event) (t : Seg) (cs : List Cell) → room_in cs (p ++ arrives t ∷ q) ≡ true →
      room_at (after next span cs p) (arrives t) ≡ true
  unfolding room_in after
  room_at_lem [] q t cs e = (both_true (room_at cs (arrives t)) (room_in (stepped next span cs (arrives t)) q) e).0
  room_at_lem (x ∷ p) q t cs e =
      room_at_lem p q t (stepped next span cs x) (both_true (room_at cs x) (room_in (stepped next span cs x) (p ++ arrives t ∷ q)) e).1

  pub room_by : (cs : List Cell) (es : List Event) → room_in cs es ≡ true → Room next span cs es
  room_by cs es r p q t d v n =
      let e : room_in cs (p ++ arrives t ∷ q) ≡ true = ap (room_in cs) (sym d) ∙ r in
      let g :
      pick (recorded next (after next span cs p) t.key t.counter) true
      (room_beside (look (after next span cs p) t.key t.counter) (after next span cs p)) ≡ true = room_at_lem p q t cs e in
      rw (v, n) at g

  left_at_lem : (m : Sent) (p q : List Event) (long : ℕ) (cs : List Cell) → left_in m cs (p ++ takes long ∷ q) ≡ true →
      left_at m (after next span cs p) (takes long) ≡ true
  unfolding left_in after
  left_at_lem m [] q long cs e = (both_true (left_at m cs (takes long)) (left_in m (stepped next span cs (takes long)) q) e).0
  left_at_lem m (x ∷ p) q long cs e =
      left_at_lem m p q long (stepped next span cs x)
      (both_true (left_at m cs x) (left_in m (stepped next span cs x) (p ++ takes long ∷ q)) e).1

  pub untaken_by : (m : Sent) (cs : List Cell) (es : List Event) → left_in m cs es ≡ true → Untaken next span m cs es
  untaken_by m cs es l p q long r d g i =
      let e : left_in m cs (p ++ takes long ∷ q) ≡ true = ap (left_in m cs) (sym d) ∙ l in
      let f : other_than m (taken_from next span (after next span cs p) long) ≡ true = left_at_lem m p q long cs e in
      let h : not (carries m.key m.start r.head) ≡ true = ap (other_than m) (sym g) ∙ f in
      false≢true (ap not (sym (carries_yes m.key m.start r.head (sym i.0) (sym i.1))) ∙ h)

  -- none of the forgettings forgets a record with the message's first in its range
  unfoldable pub remembers_in : Sent → List Cell → List Event → Bool
  remembers_in m cs [] = true
  remembers_in m cs (e ∷ es) = both (remembers_at m cs e) (remembers_in m (stepped next span cs e) es)

  remembers_at_lem : (m : Sent) (p q : List Event) (i : ℕ) (cs : List Cell) → remembers_in m cs (p ++ forgets i ∷ q) ≡ true →
      remembers_at m (after next span cs p) (forgets i) ≡ true
  unfolding remembers_in after
  remembers_at_lem m [] q i cs e = (both_true (remembers_at m cs (forgets i)) (remembers_in m (stepped next span cs (forgets i)) q) e).0
  remembers_at_lem m (x ∷ p) q i cs e =
      remembers_at_lem m p q i (stepped next span cs x)
      (both_true (remembers_at m cs x) (remembers_in m (stepped next span cs x) (p ++ forgets i ∷ q)) e).1

  pub remembered_by : (m : Sent) (cs : List Cell) (es : List Event) → remembers_in m cs es ≡ true → Remembered next span m cs es
  remembered_by m cs es l p q i d g =
      let e : remembers_in m cs (p ++ forgets i ∷ q) ≡ true = ap (remembers_in m cs) (sym d) ∙ l in
      let f : not (spans_in next m.key m.start (get_or (after next span cs p) i free)) ≡ true = remembers_at_lem m p q i cs e in
      let h : not (spans next m.key m.start (range_by (run_of next m))) ≡ true =
      ap (λ (x : Cell). not (spans_in next m.key m.start x)) (sym g) ∙ f in
      false≢true (ap not (sym own) ∙ h)
    where
      own : spans next m.key m.start (range_by (run_of next m)) ≡ true
      own =
          ap (λ (k : List ℕ). spans next k m.start (range_by (run_of next m))) (sym (sent_key next m))
          ∙ ap (λ (c : ℕ). spans next (run_of next m).head.key c (range_by (run_of next m))) (sym (sent_start next m))
          ∙ spans_own next (run_of next m) (sent_opened next m) (run_of next m).head (Memᴰ.head refl)
