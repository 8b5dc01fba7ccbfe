-- The segments of a message are those of its key whose counter is its first's or one of so many steps after it, as there are others; its
-- last one's is the last of those. So what the code leaves by key and counters is what a taking leaves.
-- Assumes nothing.
use Prim.Native.Nat.{ℕ, zero, suc, ◌≤◌, ◌<◌}
use mathlib.Core.Path.{◌≡◌, refl, ap, ap₂, sym, ◌∙◌}
use mathlib.Core.Logic.{⊎_elim}
use mathlib.Core.Bool.{Bool, true, false}
use mathlib.Core.List.{List, [], ◌∷◌, map}
use mathlib.Core.Option.{Option, none, some}
use native.Mathlib.Omega.{arith}
use lib.ListN.{length}
use lib.Dec.{eqb}
use Rattle.octets.specs.Octets.{pick, alike}
use Rattle.octets.proofs.Lists.{below_or}
use Rattle.walk.specs.declared.Settings.{Settings}
use Rattle.packet.specs.Numbers.{next_counter, steps_most}
use Rattle.sender.specs.Sending.{steps_of}
use Rattle.cells.specs.Segments.{Seg, carries, both, reaches}
use Rattle.cells.specs.Rows.{Cell, segment_in, by_segment, zero_row, record_row}
use Rattle.cells.specs.Order.{carries_in, found_in}
use Rattle.cells.specs.Inner.{within}
use Rattle.cells.specs.Messages.{Role, first, middle, last, role_of, link_by, Run, segments, or, among}
use Rattle.cells.proofs.Held.{both_true}
use Rattle.taking.specs.Taking.{last_of, record_of, left_by, left_in}
use Rattle.taking.specs.Cleared.{left_of, left_within}
use Rattle.taking.specs.Follow.{seg_at, follow}
use Rattle.cells.proofs.Found.{found_carries, found_held}
use Rattle.taking.proofs.Following.{follow_none, follow_by}
use Rattle.cells.proofs.Distinct.{carries_true}

or_false : (b : Bool) → or b false ≡ b
or_false true = refl
or_false false = refl

-- two ranges of one key are one
either : (a b k : Bool) → or (both a k) (both b k) ≡ both (pick a true b) k
either true true true = refl
either true true false = refl
either true false true = refl
either true false false = refl
either false true true = refl
either false true false = refl
either false false true = refl
either false false false = refl

-- ---- a run, from the segment after its first on

module _ (next : ℕ → ℕ) (span : ℕ) (s : Settings) (Z : ℕ) (st : List ℕ) (n : ℕ) (k : List ℕ) where
  abbrev seg : ℕ → Seg
  seg j = seg_at s Z st j

  -- the segment that was found has the key and the counter
  found_is : (c : ℕ) → found_in s Z st n k c < n → (k ≡ (seg (found_in s Z st n k c)).key) × (c ≡ (seg (found_in s Z st n k c)).counter)
  found_is c h =
      carries_true k c (seg (found_in s Z st n k c)) (sym (ap (carries_in k c) (found_held s Z st n k c refl h).cell) ∙ found_carries s Z st n k c refl h)

  -- what holds of no others, and of one more in front, holds of the others after the counter c
  module _ (P : ℕ → List ℕ → Type 0) (p_none : (c : ℕ) → P c [])
      (p_more : (c j : ℕ) (js : List ℕ) → k ≡ (seg j).key → next c ≡ (seg j).counter → P (next c) js → P c (j ∷ js)) where
    on_each :
        (x : Role) (c j : ℕ) (o : Option (List ℕ)) (js : List ℕ) → (k ≡ (seg j).key) × (next c ≡ (seg j).counter) →
        ((ks : List ℕ) → o ≡ some ks → P (next c) ks) → link_by x j o ≡ some js → P c js
    on_each first c j o js h rest e = let z : ◌≡◌ {A = ℕ} 0 1 = cc in absurd (omega arith)
    on_each middle c j none js h rest e = let z : ◌≡◌ {A = ℕ} 0 1 = cc in absurd (omega arith)
    on_each middle c j (some ks) js h rest e = let d : j ∷ ks ≡ js = cc in rw (sym d) (p_more c j ks h.0 h.1 (rest ks refl))
    on_each last c j o js h rest e = let d : j ∷ [] ≡ js = cc in rw (sym d) (p_more c j [] h.0 h.1 (p_none (next c)))

    pub follow_each : (f c : ℕ) (js : List ℕ) → follow next span s Z st n k f (next c) ≡ some js → P c js
    unfolding follow
    follow_each zero c js e = let z : ◌≡◌ {A = ℕ} 0 1 = cc in absurd (omega arith)
    follow_each (suc f) c js e = ⊎_elim (there (follow_each f (next c))) nowhere (below_or (found_in s Z st n k (next c)) n)
      where
        there :
            ((ks : List ℕ) → follow next span s Z st n k f (next (next c)) ≡ some ks → P (next c) ks) →
            found_in s Z st n k (next c) < n → P c js
        there rest h =
            on_each (role_of (seg (found_in s Z st n k (next c))).flags) c (found_in s Z st n k (next c)) (follow next span s Z st n k f (next (next c))) js
            (found_is (next c) h) rest
            (sym (follow_by next span s Z st n k f (next c) refl h refl) ∙ e)

        nowhere : n ≤ found_in s Z st n k (next c) → P c js
        nowhere h =
            let d : ◌≡◌ {A = Option (List ℕ)} none (some js) = sym (follow_none next span s Z st n k f (next c) refl h) ∙ e in
            let z : ◌≡◌ {A = ℕ} 0 1 = cc in absurd (omega arith)

  -- the last one's counter is as many steps on as there are others
  pub follow_last : (f c : ℕ) (js : List ℕ) → follow next span s Z st n k f (next c) ≡ some js → last_of c (map seg js) ≡ steps_of next (length js) c
  unfolding last_of steps_of
  follow_last =
      follow_each (λ c js. last_of c (map seg js) ≡ steps_of next (length js) c) (λ c. refl)
      (λ c j js a b h. ap (λ (x : ℕ). last_of x (map seg js)) (sym b) ∙ h)

  module _ (t : Seg) where
    -- a segment at c and those in these cells have the key and the counters of so many steps from c on
    abbrev Reached : ℕ → List ℕ → Type 0
    Reached c js = or (carries k c t) (among (map seg js) t) ≡ both (reaches next (length js) c t.counter) (alike k t.key)

    reached_none : (c : ℕ) → Reached c []
    unfolding among reaches carries
    reached_none c = or_false (both (eqb c t.counter) (alike k t.key))

    reached_more : (c j : ℕ) (js : List ℕ) → k ≡ (seg j).key → next c ≡ (seg j).counter → Reached (next c) js → Reached c (j ∷ js)
    unfolding among reaches carries
    reached_more c j js a b r =
        let h : carries (seg j).key (seg j).counter t ≡ carries k (next c) t = ap₂ (λ (x : List ℕ) (y : ℕ). carries x y t) (sym a) (sym b) in
        ap (or (both (eqb c t.counter) (alike k t.key))) (ap (λ (x : Bool). or x (among (map seg js) t)) h ∙ r)
        ∙ either (eqb c t.counter) (reaches next (length js) (next c) t.counter) (alike k t.key)

    pub follow_among : (f c : ℕ) (js : List ℕ) → follow next span s Z st n k f (next c) ≡ some js → Reached c js
    follow_among = follow_each Reached reached_none reached_more

-- ---- what is left of a message: its first and the others

carries_by : (k : List ℕ) (c : ℕ) (t : Seg) → alike k t.key ≡ true → carries k c t ≡ eqb c t.counter
unfolding carries
carries_by k c t e = ap (both (eqb c t.counter)) e ∙ same (eqb c t.counter)
  where
    same : (b : Bool) → both b true ≡ b
    same true = refl
    same false = refl

pub message_left :
    (s : Settings) (Z : ℕ) (st : List ℕ) (n f : ℕ) (u : Seg) (js : List ℕ) →
    follow next_counter steps_most s Z st n u.key f (next_counter u.counter) ≡ some js → (y : Cell) →
    left_within Z u.key u.counter (length js) y ≡ left_in Z (record { head = u; rest = map (seg_at s Z st) js }) y
unfolding among record_of
message_left s Z st n f u js e y = go (segment_in y)
  where
    r : Run
    r = record { head = u; rest = map (seg_at s Z st) js }

    -- the record
    row : record_row Z u.key u.counter (steps_of next_counter (length js) u.counter) ≡ record_of Z r
    row = ap (record_row Z u.key u.counter) (sym (follow_last next_counter steps_most s Z st n u.key f u.counter js e))

    one : (t : Seg) (b : Bool) → within next_counter u.key u.counter (length js) t ≡ b →
        pick b (some (left_of Z u.key u.counter (length js) t)) none ≡ pick b (some (left_by Z r t)) none
    one t false w = refl
    one t true w =
        let a = (both_true (reaches next_counter (length js) u.counter t.counter) (alike u.key t.key) w).1 in
        ap some
        (ap₂ (λ (x : Bool) (z : List ℕ). pick x z (zero_row Z)) (sym (carries_by u.key u.counter t a)) row)

    go :
        (o : Option Seg) →
        by_segment none (λ t. pick (within next_counter u.key u.counter (length js) t) (some (left_of Z u.key u.counter (length js) t)) none) o
        ≡ by_segment none (λ t. pick (among (segments r) t) (some (left_by Z r t)) none) o
    go none = refl
    go (some t) =
        one t (within next_counter u.key u.counter (length js) t) refl
        ∙ ap (λ (b : Bool). pick b (some (left_by Z r t)) none) (sym (follow_among next_counter steps_most s Z st n u.key t f u.counter js e))
