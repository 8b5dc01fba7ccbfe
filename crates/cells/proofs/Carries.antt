-- Whether a cell carries a key and a counter, as the code tests it.
-- Assumes nothing.
use Prim.Native.Nat.{ℕ, ◌+◌, ◌≤◌}
use mathlib.Core.Path.{◌≡◌, refl, ap, ap₂, sym, ◌∙◌}
use mathlib.Core.Logic.{◌⊎◌, inl, inr, ⊎_elim}
use mathlib.Core.Bool.{Bool, true, false, false≢true}
use mathlib.Core.Option.{none}
use mathlib.Core.List.{List}
use native.Mathlib.Omega.{arith}
use lib.ListN.{length}
use lib.Dec.{eqb, leb}
use borrow.Author.Tests.{eqb-true, leb-true, eq-eqb, ne_eqb}
use Rattle.octets.specs.Octets.{pick, Octets, octet_at, number, alike}
use Rattle.octets.proofs.Has.{octets_part}
use Rattle.octets.proofs.Lists.{bool, pick_false, alike_true}
use Rattle.walk.specs.declared.Settings.{Settings}
use Rattle.packet.specs.Reading.{read_packet, segmented}
use Rattle.packet.specs.Key.{key_of}
use Rattle.cells.specs.Segments.{Seg, seg_of, carries, both}
use Rattle.cells.specs.Rows.{Range, free, held, taken, broken, segment_in, by_segment, zero_row, held_row, packet_in, may_hold, holds, records, range_of, cell_of}
use Rattle.cells.specs.Order.{carries_in}
use Rattle.cells.specs.declared.Judged.{Judged}
use Rattle.cells.specs.Inner.{place_in, counter_in, spans_alike, body_in, judged_of, told_held, Asked, told_body, told_counter}
use Rattle.cells.proofs.CellSegments.{held_not, judged_none}
use Rattle.cells.proofs.Held.{both_true}
use Rattle.cells.proofs.Counters.{counter_told}
use Rattle.cells.proofs.SameKeys.{keys_same}
use Rattle.cells.proofs.Transactions.{spans_transaction}

-- what a row that holds a segment is
pub record Holding (s : Settings) (Z : ℕ) (r : List ℕ) : Type 0 where
  pub accepted : (read_packet s (packet_in r)).refusal.number ≡ 0
  pub segment : segmented (packet_in r) ≡ true
  pub cell : cell_of s Z r ≡ held (seg_of (packet_in r) (read_packet s (packet_in r)))
  pub row : r ≡ held_row Z (packet_in r)
  pub fits : 2 + length (packet_in r) ≤ Z

pub free_cell : (s : Settings) (Z : ℕ) (r : List ℕ) → alike r (zero_row Z) ≡ true → cell_of s Z r ≡ free
unfolding cell_of
free_cell s Z r e = rw e refl

held_cell : (s : Settings) (Z : ℕ) (r : List ℕ) → alike r (zero_row Z) ≡ false → holds s Z r ≡ true → cell_of s Z r ≡ held (seg_of (packet_in r) (read_packet s (packet_in r)))
unfolding cell_of
held_cell s Z r a b = rw (a, b) refl

-- one that is neither free nor held: a record, or broken
rest_cell :
    (s : Settings) (Z : ℕ) (r : List ℕ) → alike r (zero_row Z) ≡ false → holds s Z r ≡ false → cell_of s Z r ≡ pick (records s Z r) (taken (range_of s r)) broken
unfolding cell_of
rest_cell s Z r a b = rw (a, b) refl

rest_none : (b : Bool) (g : Range) → segment_in (pick b (taken g) broken) ≡ none
rest_none true g = refl
rest_none false g = refl

made : (s : Settings) (Z : ℕ) (r : List ℕ) → alike r (zero_row Z) ≡ false → holds s Z r ≡ true → Holding s Z r
unfolding holds may_hold
made s Z r a b =
    let x = both_true (alike r (held_row Z (packet_in r))) (may_hold s Z (packet_in r)) b in
    let y = both_true (leb (2 + length (packet_in r)) Z) (both (eqb (read_packet s (packet_in r)).refusal.number 0) (segmented (packet_in r))) x.1 in
    let w = both_true (eqb (read_packet s (packet_in r)).refusal.number 0) (segmented (packet_in r)) y.1 in
    record {
      accepted = eqb-true (read_packet s (packet_in r)).refusal.number 0 w.0;
      segment = w.1;
      cell = held_cell s Z r a b;
      row = alike_true r (held_row Z (packet_in r)) x.0;
      fits = leb-true (2 + length (packet_in r)) Z y.0;
    }

-- a row holds a segment, or none
pub kinds : (s : Settings) (Z : ℕ) (r : List ℕ) → Holding s Z r ⊎ (segment_in (cell_of s Z r) ≡ none)
kinds s Z r =
    ⊎_elim
    (λ a. inr (ap segment_in (free_cell s Z r a)))
    (λ a. ⊎_elim (λ b. inl (made s Z r a b)) (λ b. inr (ap segment_in (rest_cell s Z r a b) ∙ rest_none (records s Z r) (range_of s r))) (bool (holds s Z r)))
    (bool (alike r (zero_row Z)))

pub held_is : (s : Settings) (Z : ℕ) (r : List ℕ) (t : Seg) → cell_of s Z r ≡ held t → Holding s Z r
held_is s Z r t e = ⊎_elim (λ h. h) (λ n. absurd (held_not (cell_of s Z r) e n)) (kinds s Z r)

-- a row that carries something holds it
pub carrying : (s : Settings) (Z : ℕ) (r k : List ℕ) (c : ℕ) → carries_in k c (cell_of s Z r) ≡ true → Holding s Z r
carrying s Z r k c e = ⊎_elim (λ h. h) (λ n. absurd (false≢true (sym (ap (by_segment false (carries k c)) n) ∙ e))) (kinds s Z r)

-- so one that could only carry what it holds carries nothing where it does not
unless_held : (s : Settings) (Z : ℕ) (r k : List ℕ) (c : ℕ) → (Holding s Z r → false ≡ carries_in k c (cell_of s Z r)) → false ≡ carries_in k c (cell_of s Z r)
unless_held s Z r k c h = ⊎_elim (λ e. h (carrying s Z r k c e)) (λ e. sym e) (bool (carries_in k c (cell_of s Z r)))

pub not_held : {b : Bool} → b ≡ true → b ≡ false → ⊥
not_held e f = let z : ◌≡◌ {A = ℕ} 0 1 = cc in omega arith

-- a row that is judged held is
pub judged_one : (s : Settings) (Z : ℕ) (r : List ℕ) {t : Judged} → t ≡ judged_of (body_in s r) (cell_of s Z r) → told_held t ≡ true → Holding s Z r
judged_one s Z r {t} e h =
    ⊎_elim (λ w. w) (λ n. absurd (not_held (ap told_held (sym e) ∙ h) (judged_none (body_in s r) (cell_of s Z r) n).0)) (kinds s Z r)

-- and tells where its body begins, and its counter
pub judged_at :
    (s : Settings) (Z : ℕ) (r : List ℕ) {t : Judged} → t ≡ judged_of (body_in s r) (cell_of s Z r) → Holding s Z r →
    (told_held t ≡ true) × ((told_body t ≡ (read_packet s (packet_in r)).body.at) × (told_counter t ≡ (read_packet s (packet_in r)).ids.counter.0))
unfolding seg_of
judged_at s Z r {t} e h =
    let f = e ∙ ap (judged_of (body_in s r)) h.cell in
    (ap told_held f, (ap (λ (x : Judged). told_body x) f, ap (λ (x : Judged). told_counter x) f))

-- the counter of a segment that is held stands where its presence octet says
pub held_counter : (s : Settings) (Z : ℕ) (r : List ℕ) → Octets r → Holding s Z r → counter_in (packet_in r) ≡ (read_packet s (packet_in r)).ids.counter.0
unfolding counter_in place_in
held_counter s Z r o h = counter_told s (packet_in r) (octets_part r 2 (number 2 r 6 + 7) o) h.accepted h.segment

-- ---- as the code tests it

module _ (s : Settings) (r z q : List ℕ) (body_at c : ℕ) (o : Octets r) (a : Asked s q body_at) where
  abbrev k : List ℕ
  k = key_of q (read_packet s q)

  abbrev p : List ℕ
  p = packet_in r

  plain : Octets p
  plain = octets_part r 2 (number 2 r 6 + 7) o

  pub carries_free : {b : ℕ} → b ≡ octet_at r 0 → b ≡ 0 → false ≡ carries_in k c (cell_of s (length z) r)
  carries_free {b} e t = unless_held s (length z) r k c held_it
    where
      held_it : Holding s (length z) r → false ≡ carries_in k c (cell_of s (length z) r)
      held_it h = let w : ◌≡◌ {A = ℕ} 0x4d 0 = ap (λ (x : List ℕ). octet_at x 0) (sym h.row) ∙ sym e ∙ t in absurd (omega arith)

  module _ (there : Holding s (length z) r) where
    told : carries_in k c (cell_of s (length z) r) ≡ both (eqb c (counter_in p)) (alike k (key_of p (read_packet s p)))
    unfolding carries seg_of
    told = ap (carries_in k c) there.cell ∙ ap (λ (n : ℕ). both (eqb c n) (alike k (key_of p (read_packet s p)))) (sym (held_counter s (length z) r o there))

    keys : spans_alike q (read_packet s q).body.at p (read_packet s p).body.at ≡ alike k (key_of p (read_packet s p))
    keys = keys_same s q p a.octets plain a.accepted there.accepted a.segment there.segment

    -- another transaction id, another key
    other_key : (number 8 p 18 ≡ number 8 q 18 → ⊥) → alike k (key_of p (read_packet s p)) ≡ false
    other_key h = ⊎_elim same_key_lem (λ t. t) (bool (alike k (key_of p (read_packet s p))))
      where
        same_key_lem : alike k (key_of p (read_packet s p)) ≡ true → alike k (key_of p (read_packet s p)) ≡ false
        same_key_lem t = absurd (h (sym (spans_transaction q p _ _ (keys ∙ t))))

  pub carries_other : {x : List ℕ} {n : ℕ} → x ≡ p → n ≡ counter_in x → (n ≡ c → ⊥) → false ≡ carries_in k c (cell_of s (length z) r)
  carries_other {x} {n} ex en h =
      let e : n ≡ counter_in p = en ∙ ap counter_in ex in
      unless_held s (length z) r k c
      (λ there. sym (told there ∙ ap (λ (t : Bool). both t (alike k (key_of p (read_packet s p)))) (ne_eqb c (counter_in p) (λ y. h (e ∙ sym y)))))

  pub carries_apart :
      {x : List ℕ} {m n : ℕ} → x ≡ p → m ≡ number 8 x 18 → n ≡ number 8 q 18 → (m ≡ n → ⊥) → false ≡ carries_in k c (cell_of s (length z) r)
  carries_apart {x} {m} {n} ex em en h =
      let e : m ≡ number 8 p 18 = em ∙ ap (λ (y : List ℕ). number 8 y 18) ex in
      unless_held s (length z) r k c
      (λ there.
      sym
      (told there
      ∙ ap (both (eqb c (counter_in p))) (other_key there (λ y. h (e ∙ y ∙ sym en)))
      ∙ pick_false (eqb c (counter_in p))))

  module _ {t : Judged} (et : t ≡ judged_of (body_in s r) (cell_of s (length z) r)) where
    pub carries_not : told_held t ≡ false → false ≡ carries_in k c (cell_of s (length z) r)
    carries_not h = unless_held s (length z) r k c (λ there. absurd (not_held (judged_at s (length z) r et there).0 h))

    pub carries_same :
        {x : List ℕ} {n : ℕ} {b : Bool} → told_held t ≡ true → x ≡ p → n ≡ counter_in x → n ≡ c → b ≡ spans_alike q body_at x (told_body t) →
        b ≡ carries_in k c (cell_of s (length z) r)
    carries_same {x} {n} {b} one ex en ec eb =
        let there = judged_one s (length z) r et one in
        let e : c ≡ counter_in p = sym ec ∙ en ∙ ap counter_in ex in
        eb
        ∙ ap₂ (λ (y : List ℕ) (m : ℕ). spans_alike q body_at y m) ex (judged_at s (length z) r et there).1.0
        ∙ ap (λ (m : ℕ). spans_alike q m p (read_packet s p).body.at) a.body
        ∙ keys there
        ∙ sym (told there ∙ ap (λ (y : Bool). both y (alike k (key_of p (read_packet s p)))) (eq-eqb c (counter_in p) e))
