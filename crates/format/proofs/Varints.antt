-- The Varint at the place of a reading: what is written reads back, what is accepted was written, a packet that ends inside it is
-- refused by 6, and by which numbers it is refused at all. The laws of crate `varint`, among the octets up to the bound.
-- Assumes nothing.
use Prim.Native.Nat.{ℕ, zero, suc, ◌+◌, ◌-◌, ◌/◌, ◌%◌, ◌^◌, ◌≤◌, ◌<◌}
use mathlib.Core.Path.{◌≡◌, refl, ap, sym, ◌∙◌}
use mathlib.Core.Logic.{⊎_elim}
use mathlib.Core.List.{List, [], ◌∷◌, ◌++◌, append_assoc, append-nil}
use mathlib.Core.Bool.{Bool, true, false}
use native.Mathlib.Omega.{arith}
use lib.ListN.{length, take, drop, length-append, length-take, take-append-drop}
use lib.Seq.{take-append-add, take_all, drop_at}
use lib.Dec.{leb}
use borrow.Author.Tests.{lt-leb}
use Rattle.octets.specs.Octets.{pick, Octets}
use Rattle.octets.proofs.Lists.{bool, below_or}
use Rattle.octets.proofs.Has.{Has, octets_take}
use Rattle.varint.specs.Varint.{Got, value, ends, bad, after, read, read_at, write}
use Rattle.varint.proofs.Steps.{step_more}
use Rattle.varint.proofs.Forms.{write_small, write_more}
use Rattle.varint.proofs.Laws.{reads_back, only_written}
use Rattle.walk.specs.declared.Bound.{Bound}
use Rattle.walk.specs.Walk.{Reading, Step, goes, refused, going, past, ended_by, varint_field, varint_step}
use Rattle.walk.proofs.Steps.{past_stops, number_found, number_refused, number_small}
use Rattle.packet.specs.Began.{began}
use Rattle.format.proofs.Field.{Room, Took}
use Rattle.format.proofs.Cut.{Ends, at_start}

-- ---- a list that stands inside what a list begins with

pub has_take : {p : List ℕ} {i : ℕ} (n : ℕ) (l : List ℕ) → Has p i l → i + length l ≤ n → Has (take n p) i l
has_take {p} {i} n l h b =
    let k : n ≡ length (h.pre ++ l) + (n - (i + length l)) = simp (length-append, h.starts) (omega arith) in
    record {
      pre = h.pre;
      post = take (n - (i + length l)) h.post;
      whole =
          ap (take n) (h.whole ∙ sym (append_assoc h.pre l h.post))
          ∙ ap (λ (m : ℕ). take m ((h.pre ++ l) ++ h.post)) k
          ∙ take-append-add (h.pre ++ l) h.post (n - (i + length l))
          ∙ append_assoc h.pre l (take (n - (i + length l)) h.post);
      starts = h.starts;
    }

pub has_within : {p : List ℕ} {i : ℕ} (n : ℕ) (l : List ℕ) → Has (take n p) i l → Has p i l
has_within {p} {i} n l h =
    record {
      pre = h.pre;
      post = h.post ++ drop n p;
      whole = sym (take-append-drop n p) ∙ ap (λ (q : List ℕ). q ++ drop n p) h.whole ∙ simp append_assoc;
      starts = h.starts;
    }

-- ---- the first octets of a Varint, but not all: it ends

first_ends :
    (fuel v max : ℕ) (first : Bool) (at k : ℕ) → v ≤ fuel → v ≤ max → k < length (write v) → read max first at (take k (write v)) ≡ ends
unfolding read after
first_ends fuel v max first at zero f m l = refl
first_ends zero v max first at (suc k) f m l =
    let e = write_small v (omega arith) in
    absurd (omega (arith, ap length e))
first_ends (suc fuel) v max first at (suc k) f m l =
    ⊎_elim small (more (first_ends fuel (v / 128) (max / 128) false (at + 1) k)) (below_or v 128)
  where
    small : v < 128 → read max first at (take (suc k) (write v)) ≡ ends
    small h = absurd (omega (arith, ap length (write_small v h)))

    more :
        (v / 128 ≤ fuel → v / 128 ≤ max / 128 → k < length (write (v / 128)) → read (max / 128) false (at + 1) (take k (write (v / 128))) ≡ ends) →
        128 ≤ v → read max first at (take (suc k) (write v)) ≡ ends
    more again h =
        let e = write_more v h in
        let n : k < length (write (v / 128)) = omega (arith, ap length e) in
        let r = again (omega arith) (omega arith) n in
        ap (λ (o : List ℕ). read max first at (take (suc k) o)) e
        ∙ step_more max first at (128 + v % 128) (take k (write (v / 128))) (omega arith) (omega arith)
        ∙ ap (after (128 + v % 128)) r

module _ (bound : Bound) (p : List ℕ) where
  -- what stands at the end of a packet that ends inside octets
  rest_is : (i : ℕ) (l : List ℕ) → Ends bound p i l → drop i p ≡ take (length p - i) l
  rest_is i l e =
      let f = e.from in
      let s = e.short in
      let h = e.has in
      let n = ap length h.whole in
      let m = simp (length-append, length-take) at n in
      let z : length h.post ≡ 0 = omega (arith, h.starts) in
      ap (drop i) h.whole ∙ drop_at h.pre (take (length p - i) l ++ h.post) i h.starts ∙ none h.post z
    where
      none : (x : List ℕ) → length x ≡ 0 → take (length p - i) l ++ x ≡ take (length p - i) l
      none [] z = append-nil _
      none (b ∷ x) z = absurd (omega arith)

  pub varint_back :
      (i n : ℕ) → n < 4294967296 → Has p i (write n) → Room bound i (write n) →
      ((varint_field bound p (goes i)).walk ≡ goes (i + length (write n))) × ((varint_field bound p (goes i)).value ≡ n)
  unfolding varint_step
  varint_back i n b h l =
      let e = reads_back 32 (take bound.end p) i n b (has_take bound.end (write n) h l.0) in
      let q = number_found bound p (goes i) refl e in
      (ap (λ (x : Step ℕ). x.walk) q, ap (λ (x : Step ℕ). x.value) q)

  -- what a Varint's reading is, where it goes on
  record Read (w : Reading) : Type 0 where
    went : going w ≡ true
    what : ℕ
    next : ℕ
    found : read_at 32 (take bound.end p) w.at ≡ value what next
    step : varint_field bound p w ≡ record { walk = goes next; value = what }

  -- refused at the end, it does not go on
  no_going : (at : ℕ) (b c : Bool) → going (refused at (pick b (pick c 12 6) 6)) ≡ true → ⊥
  no_going at true c g = past_stops at c g
  no_going at false c g = past_stops at false g

  came : (w : Reading) → going (varint_field bound p w).walk ≡ true → Read w
  unfolding varint_step
  came w g = ⊎_elim on off (bool (going w))
    where
      off : going w ≡ false → Read w
      off f =
          let h : going w ≡ true = rw (number_refused bound p w f) at g in
          let z : ◌≡◌ {A = ℕ} 0 1 = cc in
          absurd (omega arith)

      by : going w ≡ true → (r : Got) → read_at 32 (take bound.end p) w.at ≡ r → Read w
      by f (value v next) e = record { went = f; what = v; next = next; found = e; step = number_found bound p w f e }
      by f ends e = absurd (no_going w.at (leb bound.end (length p)) bound.limit (rw (number_found bound p w f e) at g))
      by f bad e = let z : ◌≡◌ {A = ℕ} 0 1 = cc (rw (number_found bound p w f e) at g) in absurd (omega arith)

      on : going w ≡ true → Read w
      on f = by f (read_at 32 (take bound.end p) w.at) refl

  pub varint_only :
      Octets p → (w : Reading) → going (varint_field bound p w).walk ≡ true →
      Took bound p w (varint_field bound p w).walk (write (varint_field bound p w).value) × ((varint_field bound p w).value < 4294967296)
  varint_only o w g =
      let r = came w g in
      let c = only_written 32 (take bound.end p) w.at r.what r.next (octets_take bound.end p o) r.found in
      let m = number_small bound.end p w.at r.what r.next o r.found in
      rw r.step (
        record {
          went = r.went;
          has = has_within bound.end (write r.what) c.has;
          limit = omega (arith, c.next_is, m.next_top);
          ended = ap goes c.next_is;
        },
        m.value_top,
      )

  pub varint_stays : (w : Reading) → going w ≡ false → (varint_field bound p w).walk ≡ w
  varint_stays w h = ap (λ (x : Step ℕ). x.walk) (number_refused bound p w h)

  pub varint_ends :
      (i n : ℕ) → n < 4294967296 → Room bound i (write n) → Ends bound p i (write n) →
      (varint_field bound p (goes i)).walk ≡ refused (i + began (write n ∷ []) (length p - i)) 6
  unfolding varint_step
  varint_ends i n f l e =
      let h = e.short in
      let g = e.from in
      let m = l.0 in
      let t = take_all bound.end p (omega arith) in
      let k : length p - i < length (write n) = omega arith in
      let r : read_at 32 (take bound.end p) i ≡ ends =
      ap (λ (x : List ℕ). read_at 32 x i) t
      ∙ ap (read (2 ^ 32 - 1) true i) (rest_is i (write n) e)
      ∙ first_ends n n (2 ^ 32 - 1) true i (length p - i) (omega arith) (omega arith) k in
      let u : ◌≡◌ {A = ℕ} (ended_by bound p) 6 = ap (λ (b : Bool). pick b (past bound) 6) (lt-leb bound.end (length p) (omega arith)) in
      ap (λ (x : Step ℕ). x.walk) (number_found bound p (goes i) refl r)
      ∙ ap (refused i) u
      ∙ at_start bound p i (write n) e

  pub varint_numbers :
      (P : ℕ → Type 0) → P 0 → P 6 → P (past bound) → P 10 → (w : Reading) → P w.refused → P (varint_field bound p w).walk.refused
  unfolding varint_field varint_step
  varint_numbers P none six twelve ten w h = by (going w)
    where
      at_end : (b : Bool) → P (pick b (past bound) 6)
      at_end true = twelve
      at_end false = six

      found : (g : Got) → P (varint_step bound p w.at g).walk.refused
      found (value v next) = none
      found ends = at_end (leb bound.end (length p))
      found bad = ten

      by : (b : Bool) → P (pick b (varint_step bound p w.at (read_at 32 (take bound.end p) w.at)) (record { walk = w; value = 0 })).walk.refused
      by true = found (read_at 32 (take bound.end p) w.at)
      by false = h
