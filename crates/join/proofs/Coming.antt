-- What an arrival and a taking tell a joining: where the body of a packet stands that came whole; and that taking refuses by no
-- zero, and tells an H that fits its output.
-- Assumes nothing.
use Prim.Native.Nat.{ℕ, ◌+◌, ◌-◌, ◌≤◌, ◌<◌}
use mathlib.Core.Path.{◌≡◌, refl, ap, sym, ◌∙◌}
use mathlib.Core.Logic.{◌⊎◌, inl, inr}
use mathlib.Core.Bool.{Bool, true, false}
use mathlib.Core.List.{List}
use mathlib.Core.Option.{Option, none, some}
use native.Mathlib.Omega.{arith}
use lib.ListN.{length, length-append}
use lib.Dec.{leb, ltb, eqb}
use borrow.Author.Tests.{eqb-true, leb-true, eq-eqb, ne_eqb}
use Rattle.octets.specs.Octets.{pick, Octets}
use Rattle.octets.proofs.Lists.{bool}
use Rattle.walk.specs.declared.Settings.{Settings}
use Rattle.packet.specs.Numbers.{next_counter, steps_most}
use Rattle.walk.specs.declared.Refusal.{Refusal}
use Rattle.walk.specs.Walk.{refusal}
use Rattle.packet.specs.Reading.{read_packet, segmented, counter_size, refused_header}
use Rattle.format.proofs.Accepting.{accepted}
use Rattle.cells.specs.Segments.{Seg, seg_of, same_rest}
use Rattle.cells.specs.Order.{untaken_to, count_in, gate}
use Rattle.cells.proofs.Gate.{through_tells}
use Rattle.cells.specs.Messages.{Run, body_of, cells_of, look, picked}
use Rattle.arrival.specs.Arriving.{whole, stored, again, late, refused, placed, beside, lowest_free, segment_arrived, segment_came, arrived_in, arrived}
use Rattle.taking.specs.Taking.{message, unable, writing, drawn, took_in}
use Rattle.std.specs.Prelude.{Result, Ok, Err, IfOk}
use Rattle.walk.specs.declared.Refused.{Refused}
use Rattle.walk.proofs.Refuses.{has_number}
use Rattle.packet.specs.Answer.{Header}
use Rattle.packet.specs.declared.Header.{Header as Decoded}
use Rattle.packet.specs.Decoded.{decoded}
use Rattle.taking.specs.Answer.{Taken, taken_answer}
use Rattle.taking.specs.declared.Taken.{Taken as Message}
use Rattle.join.specs.Answer.{joined_answer}
use Rattle.taking.specs.Told.{taken_of}
use Rattle.join.specs.declared.Which.TheVariants.{Joined as InJoined}
use Rattle.join.specs.Joining.{body_from, took_as, unjoined}
use Rattle.join.specs.Told.{taken, joined_of}
use Rattle.join.specs.Inner.{body_in, body_read, output_taken, taken_as}

-- ---- whole

module _ (s : Settings) (Z : ℕ) (st p : List ℕ) where
  -- a segment does not come whole
  segment_not : (n : ℕ) (t : Seg) → segment_arrived s Z st n t ≡ whole → ⊥
  unfolding segment_arrived placed
  segment_not n t e = told (look (cells_of s Z st n) t.key t.counter) (ltb (lowest_free s Z st n) n) e
    where
      same : (b : Bool) → pick b again (refused (refusal 18)) ≡ whole → ⊥
      same true d = let z : ◌≡◌ {A = ℕ} 0 1 = cc in omega arith
      same false d = let z : ◌≡◌ {A = ℕ} 0 1 = cc in omega arith

      told : (o : Option Seg) (b : Bool) → beside o t (pick b (stored (lowest_free s Z st n)) (refused (refusal 19))) ≡ whole → ⊥
      told none true d = let z : ◌≡◌ {A = ℕ} 0 1 = cc in omega arith
      told none false d = let z : ◌≡◌ {A = ℕ} 0 1 = cc in omega arith
      told (some u) b d = same (same_rest u t) d

  came_not : (n : ℕ) (t : Seg) (long : ℕ) → segment_came s Z st n t long ≡ whole → ⊥
  unfolding segment_came
  came_not n t long e = told (bool (untaken_to s Z st n t.key t.counter)) (bool (leb (2 + long) Z))
    where
      told :
          (untaken_to s Z st n t.key t.counter ≡ true) ⊎ (untaken_to s Z st n t.key t.counter ≡ false) →
          (leb (2 + long) Z ≡ true) ⊎ (leb (2 + long) Z ≡ false) → ⊥
      told (inl a) (inl b) = segment_not n t (rw (a, b) at e)
      told (inl a) (inr b) = let d : refused (refusal 17) ≡ whole = rw (a, b) at e in let z : ◌≡◌ {A = ℕ} 0 1 = cc in omega arith
      told (inr a) b = let d : late ≡ whole = rw a at e in let z : ◌≡◌ {A = ℕ} 0 1 = cc in omega arith

  pub whole_in : (n : ℕ) → arrived_in s Z st n p ≡ whole → ((read_packet s p).refusal.number ≡ 0) × (segmented p ≡ false)
  unfolding arrived_in
  whole_in n e =
      told (bool (eqb (read_packet s p).refusal.number 0)) (bool (segmented p))
    where
      told :
          (eqb (read_packet s p).refusal.number 0 ≡ true) ⊎ (eqb (read_packet s p).refusal.number 0 ≡ false) →
          (segmented p ≡ true) ⊎ (segmented p ≡ false) →
          ((read_packet s p).refusal.number ≡ 0) × (segmented p ≡ false)
      told (inl a) (inr b) = (eqb-true _ 0 a, b)
      told (inl a) (inl b) = absurd (came_not n (seg_of p (read_packet s p)) (length p) (rw (a, b) at e))
      told (inr a) b =
          let d : refused (read_packet s p).refusal ≡ whole = rw a at e in let z : ◌≡◌ {A = ℕ} 0 1 = cc in absurd (omega arith)

  pub whole_tells : arrived s Z st p ≡ whole → ((read_packet s p).refusal.number ≡ 0) × (segmented p ≡ false)
  unfolding arrived
  whole_tells e = whole_in (count_in Z st) (through_tells (gate s Z st) (arrived_in s Z st (count_in Z st) p) (λ k. refused (refusal k)) whole not_whole e).1
    where
      not_whole : (k : ℕ) → refused (refusal k) ≡ whole → ⊥
      not_whole k d = let z : ◌≡◌ {A = ℕ} 0 1 = cc in omega arith

-- the body of an accepted unsegmented packet stands after 6 + H octets and goes to the packet's end
pub whole_place :
    (s : Settings) (p : List ℕ) → Octets p → (read_packet s p).refusal.number ≡ 0 → segmented p ≡ false →
    ((read_packet s p).body.at ≡ body_from s p) × ((read_packet s p).body.length ≡ length p - body_from s p)
whole_place s p o z u =
    let k = accepted s p o z in
    let c : counter_size p ≡ 0 = ap (λ (b : Bool). pick b 4 0) u in
    let a : (read_packet s p).body.at ≡ body_from s p = omega (arith, k.body_place, c) in
    (a, omega (arith, k.body_end, a))

-- ---- taking

-- what the code makes of taking's answer
module _ (t : Taken) where
  pub as_refused : (t.refusal.number ≡ 0 → ⊥) → joined_of (unjoined t.refusal) ≡ taken_as t
  unfolding taken_as
  as_refused h =
      ap (λ (b : Bool). pick b (taken t) (joined_of (unjoined t.refusal))) (sym (ne_eqb t.refusal.number 0 h))

-- reading's answer and taking's as joining's
pub read_answers :
    (s : Settings) (p : List ℕ) (o : Result Decoded Refused) → decoded o ≡ read_packet s p → (read_packet s p).refusal.number ≡ 0 →
    joined_answer (body_read o) ≡ body_in (read_packet s p)
unfolding refused_header
read_answers s p (Ok h) e z = ap body_in e
read_answers s p (Err r) e z = absurd (has_number r (ap (λ (h : Header). h.refusal.number) e ∙ z))

pub taken_answers : (t : Result Message Refused) → joined_answer (output_taken t) ≡ taken_as (taken_answer t)
unfolding taken_as
taken_answers (Ok t) = refl
taken_answers (Err r) = as_refused (taken_answer (Err r)) (has_number r)

module _ (long : ℕ) where
  drawn_as : (o : Option Run) → taken_as (taken_of (drawn o long)) ≡ joined_of (took_as (drawn o long))
  unfolding taken_as
  drawn_as none = refl
  drawn_as (some r) = told (leb (length (writing r)) long)
    where
      told : (b : Bool) → taken_as (taken_of (pick b (message r) (unable 21))) ≡ joined_of (took_as (pick b (message r) (unable 21)))
      told true = refl
      told false = refl

  drawn_fits : (o : Option Run) → (taken_of (drawn o long)).header ≤ long - 2
  drawn_fits none = omega arith
  drawn_fits (some r) = told (leb (length (writing r)) long) refl
    where
      told : (b : Bool) → leb (length (writing r)) long ≡ b → (taken_of (pick b (message r) (unable 21))).header ≤ long - 2
      told true e = omega (arith, leb-true (length (writing r)) long e, length-append r.head.key (body_of r))
      told false e = omega arith

  module _ (s : Settings) (Z : ℕ) (x : List ℕ) (n : ℕ) where
    -- taking's answer is joining's
    pub took_as_lem : taken_as (taken_of (took_in s Z x n long)) ≡ joined_of (took_as (took_in s Z x n long))
    unfolding took_in
    took_as_lem = drawn_as (picked next_counter steps_most (cells_of s Z x n))

    -- H, where it is told, leaves room for the two octets of identification
    took_fits : (taken_of (took_in s Z x n long)).header ≤ long - 2
    unfolding took_in
    took_fits = drawn_fits (picked next_counter steps_most (cells_of s Z x n))

-- so the place of the body is a number that an output's length can be
pub place_fits :
    (s : Settings) (Z : ℕ) (x : List ℕ) (n long : ℕ) {t : Taken} → t ≡ taken_of (took_in s Z x n long) → long < 18446744073709551616 →
    t.header < 18446744073709551614
place_fits s Z x n long e h = omega (arith, took_fits long s Z x n, ap (λ (t : Taken). t.header) e)

pub place_fits_answer :
    (t : Result Message Refused) → (taken_answer t).header < 18446744073709551614 → IfOk t (λ (x : Message). x.header < 18446744073709551614)
place_fits_answer (Ok t) h = h
place_fits_answer (Err r) h = tt
