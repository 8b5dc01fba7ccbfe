-- The counter n segments on: the code's closed form is the definition's steps. And both numbers after n segments.
-- Assumes nothing.
use Prim.Native.Nat.{ℕ, zero, suc, ◌+◌, ◌-◌, ◌%◌, ◌≤◌, ◌<◌}
use mathlib.Core.Path.{◌≡◌, refl, ap, ap₂, sym, ◌∙◌}
use native.Mathlib.Omega.{arith}
use native.Mathlib.Nat.{add-mod-mod}
use Rattle.octets.specs.Octets.{most32}
use Rattle.packet.specs.declared.SegmentCounter.{SegmentCounter}
use Rattle.packet.specs.declared.SequenceCount.{SequenceCount}
use Rattle.packet.specs.Numbers.{count_at, sequence_count_at, next_counter}
use Rattle.sender.specs.declared.Sender.{Sender}
use Rattle.sender.specs.declared.Sent.{Sent}
use Rattle.sender.specs.declared.Sent.TheVariants.{Whole, Segments}
use Rattle.sender.specs.Sending.{steps_of, counter_after, after_packet, after_segment, after_segments, after_message}
use Rattle.sender.proofs.Stepping.{steps_last, steps_round}

-- ---- the counter, as the code makes it

abbrev counted : ℕ → SegmentCounter
counted x = record { 0 = x }

module _ (n : ℕ) (c : SegmentCounter) (l : c.0 ≤ most32) where
  reduced : steps_of next_counter n c.0 ≡ (c.0 + n % 4294967296) % 4294967296
  reduced = steps_round n c.0 l ∙ sym (add-mod-mod c.0 n 4294967296)

  pub after_below : {x : ℕ} → x ≡ c.0 + n % 4294967296 → x < 4294967296 → counted x ≡ counter_after n c
  after_below {x} e h = ap counted (let k : x ≡ steps_of next_counter n c.0 = omega (arith, reduced) in k)

  pub after_round : {x : ℕ} → x ≡ c.0 + n % 4294967296 → 4294967296 ≤ x → counted (x - 4294967296) ≡ counter_after n c
  after_round {x} e h =
      ap counted (let k : x - 4294967296 ≡ steps_of next_counter n c.0 = omega (arith, reduced) in k)

-- ---- both numbers

abbrev sending : SequenceCount → SegmentCounter → Sender
sending c m = record { sequence_count = c; counter = m }

pub after_both : (n : ℕ) (d : Sender) → after_segments n d ≡ sending (sequence_count_at d.sequence_count n) (counter_after n d.counter)
unfolding after_segments after_segment count_at steps_of
after_both zero d = refl
after_both (suc n) d =
    ap after_segment (after_both n d)
    ∙ ap (λ (x : ℕ). sending (sequence_count_at d.sequence_count (suc n)) (counted x)) (sym (steps_last next_counter n d.counter.0))

-- as the code makes it
pub moved_both :
    (n : ℕ) (d : Sender) {c : SequenceCount} {m : SegmentCounter} → c ≡ sequence_count_at d.sequence_count n → m ≡ counter_after n d.counter →
    sending c m ≡ after_segments n d
moved_both n d e f = ap₂ sending e f ∙ sym (after_both n d)

pub moved_one : (d : Sender) → after_segments 1 d ≡ after_segment d
unfolding after_segments
moved_one d = refl

-- ---- a message

pub message_whole : {m : Sent} {e : Sender} (d : Sender) → m ≡ Whole → e ≡ after_packet d → e ≡ after_message m d
unfolding after_message
message_whole d h k = k ∙ ap (λ (x : Sent). after_message x d) (sym h)

pub message_segments : {m : Sent} {n : ℕ} {e : Sender} (d : Sender) → m ≡ Segments n → e ≡ after_segments n d → e ≡ after_message m d
unfolding after_message
message_segments d h k = k ∙ ap (λ (x : Sent). after_message x d) (sym h)
