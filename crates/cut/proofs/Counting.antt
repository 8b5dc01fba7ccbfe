-- Rounding up, counters and how a message is sent: the code's forms are the definitions.
-- Assumes nothing.
use Prim.Native.Nat.{ℕ, ◌+◌, ◌-◌, ◌<◌}
use mathlib.Core.Path.{◌≡◌, ap, sym, ◌∙◌}
use mathlib.Core.Bool.{Bool, true, false}
use native.Mathlib.Omega.{arith}
use native.Mathlib.Nat.{div-zero, div-eq_of_lt-le, add-mul}
use Rattle.octets.specs.Octets.{pick}
use Rattle.packet.specs.declared.SegmentCounter.{SegmentCounter}
use Rattle.sender.specs.declared.Sender.{Sender}
use Rattle.sender.specs.declared.Sent.{Sent}
use Rattle.sender.specs.declared.Sent.TheVariants.{Whole, Segments}
use Rattle.sender.specs.Sending.{counter_after, after_packet, after_segments, after_message}
use Rattle.std.specs.Int.{div_ceil}
use Rattle.std.proofs.lemmas.Grind.{div_ceil_times}
use Rattle.cut.specs.Cutting.{counter_at, rounded}

-- ---- rounding up

pub rounded_nothing : (B C : ℕ) → C ≡ 0 → 0 ≡ rounded B C
unfolding rounded
rounded_nothing B C e = rw e (sym (div-zero (B + (0 - 1))))

pub rounded_some : (B C : ℕ) → (C ≡ 0 → ⊥) → div_ceil B C ≡ rounded B C
unfolding rounded
rounded_some B C h =
    let p : 0 < C = omega arith in
    let t = div_ceil_times B C p in
    let m = add-mul (div_ceil B C) 1 C in
    sym (div-eq_of_lt-le C (omega (arith, t)) (omega (arith, t, m)))

-- ---- the counter

pub counter_is : {m : SegmentCounter} (c : SegmentCounter) (i : ℕ) → m ≡ counter_after i c → m.0 ≡ counter_at c i
unfolding counter_at
counter_is c i e = ap (λ (x : SegmentCounter). x.0) e

-- ---- how a message is sent

pub sent_on : (b : Bool) (n : ℕ) (d : Sender) {m : Sender} {w : Sent} → w ≡ pick b Whole (Segments n) → m ≡ after_message w d → m ≡ pick b (after_packet d) (after_segments n d)
unfolding after_message
sent_on true n d f e = e ∙ ap (λ (x : Sent). after_message x d) f
sent_on false n d f e = e ∙ ap (λ (x : Sent). after_message x d) f
