-- The sender over several messages: the numbers after a run are those after its last message, sequence counts go on by one for each
-- packet, and counters by one for each segment, round the end; so of 4,294,967,296 segments one after another no two have the same counter.
-- Assumes nothing.
use Prim.Native.Nat.{ℕ, ◌+◌, ◌-◌, ◌≤◌, ◌<◌}
use mathlib.Core.Path.{◌≡◌, refl, ap, sym, ◌∙◌}
use mathlib.Core.List.{List, [], ◌∷◌, ◌++◌}
use native.Mathlib.Omega.{arith}
use lib.ListN.{length, get_or}
use Rattle.octets.specs.Octets.{most32}
use Rattle.packet.specs.Numbers.{count_at, next_counter}
use Rattle.sender.specs.declared.Sender.{Sender}
use Rattle.sender.specs.Sending.{steps_of}
use Rattle.sender.proofs.Stepping.{steps_more, steps_counter, no_return}
use Rattle.fewest.specs.Runs.{Message, counted, packets_of, after_run, sent, counts_of, counters_of, Bits32, Goes}
use Rattle.fewest.proofs.Lists.{first_at}
use Rattle.fewest.proofs.Runs.{goes_none, goes_on_lem, one_goes}

pub run : (d : Sender) (ms : List Message) → Bits32 d → Goes d (sent d ms) (after_run d ms)
unfolding sent after_run
run d [] h = goes_none d h
run d (m ∷ ms) h =
    let k = one_goes d m h in
    goes_on_lem (packets_of d m) (sent (counted d m).sender ms) k (run (counted d m).sender ms k.bits)

-- the numbers after a run are those that the count of its last message answers
pub run_last : (d : Sender) (ms : List Message) (m : Message) → after_run d (ms ++ (m ∷ [])) ≡ (counted (after_run d ms) m).sender
unfolding after_run
run_last d [] m = refl
run_last d (x ∷ ms) m = run_last (counted d x).sender ms m

module _ (d : Sender) (ms : List Message) (h : Bits32 d) where
  abbrev given_counters : List ℕ
  given_counters = counters_of (sent d ms)

  -- segment number i of a run has the sender's counter moved on by i, and the sender after it the next
  pub run_counter : (i : ℕ) → i < length given_counters → get_or given_counters i 0 ≡ steps_of next_counter i d.counter.0
  run_counter i l =
      ap (λ (x : List ℕ). get_or x i 0) (run d ms h).counters
      ∙ first_at (λ (i : ℕ). steps_of next_counter i d.counter.0) (length given_counters) i 0 l

  pub run_next : (after_run d ms).counter.0 ≡ steps_of next_counter (length given_counters) d.counter.0
  run_next = (run d ms h).next

  -- each is one of 32 bits
  pub run_bits : (i : ℕ) → i < length given_counters → get_or given_counters i 0 ≤ most32
  run_bits i l = omega (arith, run_counter i l, steps_counter i d.counter.0 h)

  -- two segments that are not 4,294,967,296 or more apart have different counters
  pub run_apart : (i j : ℕ) → i < j → j < length given_counters → j - i ≤ most32 → get_or given_counters i 0 ≡ get_or given_counters j 0 → ⊥
  run_apart i j l k near e =
      let c = d.counter.0 in
      let n : i + (j - i) ≡ j = omega arith in
      no_return (j - i) (steps_of next_counter i c) (steps_counter i c h) (omega arith) near
      (steps_more next_counter i (j - i) c
      ∙ ap (λ (x : ℕ). steps_of next_counter x c) n
      ∙ sym (run_counter j k) ∙ sym e ∙ run_counter i (omega arith))

  -- packet number i of a run has the sender's sequence count moved on by i
  pub run_count : (i : ℕ) → i < length (sent d ms) → get_or (counts_of (sent d ms)) i 0 ≡ count_at d.sequence_count.0 i
  run_count i l =
      ap (λ (x : List ℕ). get_or x i 0) (run d ms h).counts ∙ first_at (count_at d.sequence_count.0) (length (sent d ms)) i 0 l
