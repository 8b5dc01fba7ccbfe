-- What one message does to the sender's two numbers, refused or not: the sequence counts go on by one for each packet, the counters by
-- one for each segment. And what two lists of packets do, sent one after the other.
-- Assumes nothing.
use Prim.Native.Nat.{ℕ, zero, suc, ◌+◌}
use mathlib.Core.Path.{◌≡◌, refl, ap, ap₂, sym, ◌∙◌, subst}
use mathlib.Core.Logic.{⊎_elim}
use mathlib.Core.Bool.{Bool, true, false, not}
use mathlib.Core.List.{List, [], ◌∷◌, ◌++◌}
use native.Mathlib.Omega.{arith}
use native.Mathlib.Nat.{add-zero}
use lib.ListN.{length, length-append}
use Rattle.octets.specs.Octets.{pick}
use Rattle.octets.proofs.Lists.{bool}
use Rattle.fields.specs.Form.{joined}
use Rattle.packet.specs.Format.{Values, segment, when}
use Rattle.packet.specs.Numbers.{next_count, count_at, next_counter}
use Rattle.sender.specs.declared.Sender.{Sender}
use Rattle.sender.specs.Sending.{after_packet, after_segments, steps_of}
use Rattle.sender.proofs.Stepping.{steps_more, steps_counter}
use Rattle.sender.proofs.Moving.{after_both}
use Rattle.write.specs.Writing.{fine}
use Rattle.cut.specs.Cutting.{counter_at, single, packets, header_length, count_refusal, sender_after, count_answer, packet_at, given_at}
use Rattle.fewest.specs.Carrying.{first_of}
use Rattle.fewest.specs.Runs.{Message, counted, packets_of, counts_of, counter_in, counters_of, Bits32, Goes}
use Rattle.fewest.proofs.Lists.{joined_append, joined_none, joined_suc, first_length, first_same, first_more}
use Rattle.fewest.proofs.Parts.{packets_one}
use Rattle.fewest.proofs.Numbers.{segment_is}

-- ---- lists of packets

counts_append : (l m : List Values) → counts_of (l ++ m) ≡ counts_of l ++ counts_of m
counts_append [] m = refl
counts_append (v ∷ l) m = ap (λ (x : List ℕ). v.sequence_count ∷ x) (counts_append l m)

counts_first : (f : ℕ → Values) (n : ℕ) → counts_of (first_of f n) ≡ first_of (λ (i : ℕ). (f i).sequence_count) n
unfolding first_of
counts_first f zero = refl
counts_first f (suc n) =
    counts_append (first_of f n) (f n ∷ []) ∙ ap (λ (x : List ℕ). x ++ ((f n).sequence_count ∷ [])) (counts_first f n)

-- of unsegmented packets there are no counters
counters_whole : (f : ℕ → Values) (n : ℕ) → ((i : ℕ) → segment (f i).flags ≡ false) → counters_of (first_of f n) ≡ []
unfolding first_of
counters_whole f zero h = joined_none counter_in
counters_whole f (suc n) h =
    joined_suc counter_in f n
    ∙ ap₂ (λ (x : List ℕ) (b : Bool). x ++ when b ((f n).counter ∷ [])) (counters_whole f n h) (h n)

-- of segments one each
counters_segments : (f : ℕ → Values) (n : ℕ) → ((i : ℕ) → segment (f i).flags ≡ true) → counters_of (first_of f n) ≡ first_of (λ (i : ℕ). (f i).counter) n
unfolding first_of
counters_segments f zero h = joined_none counter_in
counters_segments f (suc n) h =
    joined_suc counter_in f n
    ∙ ap₂ (λ (x : List ℕ) (b : Bool). x ++ when b ((f n).counter ∷ [])) (counters_segments f n h) (h n)

count_more : (c n i : ℕ) → count_at (count_at c n) i ≡ count_at c (n + i)
unfolding count_at
count_more c n zero = ap (count_at c) (sym (add-zero n))
count_more c n (suc i) = let e : suc (n + i) ≡ n + suc i = omega arith in ap next_count (count_more c n i) ∙ ap (count_at c) e

-- ---- one list of packets after the other

pub goes_none : (d : Sender) → Bits32 d → Goes d [] d
unfolding first_of joined count_at steps_of
goes_none d h =
    record {
      counts = refl;
      count = refl;
      counters = refl;
      next = refl;
      bits = h;
    }

pub goes_on_lem : {d e f : Sender} (l m : List Values) → Goes d l e → Goes e m f → Goes d (l ++ m) f
goes_on_lem {d} {e} {f} l m a b =
    let n = length-append l m in
    let c = joined_append counter_in l m in
    let k : length (counters_of (l ++ m)) ≡ length (counters_of l) + length (counters_of m) =
    ap length c ∙ length-append (counters_of l) (counters_of m) in
    record {
      counts =
          counts_append l m ∙ ap₂ ◌++◌ a.counts b.counts
          ∙ ap (λ (x : List ℕ). first_of (count_at d.sequence_count.0) (length l) ++ x)
          (first_same (count_at e.sequence_count.0) (λ (i : ℕ). count_at d.sequence_count.0 (length l + i)) (length m)
          (λ i h. ap (λ (x : ℕ). count_at x i) a.count ∙ count_more d.sequence_count.0 (length l) i))
          ∙ sym (first_more (count_at d.sequence_count.0) (length l) (length m))
          ∙ ap (first_of (count_at d.sequence_count.0)) (sym n);
      count =
          b.count ∙ ap (λ (x : ℕ). count_at x (length m)) a.count ∙ count_more d.sequence_count.0 (length l) (length m)
          ∙ ap (count_at d.sequence_count.0) (sym n);
      counters =
          c ∙ ap₂ ◌++◌ a.counters b.counters
          ∙ ap (λ (x : List ℕ). first_of (λ (i : ℕ). steps_of next_counter i d.counter.0) (length (counters_of l)) ++ x)
          (first_same (λ (i : ℕ). steps_of next_counter i e.counter.0) (λ (i : ℕ). steps_of next_counter (length (counters_of l) + i) d.counter.0)
          (length (counters_of m)) (λ i h. steps_on i))
          ∙ sym (first_more (λ (i : ℕ). steps_of next_counter i d.counter.0) (length (counters_of l)) (length (counters_of m)))
          ∙ ap (first_of (λ (i : ℕ). steps_of next_counter i d.counter.0)) (sym k);
      next = b.next ∙ steps_on (length (counters_of m)) ∙ ap (λ (x : ℕ). steps_of next_counter x d.counter.0) (sym k);
      bits = b.bits;
    }
  where
    steps_on : (i : ℕ) → steps_of next_counter i e.counter.0 ≡ steps_of next_counter (length (counters_of l) + i) d.counter.0
    steps_on i = ap (steps_of next_counter i) a.next ∙ steps_more next_counter (length (counters_of l)) i d.counter.0

-- ---- one message

module _ (d : Sender) (m : Message) (h : Bits32 d) where
  abbrev H : ℕ
  H = header_length m.settings m.values m.texts

  abbrev B : ℕ
  B = length m.body

  abbrev given : ℕ → Values
  given = given_at m.settings m.limit m.values m.texts m.body d

  counts_given : (n : ℕ) → counts_of (first_of given n) ≡ first_of (count_at d.sequence_count.0) (length (first_of given n))
  unfolding packet_at
  counts_given n = counts_first given n ∙ ap (first_of (count_at d.sequence_count.0)) (sym (first_length given n))

  segment_given : (i : ℕ) → segment (given i).flags ≡ not (single m.limit H B)
  unfolding packet_at
  segment_given i = segment_is m.limit H B i

  whole_goes : single m.limit H B ≡ true → Goes d (first_of given 1) (after_packet d)
  unfolding after_packet count_at first_of steps_of
  whole_goes e =
      let c = counters_whole given 1 (λ i. segment_given i ∙ ap not e) in
      record {
        counts = counts_given 1;
        count = refl;
        counters = c ∙ ap (first_of (λ (i : ℕ). steps_of next_counter i d.counter.0)) (sym (ap length c));
        next = ap (λ (x : ℕ). steps_of next_counter x d.counter.0) (sym (ap length c));
        bits = h;
      }

  counter_given : single m.limit H B ≡ false → (i : ℕ) → (given i).counter ≡ steps_of next_counter i d.counter.0
  unfolding packet_at counter_at
  counter_given e i = ap (λ (b : Bool). pick b 0 (counter_at d.counter i)) e

  cut_goes : single m.limit H B ≡ false → Goes d (first_of given (packets m.limit H B)) (after_segments (packets m.limit H B) d)
  cut_goes e =
      let n = packets m.limit H B in
      let c : counters_of (first_of given n) ≡ first_of (λ (i : ℕ). steps_of next_counter i d.counter.0) n =
      counters_segments given n (λ i. segment_given i ∙ ap not e)
      ∙ first_same (λ (i : ℕ). (given i).counter) (λ (i : ℕ). steps_of next_counter i d.counter.0) n (λ i l. counter_given e i) in
      let y : length (counters_of (first_of given n)) ≡ n = ap length c ∙ first_length (λ (i : ℕ). steps_of next_counter i d.counter.0) n in
      subst (λ (x : Sender). Goes d (first_of given n) x) (sym (after_both n d))
      (record {
        counts = counts_given n;
        count = ap (count_at d.sequence_count.0) (sym (first_length given n));
        counters = c ∙ ap (first_of (λ (i : ℕ). steps_of next_counter i d.counter.0)) (sym y);
        next = ap (λ (x : ℕ). steps_of next_counter x d.counter.0) (sym y);
        bits = steps_counter n d.counter.0 h;
      })

  after_is : {b : Bool} → single m.limit H B ≡ b → sender_after m.limit H B d ≡ pick b (after_packet d) (after_segments (packets m.limit H B) d)
  unfolding sender_after
  after_is e = ap (λ (x : Bool). pick x (after_packet d) (after_segments (packets m.limit H B) d)) e

  made_goes : Goes d (first_of given (packets m.limit H B)) (sender_after m.limit H B d)
  made_goes =
      ⊎_elim
      (λ e.
      subst (λ (x : Sender). Goes d (first_of given (packets m.limit H B)) x) (sym (after_is e))
      (subst (λ (n : ℕ). Goes d (first_of given n) (after_packet d)) (sym (packets_one m.limit H B e)) (whole_goes e)))
      (λ e. subst (λ (x : Sender). Goes d (first_of given (packets m.limit H B)) x) (sym (after_is e)) (cut_goes e))
      (bool (single m.limit H B))

  -- what a message does to the sender, refused or not
  pub one_goes : Goes d (packets_of d m) (counted d m).sender
  unfolding count_answer first_of
  one_goes =
      ⊎_elim
      (λ f. rw f made_goes)
      (λ f. rw f (goes_none d h))
      (bool (fine (count_refusal m.old m.settings m.limit m.values m.texts B d)))
