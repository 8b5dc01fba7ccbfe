-- The packets of a message whose count succeeds, read back (C-7): the message's header and key, counters and sequence counts one after
-- another, the flags, lengths at most P, and bodies that joined are the message's. So they are a list of packets that carries it, and
-- the fewest (M-5): the bound is reached.
-- Assumes nothing.
use Prim.Native.Nat.{ℕ, suc, ◌*◌, ◌≤◌, ◌<◌}
use mathlib.Core.Path.{◌≡◌, refl, ap, sym, ◌∙◌}
use mathlib.Core.Logic.{inl, inr, ⊎_elim}
use mathlib.Core.Bool.{Bool, true, false, not}
use mathlib.Core.List.{List}
use native.Mathlib.Omega.{arith}
use lib.ListN.{length}
use Rattle.octets.specs.Octets.{pick, part}
use Rattle.octets.proofs.Lists.{bool}
use Rattle.walk.specs.declared.Settings.{Settings}
use Rattle.fields.specs.Form.{joined}
use Rattle.packet.specs.Format.{Values, octets_of}
use Rattle.packet.specs.Numbers.{next_count, count_at, next_counter}
use Rattle.packet.proofs.Counts.{count_mod}
use Rattle.packet.specs.Reading.{segmented}
use Rattle.sender.specs.declared.Sender.{Sender}
use Rattle.sender.specs.Sending.{steps_of}
use Rattle.sender.proofs.Stepping.{steps_counter, steps_last}
use Rattle.write.specs.declared.HeaderValues.{HeaderValues}
use Rattle.write.specs.Given.{Lent, head_of}
use Rattle.write.specs.Lending.{Lends}
use Rattle.format.specs.Told.{values_of}
use Rattle.format.proofs.TwoWay.{writes_octets, reads_back}
use Rattle.format.proofs.Accepting.{written}
use Rattle.cut.specs.Cutting.{counter_at, single, chunk, packets, header_length, count_refusal, flags_at, body_start, packet_at, given_at}
use Rattle.cut.proofs.Packets.{packet_most_lem}
use Rattle.fewest.specs.Carrying.{body_of, Carried, Carries}
use Rattle.fewest.specs.Cutting.{told, octets_at, all_packets, Segment, Back, AllBack}
use Rattle.fewest.proofs.Lists.{first_length, first_each, first_same, joined_first}
use Rattle.fewest.proofs.Parts.{packets_one, two_at_least, piece_full, piece_some, piece_most, parts_joined}
use Rattle.fewest.proofs.Numbers.{segment_is, flags_whole_lem, flags_first_lem, flags_last_lem, flags_between_lem, cuts_well, good_values, room, packet_range}
use Rattle.fewest.proofs.Fewest.{fewest}

-- the body of a packet is the one that is told
body_told : (s : Settings) (p : List ℕ) {u : Values} → told s p ≡ u → body_of s p ≡ u.body
unfolding values_of
body_told s p x = ap (λ (y : Values). y.body) x

module _ (old : Bool) (s : Settings) (P : ℕ) (v : HeaderValues) (t : Lent) (body : List ℕ) (d : Sender) (w : Lends v t body)
    (z : (count_refusal old s P v t (length body) d).number ≡ 0) where
  abbrev H : ℕ
  H = header_length s v t

  abbrev B : ℕ
  B = length body

  -- what a packet of these values tells, where cutting is needed
  segment_back :
      (i : ℕ) (p : List ℕ) → i < packets P H B → told s p ≡ given_at s P v t body d i → segmented p ≡ true → single P H B ≡ false →
      Segment s P v t body d i p
  unfolding packet_at body_start counter_at
  segment_back i p l x q e =
      let f : (told s p).flags ≡ flags_at P H B i = ap (λ (u : Values). u.flags) x in
      let h = room old s P v t body d z e in
      let c : (told s p).counter ≡ steps_of next_counter i d.counter.0 =
      ap (λ (u : Values). u.counter) x ∙ ap (λ (b : Bool). pick b 0 (counter_at d.counter i)) e in
      let y : body_of s p ≡ part body (i * chunk P H) (chunk P H) =
      body_told s p x ∙ ap (λ (b : Bool). pick b body (part body (i * chunk P H) (chunk P H))) e in
      let n = ap length y in
      record {
        is_segment_lem = q;
        first = λ u. f ∙ flags_first_lem P H B i e u;
        last = λ u. f ∙ flags_last_lem P H B i e (λ j. omega (arith, two_at_least P H B e h)) u;
        between = λ j u. f ∙ flags_between_lem P H B i e j u;
        counter = c;
        counter_top = omega (arith, c, steps_counter i d.counter.0 (good_values old s P v t body d z).counter);
        full_body = λ u. n ∙ piece_full P H B e h i body refl u;
        body_some = omega (arith, piece_some P H B e h i body refl l);
        body_top = omega (arith, piece_most P H B e h i body refl);
      }

  back : (i : ℕ) → i < packets P H B → Back s P v t body d i (octets_at s P v t body d i)
  unfolding packet_at
  back i l =
      let u = given_at s P v t body d i in
      let r = packet_range old s P v t body d z w i l in
      let b = reads_back s u r in
      let k = written s u r in
      let q : segmented (octets_of s u) ≡ not (single P H B) = k.segments ∙ segment_is P H B i in
      let c : (told s (octets_of s u)).sequence_count ≡ count_at d.sequence_count.0 i = ap (λ (y : Values). y.sequence_count) b.1 in
      record {
        range = r;
        octets = writes_octets s u r;
        accepted = b.0;
        values = b.1;
        head = ap (λ (y : Values). y.head) b.1;
        key = k.key;
        count = c;
        count_wraps = c ∙ count_mod d.sequence_count.0 i (good_values old s P v t body d z).sequence_count;
        limit = packet_most_lem s P v t body d i (cuts_well old s P v t body d z).some;
        whole = λ e. (q ∙ ap not e, ap (λ (y : Values). y.flags) b.1 ∙ flags_whole_lem P H B i e);
        segment = λ e. segment_back i (octets_of s u) l b.1 (q ∙ ap not e) e;
      }

  two : single P H B ≡ false → 2 ≤ packets P H B
  two e = two_at_least P H B e (room old s P v t body d z e)

  some : 1 ≤ packets P H B
  some = ⊎_elim (λ e. omega (arith, packets_one P H B e)) (λ e. omega (arith, two e)) (bool (single P H B))

  body_back : (i : ℕ) → i < packets P H B → body_of s (octets_at s P v t body d i) ≡ body_start P H body i
  unfolding packet_at
  body_back i l = body_told s (octets_at s P v t body d i) (back i l).values

  all_bodies : joined (body_of s) (all_packets s P v t body d) ≡ body
  all_bodies =
      joined_first (body_of s) (octets_at s P v t body d) (packets P H B)
      ∙ ap (joined (λ (x : List ℕ). x))
      (first_same (λ (i : ℕ). body_of s (octets_at s P v t body d i)) (body_start P H body) (packets P H B)
      body_back)
      ∙ parts_joined P H body (cuts_well old s P v t body d z).some

  counts_on :
      (i : ℕ) → suc i < packets P H B →
      (told s (octets_at s P v t body d (suc i))).sequence_count ≡ next_count (told s (octets_at s P v t body d i)).sequence_count
  unfolding count_at
  counts_on i l = (back (suc i) l).count ∙ ap next_count (sym (back i (omega arith)).count)

  counter_told :
      single P H B ≡ false → (i : ℕ) → i < packets P H B → (told s (octets_at s P v t body d i)).counter ≡ counter_at d.counter i
  unfolding packet_at
  counter_told e i l =
      ap (λ (u : Values). u.counter) (back i l).values ∙ ap (λ (b : Bool). pick b 0 (counter_at d.counter i)) e

  counters_on :
      single P H B ≡ false → (i : ℕ) → suc i < packets P H B →
      (told s (octets_at s P v t body d (suc i))).counter ≡ next_counter (told s (octets_at s P v t body d i)).counter
  unfolding counter_at
  counters_on e i l =
      counter_told e (suc i) l ∙ steps_last next_counter i d.counter.0 ∙ ap next_counter (sym (counter_told e i (omega arith)))

  -- C-7
  pub packets_read_back : AllBack s P v t body d
  packets_read_back =
      record { each = back; some = some; two = two; counts = counts_on; counters = counters_on; bodies = all_bodies }

  -- and they carry the message
  pub carries : Carries s (head_of v t) body P (all_packets s P v t body d)
  carries =
      record {
        some = omega (arith, first_length (octets_at s P v t body d) (packets P H B), some);
        each =
            first_each (Carried s (head_of v t) P) (octets_at s P v t body d) (packets P H B)
            (λ i l. let k = back i l in record { octets = k.octets; accepted = k.accepted; limit = k.limit; key = k.key });
        kinds =
            ⊎_elim
            (λ e.
            inl
            (record {
              one = first_length (octets_at s P v t body d) (packets P H B) ∙ packets_one P H B e;
              whole =
                  first_each (λ (p : List ℕ). segmented p ≡ false) (octets_at s P v t body d) (packets P H B)
                  (λ i l. ((back i l).whole e).0);
            }))
            (λ e.
            inr
            (first_each (λ (p : List ℕ). segmented p ≡ true) (octets_at s P v t body d) (packets P H B)
            (λ i l. ((back i l).segment e).is_segment_lem)))
            (bool (single P H B));
        bodies = all_bodies;
      }

  -- so the count is reached by the cutter's own packets, and by no fewer
  pub count_exact :
      (length (all_packets s P v t body d) ≡ packets P H B)
      × ((ps : List (List ℕ)) → Carries s (head_of v t) body P ps → packets P H B ≤ length ps)
  count_exact = (first_length (octets_at s P v t body d) (packets P H B), λ ps c. fewest s (head_of v t) P body ps c)
