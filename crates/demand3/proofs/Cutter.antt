-- What the cutter makes is a message of demand 3: as many segments as it counts, packet i the message's own packet i with the sender's
-- sequence count, and the bodies joined are the body that it was given. So demand 3 speaks of all messages of the cutter.
-- Assumes nothing.
use Prim.Native.Nat.{ℕ, suc, ◌+◌, ◌≤◌, ◌<◌}
use mathlib.Core.Path.{◌≡◌, refl, ap, sym, ◌∙◌, subst}
use mathlib.Core.Logic.{⊎_elim}
use mathlib.Core.Bool.{Bool, false}
use mathlib.Core.Option
use mathlib.Core.Option.{some}
use mathlib.Core.List.Memᴰ
use mathlib.Core.List.{List, [], ◌∷◌, ◌++◌, map, Memᴰ}
use native.Mathlib.Omega.{arith}
use lib.ListN.{length, drop, get_or}
use lib.Dec.{eqb}
use borrow.Author.Tests.{eq-eqb}
use Rattle.octets.specs.Octets.{pick}
use Rattle.octets.proofs.Lists.{bool}
use Rattle.octets.specs.Laying.{together}
use Rattle.walk.specs.declared.Settings.{Settings}
use Rattle.fields.specs.Form.{joined}
use Rattle.packet.specs.Format.{identification, header_octets, octets_of, InRange}
use Rattle.packet.specs.Numbers.{count_at, next_counter}
use Rattle.write.specs.Given.{head_of}
use Rattle.cut.specs.Cutting.{counter_at, single, packets, header_length, count_refusal, count_answer, flags_at, body_start, packet_at, given_at}
use Rattle.fewest.specs.Carrying.{first_of}
use Rattle.fewest.proofs.Lists.{first_length, first_at}
use Rattle.fewest.proofs.Parts.{packets_one, parts_joined}
use Rattle.fewest.proofs.Numbers.{packet_range, cuts_well, segments_most_lem}
use Rattle.walk.specs.Walk.{refusal}
use Rattle.taking.specs.Told.{taken_of}
use Rattle.demand3.specs.Calls.{Call, out_of, took_by, out_by}
use Rattle.demand3.specs.Sendings.{Sending, whole_body, flags_in, ReadsAs, many_of, values_at, packet_with, segment_at, IsCut}
use Rattle.demand3.specs.Cutter.{Cutting, count_of, packet_of, sending_of, Succeeds}
use Rattle.demand3.specs.Whole.{Delivers}
use Rattle.demand3.proofs.ReadAs.{recounted_long, recounted_range, repeat_reads}
use Rattle.sender.specs.Sending.{steps_of}

together_joined : (l : List (List ℕ)) → together l ≡ joined (λ (x : List ℕ). x) l
unfolding together joined
together_joined [] = refl
together_joined (p ∷ l) = ap (λ (x : List ℕ). p ++ x) (together_joined l)

module _ (s : Settings) (Z : ℕ) (m : Cutting) (k : Succeeds s Z m) where
  abbrev P : ℕ
  P = m.limit

  abbrev H : ℕ
  H = header_length s m.values m.texts

  abbrev B : ℕ
  B = length m.body

  no_refusal_lem : (count_refusal m.old s P m.values m.texts B m.sender).number ≡ 0
  unfolding count_answer
  no_refusal_lem = k.counts

  -- as many as the formula says
  many_is : (count_of s m).count ≡ packets P H B
  unfolding count_answer
  many_is =
      ap (λ (b : Bool). pick b (packets P H B) 0)
      (eq-eqb (count_refusal m.old s P m.values m.texts B m.sender).number 0 no_refusal_lem)

  -- one packet is not enough
  is_cut : single P H B ≡ false
  is_cut =
      ⊎_elim (λ e. let p = packets_one P H B e in absurd (omega (arith, k.many, many_is))) (λ e. e) (bool (single P H B))

  -- as many segments as the count answers
  pub cutter_many : many_of s (sending_of s m) ≡ (count_of s m).count
  cutter_many = first_length (body_start P H m.body) (count_of s m).count

  -- their bodies joined are the body that was given
  pub cutter_body : whole_body (sending_of s m) ≡ m.body
  cutter_body =
      ap (λ (n : ℕ). together (first_of (body_start P H m.body) n)) many_is
      ∙ together_joined (first_of (body_start P H m.body) (packets P H B))
      ∙ parts_joined P H m.body (cuts_well m.old s P m.values m.texts m.body m.sender no_refusal_lem).some

  flags_are : (i : ℕ) → flags_at P H B i ≡ flags_in (many_of s (sending_of s m)) i
  unfolding flags_at flags_in
  flags_are i =
      ap (λ (b : Bool). pick b 3 (pick (eqb i 0) 1 (pick (eqb (suc i) (packets P H B)) 2 0))) is_cut
      ∙ ap (λ (n : ℕ). pick (eqb i 0) 1 (pick (eqb (suc i) n) 2 0)) (sym (cutter_many ∙ many_is))

  -- the sender's sequence count for packet i
  abbrev pub sequence_count_of : ℕ → ℕ
  sequence_count_of i = count_at m.sender.sequence_count.0 i

  module _ (i : ℕ) (l : i < many_of s (sending_of s m)) where
    values_are : given_at s P m.values m.texts m.body m.sender i ≡ values_at s (sending_of s m) i (sequence_count_of i)
    unfolding packet_at counter_at
    values_are =
        let f = flags_are i in
        let c : pick (single P H B) 0 (counter_at m.sender.counter i) ≡ steps_of next_counter i m.sender.counter.0 =
        ap (λ (b : Bool). pick b 0 (counter_at m.sender.counter i)) is_cut in
        let b : body_start P H m.body i ≡ get_or (first_of (body_start P H m.body) (count_of s m).count) i [] =
        sym (first_at (body_start P H m.body) (count_of s m).count i [] (omega (arith, cutter_many))) in
        λ j. record { head = (sending_of s m).head; flags = f j; sequence_count = sequence_count_of i; counter = c j; body = b j }

    given_range : InRange s (values_at s (sending_of s m) i (sequence_count_of i))
    given_range =
        subst (InRange s) values_are
        (packet_range m.old s P m.values m.texts m.body m.sender no_refusal_lem k.lends i
        (omega (arith, cutter_many, many_is)))

    -- packet i is the message's packet i, with the sender's sequence count
    pub cutter_packet : packet_of s m i ≡ packet_with s (sending_of s m) i (sequence_count_of i)
    cutter_packet = ap (octets_of s) values_are

    pub sequence_count_fits : sequence_count_of i < 16384
    sequence_count_fits = given_range.sequence_count

    cut_fits_lem : 2 + length (packet_with s (sending_of s m) i 0) ≤ Z
    cut_fits_lem =
        omega (
          arith,
          k.fits i (omega (arith, cutter_many)),
          ap length cutter_packet,
          recounted_long s (values_at s (sending_of s m) i (sequence_count_of i)) 0,
        )

  -- a message of demand 3
  pub cutter_cut : IsCut s Z (sending_of s m)
  cutter_cut =
      record {
        many = omega (arith, cutter_many, k.many);
        most = omega (arith, cutter_many, many_is, segments_most_lem m.old s P m.values m.texts m.body m.sender no_refusal_lem is_cut);
        range = λ i l. recounted_range s (values_at s (sending_of s m) i (sequence_count_of i)) 0 (omega arith) (given_range i l);
        fits = cut_fits_lem;
      }

  -- so packet i arrives as segment i
  pub cutter_reads : (i : ℕ) → i < (count_of s m).count → ReadsAs s (packet_of s m i) (segment_at s (sending_of s m) i)
  cutter_reads i h =
      let l : i < many_of s (sending_of s m) = omega (arith, cutter_many) in
      subst (λ (p : List ℕ). ReadsAs s p (segment_at s (sending_of s m) i)) (sym (cutter_packet i l))
      (repeat_reads s Z (sending_of s m) cutter_cut i l (sequence_count_of i) (sequence_count_fits i l))

  -- and what a call hands out is what the cutter was given: H, B and the first counter, the header's octets, the body
  pub cutter_hands_out : (n : ℕ) (st : List ℕ) (c : Call) → Delivers s Z n (sending_of s m) st c →
      (Option.map taken_of (took_by s Z st c)
      ≡ some (record { refusal = refusal 0; header = H; body = B; counter = m.sender.counter }))
      × (out_by s Z st c
      ≡ identification (head_of m.values m.texts) ++ header_octets s (head_of m.values m.texts) ++ m.body ++ drop (2 + H + B) (out_of c))
  cutter_hands_out n st c d = (
    d.told
        ∙ ap (λ (b : List ℕ). some (record { refusal = refusal 0; header = H; body = length b; counter = m.sender.counter }))
        cutter_body,
    d.written
        ∙ ap
        (λ (b : List ℕ).
        identification (head_of m.values m.texts) ++ header_octets s (head_of m.values m.texts) ++ b ++ drop (2 + H + length b) (out_of c))
        cutter_body,
  )

-- and all of a list
pub cutter_all : (s : Settings) (Z : ℕ) (ms : List Cutting) → ((m : Cutting) → Memᴰ m ms → Succeeds s Z m) →
    (w : Sending) → Memᴰ w (map (sending_of s) ms) → IsCut s Z w
cutter_all s Z ms f w h =
    let v = Memᴰ.of_map (sending_of s) ms h in
    subst (IsCut s Z) v.2 (cutter_cut s Z v.0 (f v.0 v.1))
