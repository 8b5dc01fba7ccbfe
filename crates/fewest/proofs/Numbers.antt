-- The numbers of packet i where the count succeeds: its flags, sequence count and counter; and its values are in range.
-- Assumes nothing.
use Prim.Native.Nat.{ℕ, suc, ◌+◌, ◌*◌, ◌≤◌, ◌<◌}
use mathlib.Core.Path.{◌≡◌, refl, ap, sym, ◌∙◌, subst}
use mathlib.Core.Bool.{Bool, true, false, not}
use mathlib.Core.List.{List}
use native.Mathlib.Omega.{arith}
use lib.ListN.{length}
use lib.Dec.{leb, eqb}
use borrow.Author.Tests.{leb-true, eq-eqb, ne_eqb}
use Rattle.octets.specs.Octets.{pick, part, Octets}
use Rattle.octets.proofs.Has.{octets_part}
use Rattle.walk.specs.declared.Settings.{Settings}
use Rattle.walk.specs.Profile.{fixed_profile}
use Rattle.walk.specs.Walk.{none_failed, unless, timestamp_least, timestamp_most}
use Rattle.packet.proofs.Counts.{count_mod}
use Rattle.packet.specs.Format.{Opt, segment, SettingsInRange, InRange}
use Rattle.packet.specs.Numbers.{segments_most}
use Rattle.sender.specs.declared.Sender.{Sender}
use Rattle.sender.proofs.Stepping.{steps_counter}
use Rattle.write.specs.declared.HeaderValues.{HeaderValues}
use Rattle.write.specs.Given.{Lent}
use Rattle.write.specs.Lending.{Lends}
use Rattle.write.specs.Writing.{settings_test, fine}
use Rattle.write.proofs.Tests.{unless_fine}
use Rattle.write.proofs.Answers.{secondary_length}
use Rattle.cut.specs.Cutting.{counter_at, single, chunk, packets, header_length, count_refusal, flags_at, body_start, packet_at, given_at}
use Rattle.cut.proofs.Plans.{before, Good, good, Cuts, cuts}
use Rattle.cut.proofs.Packets.{counter_flag, packet_most_lem}
use Rattle.two_way.proofs.Headers.{checks_range}
use Rattle.two_way.proofs.Texts.{lent_texts}
use Rattle.fewest.proofs.Parts.{piece_some}

-- ---- the flags

module _ (P H B i : ℕ) where
  pub segment_is : segment (flags_at P H B i) ≡ not (single P H B)
  unfolding flags_at
  segment_is = go (single P H B) (eqb i 0) (eqb (suc i) (packets P H B))
    where
      go : (a b c : Bool) → segment (pick a 3 (pick b 1 (pick c 2 0))) ≡ not a
      go true b c = refl
      go false true c = refl
      go false false true = refl
      go false false false = refl

  pub flags_top : flags_at P H B i < 4
  unfolding flags_at
  flags_top = go (single P H B) (eqb i 0) (eqb (suc i) (packets P H B))
    where
      go : (a b c : Bool) → pick a 3 (pick b 1 (pick c 2 0)) < 4
      go true b c = omega arith
      go false true c = omega arith
      go false false true = omega arith
      go false false false = omega arith

  pub flags_whole_lem : single P H B ≡ true → flags_at P H B i ≡ 3
  unfolding flags_at
  flags_whole_lem e = rw e

  module _ (e : single P H B ≡ false) where
    pub flags_first_lem : i ≡ 0 → flags_at P H B i ≡ 1
    unfolding flags_at
    flags_first_lem z = rw (e, eq-eqb i 0 z)

    pub flags_last_lem : (i ≡ 0 → ⊥) → suc i ≡ packets P H B → flags_at P H B i ≡ 2
    unfolding flags_at
    flags_last_lem n z = rw (e, ne_eqb i 0 n, eq-eqb (suc i) (packets P H B) z)

    pub flags_between_lem : (i ≡ 0 → ⊥) → (suc i ≡ packets P H B → ⊥) → flags_at P H B i ≡ 0
    unfolding flags_at
    flags_between_lem n z = rw (e, ne_eqb i 0 n, ne_eqb (suc i) (packets P H B) z)

-- ---- a message whose count succeeds

module _ (old : Bool) (s : Settings) (P : ℕ) (v : HeaderValues) (t : Lent) (body : List ℕ) (d : Sender)
    (z : (count_refusal old s P v t (length body) d).number ≡ 0) where
  abbrev H : ℕ
  H = header_length s v t

  abbrev B : ℕ
  B = length body

  both : Cuts P H B × (fine (before old s P v t d) ≡ true)
  unfolding count_refusal
  both = cuts P H B (before old s P v t d) (eq-eqb (count_refusal old s P v t (length body) d).number 0 z)

  pub cuts_well : Cuts P H B
  cuts_well = both.0

  pub good_values : Good s P v t d
  good_values = good old s P v t d both.1

  pub room : single P H B ≡ false → 1 ≤ chunk P H
  room e = leb-true 1 (chunk P H) (ap (λ (b : Bool). pick b true (leb 1 (chunk P H))) (sym e) ∙ cuts_well.some)

  pub segments_most_lem : single P H B ≡ false → packets P H B ≤ segments_most
  segments_most_lem e =
      leb-true (packets P H B) segments_most
      (ap (λ (b : Bool). pick b true (leb (packets P H B) segments_most)) (sym e) ∙ cuts_well.segments)

  settings_range : SettingsInRange s
  unfolding settings_test
  settings_range =
      let c = unless_fine (leb s.profile fixed_profile) 14 _ good_values.settings in
      let a = unless_fine (leb s.t timestamp_most) 14 (unless (leb timestamp_least s.t) 15 none_failed) c.before in
      let b = unless_fine (leb timestamp_least s.t) 14 none_failed a.before in
      record {
        t_low = leb-true timestamp_least s.t b.held;
        t_top = leb-true s.t timestamp_most a.held;
        profile_top = leb-true s.profile fixed_profile c.held;
      }

  -- the counter fits, and there is none in an unsegmented packet
  counter_range :
      (i : ℕ) (b : Bool) → Opt (not b) (λ x. x < 4294967296) 0 (pick b 0 (counter_at d.counter i))
  unfolding counter_at
  counter_range i true = refl
  counter_range i false = omega (arith, steps_counter i d.counter.0 good_values.counter)

  body_octets : Octets body → (i : ℕ) (b : Bool) → Octets (pick b body (part body (i * chunk P H) (chunk P H)))
  body_octets o i true = o
  body_octets o i false = octets_part body (i * chunk P H) (chunk P H) o

  body_some :
      (i : ℕ) → i < packets P H B → (b : Bool) → single P H B ≡ b → not b ≡ true →
      1 ≤ length (pick b body (part body (i * chunk P H) (chunk P H)))
  body_some i l true e n = let y : ◌≡◌ {A = ℕ} 0 1 = cc in absurd (omega arith)
  body_some i l false e n = piece_some P H B e (room e) i body refl l

  pub packet_range : Lends v t body → (i : ℕ) → i < packets P H B → InRange s (given_at s P v t body d i)
  unfolding packet_at body_start
  packet_range w i l =
      let k = good_values in
      let g = segment_is P H B i in
      let c = count_mod d.sequence_count.0 i k.sequence_count in
      record {
        settings = settings_range;
        head = checks_range s v t k.checks k.texts k.parts w.transaction (lent_texts v t body w.octets);
        flags = flags_top P H B i;
        sequence_count = omega arith;
        counter =
            subst (λ (b : Bool). Opt b (λ x. x < 4294967296) 0 (pick (single P H B) 0 (counter_at d.counter i))) (sym g)
            (counter_range i (single P H B));
        body = body_octets w.octets.body i (single P H B);
        packet = omega (arith, packet_most_lem s P v t body d i cuts_well.some, k.top);
        header =
            omega (arith, secondary_length s (given_at s P v t body d i), counter_flag P H B i, cuts_well.header, four (single P H B));
        some = λ e. body_some i l (single P H B) refl (sym g ∙ e);
      }
    where
      four : (b : Bool) → H + pick b 0 4 ≡ pick b H (H + 4)
      four true = omega arith
      four false = refl
