-- A written message: reading accepts it and tells its values. By the laws of the secondary header's field.
-- Assumes nothing.
use Prim.Native.Nat.{ℕ, ◌+◌, ◌-◌, ◌*◌, ◌/◌, ◌%◌, ◌≤◌, ◌<◌}
use mathlib.Core.Path.{◌≡◌, refl, ap, sym, ◌∙◌, subst}
use mathlib.Core.List.{List, [], ◌++◌}
use mathlib.Core.Bool.{Bool, true, false, not}
use native.Mathlib.Omega.{arith}
use lib.ListN.{length}
use lib.Dec.{eqb, leb, ltb}
use borrow.Author.Tests.{eq-eqb, ne_eqb, le-leb, lt-ltb}
use Rattle.octets.specs.Octets.{pick, Octets, octet_at, number, wide, most8}
use Rattle.octets.proofs.Has.{Has, has_first, has_second, has_self, part_has, octets_append}
use Rattle.octets.proofs.Numbers.{number_back, wide_octets}
use Rattle.walk.specs.declared.Settings.{Settings}
use Rattle.walk.specs.declared.Tested.{Tested}
use Rattle.walk.specs.Profile.{fixed_profile}
use Rattle.walk.specs.Walk.{Reading, goes, refused, none_failed, timestamp_least, timestamp_most}
use Rattle.walk.proofs.Steps.{check_ok}
use Rattle.packet.specs.Format.{Head, Values, SettingsInRange, HeadInRange, identification, counter_octets, header_octets, secondary_octets}
use Rattle.format.specs.Told.{values_of}
use Rattle.format.proofs.Field.{Room}
use Rattle.format.proofs.FixedPart.{Fixed}
use Rattle.format.proofs.Secondary.{Optional, secondary_f}
use Rattle.format.proofs.Pairs.{flags_of_head, pair_of, pair_form, pair_fit, same_values}
use Rattle.format.proofs.Frame.{word_is}
use Rattle.write.specs.Writing.{settings_test}
use Rattle.write.proofs.Tests.{unless_true}
use Rattle.pdu.specs.Format.{timestamp_size}
use Rattle.carry.specs.Message.{message_octets, message_bound, encoding_test, message_tests, start_at, has_at, timestamp_fits, ended, primary_of, accepted_message, read_message}
use Rattle.carry.proofs.Whole.{accepts}
use Rattle.carry.proofs.Made.{message_long}
use Rattle.carry.proofs.Only.{told, told_pair, told_step, told_has, told_type, told_apid}

-- a message's values as a packet's of flags 11
abbrev pub whole_of : Head → List ℕ → Values
whole_of h body = record { head = h; flags = 3; sequence_count = 0; counter = 0; body = body }

pub settings_fine : (s : Settings) → SettingsInRange s → settings_test s none_failed ≡ none_failed
unfolding settings_test
settings_fine s r =
    unless_true (leb s.profile fixed_profile) 15 _ (le-leb _ _ r.profile_top)
    ∙ unless_true (leb s.t timestamp_most) 15 _ (le-leb _ _ r.t_top)
    ∙ unless_true (leb timestamp_least s.t) 15 none_failed (le-leb _ _ r.t_low)

-- its header has no counter
no_counter_lem : (s : Settings) (h : Head) (body : List ℕ) → secondary_octets s (whole_of h body) ≡ header_octets s h
unfolding secondary_octets counter_octets header_octets
no_counter_lem s h body = refl

module _ (s : Settings) (h : Head) (body : List ℕ) (r : HeadInRange s h) (n : length (header_octets s h) ≤ 256) where
  header_form : (p : List ℕ) → header_octets s h ≡ (secondary_f s message_bound p false).form (pair_of (whole_of h body))
  header_form p = sym (no_counter_lem s h body) ∙ pair_form s message_bound p (whole_of h body)

  header_plain : Octets (header_octets s h)
  header_plain =
      let e = header_form [] in
      let k : length ((secondary_f s message_bound [] false).form (pair_of (whole_of h body))) < 4294967296 = rw (← e) (omega arith) in
      rw e ((secondary_f s message_bound [] false).plain (pair_of (whole_of h body)) (pair_fit s message_bound [] (whole_of h body) r refl) k)

  pub message_plain : Octets body → Octets (message_octets s h body)
  unfolding message_octets identification
  message_plain o =
      octets_append (wide 2 (h.packet_type * 4096 + 2048 + h.apid)) (header_octets s h ++ body) (wide_octets 2 _)
      (octets_append (header_octets s h) body header_plain o)

  abbrev m : List ℕ
  m = message_octets s h body

  word : number 2 m 0 ≡ h.packet_type * 4096 + 2048 + h.apid
  unfolding message_octets identification wide
  word =
      number_back 2 m 0 (h.packet_type * 4096 + 2048 + h.apid) (omega (arith, r.packet_type, r.apid))
      (has_first (wide 2 (h.packet_type * 4096 + 2048 + h.apid)) _ (has_self m))

  behind : Has m 2 (header_octets s h ++ body)
  unfolding message_octets identification wide
  behind = has_second (wide 2 (h.packet_type * 4096 + 2048 + h.apid)) (header_octets s h ++ body) (has_self m)

  module _ (e : ℕ) (x : SettingsInRange s) (l : e ≤ most8) (o : Octets body) (t : h.has_timestamp ≡ true → s.t ≡ timestamp_size) where
    lent_fine : (encoding_test s e).number ≡ 0
    unfolding encoding_test
    lent_fine =
        ap (λ (q : Tested). q.number) (unless_true (leb e most8) 22 (settings_test s none_failed) (le-leb _ _ l) ∙ settings_fine s x)

    idle : number 2 m 0 % 2048 ≡ 2047 → ⊥
    idle q = omega (arith, word, r.packet_type, r.apid)

    start : start_at s e m ≡ goes 2
    unfolding message_tests
    start =
        let b = message_plain o 1 in
        check_ok (not (eqb (number 2 m 0 % 2048) 2047)) 4 _ (ap not (ne_eqb (number 2 m 0 % 2048) 2047 idle))
        ∙ check_ok (eqb (octet_at m 0 / 8 % 2) 1) 3 _ (eq-eqb (octet_at m 0 / 8 % 2) 1 (omega (arith, word, word_is m 0, r.packet_type, r.apid, b)))
        ∙ check_ok (ltb (octet_at m 0) 32) 2 _ (lt-ltb (octet_at m 0) 32 (omega (arith, word, word_is m 0, r.packet_type, r.apid, b)))
        ∙ check_ok (leb 2 (length m)) 1 _ (le-leb 2 (length m) (omega (arith, message_long s h body)))
        ∙ ap (refused 2) lent_fine

    field_back :
        ((secondary_f s message_bound m false).step (goes 2) ≡ goes (2 + length (header_octets s h)))
        × ((secondary_f s message_bound m false).value (goes 2) ≡ pair_of (whole_of h body))
    field_back =
        let q = header_form m in
        let a : Has m 2 ((secondary_f s message_bound m false).form (pair_of (whole_of h body))) = rw (← q) (has_first (header_octets s h) body behind) in
        let k : Room message_bound 2 ((secondary_f s message_bound m false).form (pair_of (whole_of h body))) = rw (← q) (omega arith, omega arith) in
        let b = (secondary_f s message_bound m false).back 2 (pair_of (whole_of h body)) (pair_fit s message_bound m (whole_of h body) r refl) a k in
        (b.0 ∙ ap (λ (y : List ℕ). goes (2 + length y)) (sym q), b.1)

    -- at the reading's own start
    field_told :
        ((secondary_f s message_bound m false).step (start_at s e m) ≡ goes (2 + length (header_octets s h)))
        × ((secondary_f s message_bound m false).value (start_at s e m) ≡ pair_of (whole_of h body))
    field_told =
        subst
        (λ (w : Reading).
        ((secondary_f s message_bound m false).step w ≡ goes (2 + length (header_octets s h)))
        × ((secondary_f s message_bound m false).value w ≡ pair_of (whole_of h body)))
        (sym start)
        field_back

    pairs : pair_of (told s e m) ≡ pair_of (whole_of h body)
    pairs = sym (told_pair s e m) ∙ field_told.1

    has_is : has_at s e m ≡ flags_of_head h
    has_is = sym (told_has s e m) ∙ ap (λ (q : Fixed × Optional). q.0.1.1.1.1.1.1.1.1) pairs

    fits : timestamp_fits s (has_at s e m) ≡ true
    fits = ap (timestamp_fits s) has_is ∙ go h.has_timestamp t
      where
        go : (b : Bool) → (b ≡ true → s.t ≡ timestamp_size) → pick b (eqb s.t timestamp_size) true ≡ true
        go true f = eq-eqb _ _ (f refl)
        go false f = refl

    pub ended_back : ended s e m ≡ goes (2 + length (header_octets s h))
    ended_back = check_ok (timestamp_fits s (has_at s e m)) 34 _ fits ∙ sym (told_step s e m) ∙ field_told.0

    pub reads : read_message s e m ≡ accepted_message s e m
    reads = accepts s e m (rw ended_back refl)

    body_is : (told s e m).body ≡ body
    unfolding values_of accepted_message
    body_is =
        let y : (ended s e m).at ≡ 2 + length (header_octets s h) = ap (λ (w : Reading). w.at) ended_back in
        let z : length m - (2 + length (header_octets s h)) ≡ length body = omega (arith, message_long s h body) in
        rw (y, z) (part_has body (has_second (header_octets s h) body behind))

    type_is : (told s e m).head.packet_type ≡ h.packet_type
    type_is =
        let b = message_plain o 1 in
        let z : octet_at m 0 / 16 % 2 ≡ h.packet_type = omega (arith, word, word_is m 0, r.packet_type, r.apid, b) in
        told_type s e m ∙ z

    apid_is : (told s e m).head.apid ≡ h.apid
    apid_is =
        let z : number 2 m 0 % 2048 ≡ h.apid = omega (arith, word, r.packet_type, r.apid) in
        told_apid s e m ∙ z

    pub values_back : told s e m ≡ whole_of h body
    unfolding values_of accepted_message primary_of
    values_back = same_values (told s e m) (whole_of h body) pairs type_is apid_is refl refl body_is
