-- An accepted message: the values that reading tells are in range, and the message is their octets. By the laws of the secondary header's
-- field, read from the third octet on within 258.
-- Assumes nothing.
use Prim.Native.Nat.{ℕ, ◌+◌, ◌-◌, ◌*◌, ◌/◌, ◌%◌, ◌≤◌, ◌<◌}
use mathlib.Core.Path.{◌≡◌, refl, ap, sym, ◌∙◌, subst}
use mathlib.Core.List.{List, [], map}
use mathlib.Core.Bool.{Bool, true, false, not}
use native.Mathlib.Omega.{arith}
use lib.ListN.{length, take}
use lib.Dec.{eqb, leb, ltb}
use borrow.Author.Tests.{eqb-true, eqb-false, leb-true, ltb-true, not-true}
use Rattle.octets.specs.Octets.{pick, Octets, octet_at, number, wide, most8}
use Rattle.octets.specs.Laying.{together}
use Rattle.octets.proofs.Has.{Has, has_inside, has_both, has_all_lem, octets_part}
use Rattle.octets.proofs.Numbers.{number_has}
use Rattle.walk.specs.declared.Settings.{Settings}
use Rattle.walk.specs.Walk.{Reading, goes, refused, going, none_failed, timestamp_least, timestamp_most}
use Rattle.walk.specs.Profile.{fixed_profile}
use Rattle.walk.proofs.Steps.{check_held}
use Rattle.packet.specs.Format.{Values, SettingsInRange, HeadInRange, header_most, segment, identification, counter_octets, header_octets, secondary_octets}
use Rattle.packet.specs.FixedPart.{after_sdu, after_area, after_service, after_operation, after_version, after_session}
use Rattle.packet.specs.FixedPart.{after_secondary, after_qualifier, after_transaction, after_presence, fixed_of, present_of}
use Rattle.packet.specs.Reading.{ids_of, texts_of}
use Rattle.format.specs.Told.{head_of, values_of, content}
use Rattle.format.proofs.Field.{Sound, Took, took_at}
use Rattle.format.proofs.Secondary.{secondary_f}
use Rattle.format.proofs.Pairs.{flags_of_head, pair_of, pair_form, fit_head}
use Rattle.format.proofs.Frame.{word_is}
use Rattle.format.proofs.Only.{rest_has}
use Rattle.pdu.specs.Format.{timestamp_size}
use Rattle.write.specs.Writing.{settings_test, fine}
use Rattle.write.proofs.Tests.{unless_fine}
use Rattle.carry.specs.Message.{message_octets, message_bound, encoding_test, message_tests, start_at, has_at, texts_at, timestamp_fits, ended, primary_of, accepted_message, parts_of}
use Rattle.carry.proofs.Joined.{domain_least}
use Rattle.carry.proofs.Made.{message_long}
use Rattle.carry.proofs.Parts.{accepted_few}

-- 15 passed
pub settings_only : (s : Settings) → fine (settings_test s none_failed) ≡ true → SettingsInRange s
unfolding settings_test
settings_only s g =
    let c = unless_fine (leb s.profile fixed_profile) 14 _ g in
    let b = unless_fine (leb s.t timestamp_most) 14 _ c.before in
    let a = unless_fine (leb timestamp_least s.t) 14 _ b.before in
    record { t_low = leb-true _ _ a.held; t_top = leb-true _ _ b.held; profile_top = leb-true _ _ c.held }

-- 15, 22 and 1 to 4 passed
pub record Opens (s : Settings) (e : ℕ) (m : List ℕ) : Type 0 where
  pub settings : SettingsInRange s
  pub encoding : e ≤ most8
  pub two : 2 ≤ length m
  pub version : octet_at m 0 < 32
  pub second : octet_at m 0 / 8 % 2 ≡ 1
  pub idle : number 2 m 0 % 2048 ≡ 2047 → ⊥

module _ (s : Settings) (e : ℕ) (m : List ℕ) where
  lent_only : fine (encoding_test s e) ≡ true → SettingsInRange s × (e ≤ most8)
  unfolding encoding_test
  lent_only g =
      let a = unless_fine (leb e most8) 21 _ g in
      (settings_only s a.before, leb-true _ _ a.held)

  pub start_only : going (start_at s e m) ≡ true → (start_at s e m ≡ goes 2) × Opens s e m
  unfolding message_tests
  start_only g =
      let d = check_held (not (eqb (number 2 m 0 % 2048) 2047)) 3 _ g in
      let c = check_held (eqb (octet_at m 0 / 8 % 2) 1) 2 _ d.went in
      let b = check_held (ltb (octet_at m 0) 32) 1 _ c.went in
      let a = check_held (leb 2 (length m)) 0 _ b.went in
      let t = lent_only a.went in
      let z : (encoding_test s e).number ≡ 0 = eqb-true _ _ a.went in (
        d.same ∙ c.same ∙ b.same ∙ a.same ∙ ap (refused 2) z,
        record {
          settings = t.0;
          encoding = t.1;
          two = leb-true _ _ a.held;
          version = ltb-true _ _ b.held;
          second = eqb-true _ _ c.held;
          idle = eqb-false _ _ (not-true _ d.held);
        },
      )

  -- the values that reading tells, if it tells any
  abbrev pub told : Values
  told = values_of m (accepted_message s e m)

  pub told_pair : (secondary_f s message_bound m false).value (start_at s e m) ≡ pair_of told
  unfolding values_of head_of accepted_message primary_of fixed_of present_of ids_of texts_of after_sdu after_area after_service after_operation after_version
      after_session after_secondary after_qualifier after_transaction after_presence
  told_pair = refl

  pub told_step : (secondary_f s message_bound m false).step (start_at s e m) ≡ (texts_at s e m).walk
  unfolding fixed_of present_of ids_of texts_of after_sdu after_area after_service after_operation after_version after_session after_secondary after_qualifier
      after_transaction after_presence
  told_step = refl

  -- no counter
  pub told_header : secondary_octets s told ≡ header_octets s told.head
  unfolding values_of head_of accepted_message primary_of secondary_octets counter_octets header_octets
  told_header = refl

  told_form : header_octets s told.head ≡ (secondary_f s message_bound m false).form ((secondary_f s message_bound m false).value (start_at s e m))
  unfolding values_of head_of accepted_message primary_of fixed_of present_of ids_of texts_of after_sdu after_area after_service after_operation after_version
      after_session after_secondary after_qualifier after_transaction after_presence
  told_form = sym told_header ∙ pair_form s message_bound m told

  sound : Sound message_bound m (start_at s e m)
  sound g = let d = start_only g in rw d.0 (d.1.two, omega arith)

  told_took :
      Octets m → going (texts_at s e m).walk ≡ true →
      Took message_bound m (start_at s e m) (texts_at s e m).walk (header_octets s told.head) × (secondary_f s message_bound m false).Fit (pair_of told)
  unfolding values_of head_of accepted_message primary_of fixed_of present_of ids_of texts_of after_sdu after_area after_service after_operation after_version
      after_session after_secondary after_qualifier after_transaction after_presence
  told_took o g =
      let c = (secondary_f s message_bound m false).only o (start_at s e m) sound g in
      (subst (λ (l : List ℕ). Took message_bound m (start_at s e m) (texts_at s e m).walk l) (sym told_form) c.0, c.1)

  -- what an accepted message gives
  pub record Good : Type 0 where
    pub opens : Opens s e m
    pub has : Has m 2 (header_octets s told.head)
    pub limit : length (header_octets s told.head) ≤ 256
    pub ends : (ended s e m).at ≡ 2 + length (header_octets s told.head)
    pub fit : (secondary_f s message_bound m false).Fit (pair_of told)
    pub timestamp : timestamp_fits s (has_at s e m) ≡ true

  took_good :
      {w : Reading} (l : List ℕ) → start_at s e m ≡ goes 2 → Took message_bound m (start_at s e m) w l →
      Has m 2 l × ((2 + length l ≤ 258) × (w.at ≡ 2 + length l))
  took_good l q t =
      let x : (start_at s e m).at ≡ 2 = ap (λ (w : Reading). w.at) q in
      (rw x at t.has, (rw x at t.limit, took_at message_bound m l t ∙ ap (λ (i : ℕ). i + length l) x))

  pub good : Octets m → going (ended s e m) ≡ true → Good
  good o g =
      let b = check_held (timestamp_fits s (has_at s e m)) 33 _ g in
      let c = told_took o b.went in
      let d = start_only c.0.went in
      let k = took_good (header_octets s told.head) d.0 c.0 in
      record {
        opens = d.1;
        has = k.0;
        limit = omega (arith, k.1.0);
        ends = ap (λ (w : Reading). w.at) b.same ∙ k.1.1;
        fit = c.1;
        timestamp = b.held;
      }

  -- a domain that is absent has no parts
  absent : told.head.has_domain ≡ false → told.head.domain ≡ []
  unfolding values_of head_of accepted_message
  absent q =
      ap (λ (n : ℕ). map (content m) (take n (texts_at s e m).value.parts)) ((accepted_few s e m).1 q)

  told_parts : parts_of m (accepted_message s e m).texts ≡ told.head.domain
  unfolding values_of head_of
  told_parts = refl

  -- joined, the parts of a domain have no more octets than a header
  pub joined_small : Octets m → going (ended s e m) ≡ true → length (together (parts_of m (accepted_message s e m).texts)) ≤ header_most
  joined_small o g =
      let k = good o g in
      rw told_parts (omega (arith, domain_least s told.head absent, k.limit))

  -- ---- the message is the octets of what it tells

  pub told_type : told.head.packet_type ≡ octet_at m 0 / 16 % 2
  unfolding values_of head_of accepted_message primary_of
  told_type = refl

  pub told_apid : told.head.apid ≡ number 2 m 0 % 2048
  unfolding values_of head_of accepted_message primary_of
  told_apid = refl

  word : Octets m → Opens s e m → told.head.packet_type * 4096 + 2048 + told.head.apid ≡ number 2 m 0
  word o d = omega (arith, word_is m 0, told_type, told_apid, d.version, d.second, o 1)

  -- the body is what is left
  told_body :
      Good → Has m (2 + length (header_octets s told.head)) told.body
      × (2 + length (header_octets s told.head) + length told.body ≡ length m)
  unfolding values_of accepted_message
  told_body k =
      rest_has m (ended s e m).at (2 + length (header_octets s told.head)) k.ends (has_inside (header_octets s told.head) k.has)

  stands : Octets m → Good → Has m 0 (message_octets s told.head told.body)
  unfolding message_octets identification wide
  stands o k =
      rw (word o k.opens)
      (has_both (wide 2 (number 2 m 0)) _ (number_has 2 m 0 o k.opens.two)
      (has_both (header_octets s told.head) told.body k.has (told_body k).0))

  pub told_written : Octets m → Good → message_octets s told.head told.body ≡ m
  told_written o k =
      has_all_lem m (message_octets s told.head told.body) (stands o k) (message_long s told.head told.body ∙ (told_body k).1)

  pub told_octets : Octets m → Octets told.body
  unfolding values_of accepted_message
  told_octets o = octets_part m (ended s e m).at (length m - (ended s e m).at) o

  told_fit : Good → (secondary_f s message_bound m (segment told.flags)).Fit (pair_of told)
  unfolding values_of accepted_message primary_of
  told_fit k = k.fit

  pub told_range : Good → HeadInRange s told.head
  told_range k =
      fit_head s message_bound m told (told_fit k) (omega (arith, told_type)) (omega (arith, told_apid, k.opens.idle))

  pub told_has : flags_of_head told.head ≡ has_at s e m
  unfolding values_of head_of accepted_message
  told_has = refl

  pub told_timestamp : Good → told.head.has_timestamp ≡ true → s.t ≡ timestamp_size
  unfolding values_of head_of accepted_message
  told_timestamp k q = fits_only (has_at s e m).timestamp k.timestamp q
    where
      fits_only : (b : Bool) → pick b (eqb s.t timestamp_size) true ≡ true → b ≡ true → s.t ≡ timestamp_size
      fits_only true h z = eqb-true _ _ h
      fits_only false h z = let y : ◌≡◌ {A = ℕ} 0 1 = cc in absurd (omega arith)
