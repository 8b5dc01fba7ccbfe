-- The run of `Day`: each of its packets may come, and its two messages share no counter.
-- Assumes nothing.
use Prim.Native.Nat.{ℕ, ◌<◌}
use mathlib.Core.Path.{◌≡◌, refl, ap, sym, ◌∙◌}
use mathlib.Core.Logic.{◌≢◌, ◌⊎◌, inl, inr}
use mathlib.Core.List.Memᴰ
use mathlib.Core.List.{List, [], ◌∷◌, Memᴰ}
use native.Mathlib.Omega.{arith}
use lib.ListN.{length}
use Rattle.octets.specs.Octets.{Octets, wide, number as number_at}
use Rattle.walk.specs.Walk.{begun, check, octets, field_from}
use Rattle.fields.specs.Form.{split}
use Rattle.packet.specs.Format.{presence, identification, fixed_octets, front_octets, back_octets, header_octets}
use Rattle.packet.specs.FixedPart.{octet_field, wide_field, sdu_field, after_sdu, after_area, after_service, after_operation, after_version, after_session}
use Rattle.packet.specs.FixedPart.{after_secondary, after_qualifier, after_transaction, after_presence, fixed_of, flags_of, present_of}
use Rattle.packet.specs.Reading.{primary_tests, primary_of, ids_of, texts_of, body_test, refusal_of, refused_header, accepted_header, read_packet}
use Rattle.packet.specs.Key.{counter_place, key_of}
use Rattle.write.specs.Given.{head_of}
use Rattle.cells.specs.Order.{cell_size}
use Rattle.demand3.specs.Sendings.{Sending, many_of, segment_at, key_in, start_of}
use Rattle.demand3.specs.Presupposed.{MayCome, own, unsegmented, malformed, over_long, other_keyed}
use Rattle.demand3.proofs.ReadAs.{repeat_reads, repeat_octets}
use Rattle.demand3.proofs.Day.{settings, three, two, messages, of_three, of_two, header, the_key, single, stub, huge, other, single_octets}
use Rattle.demand3.proofs.Day.{stub_octets, huge_octets, other_octets, three_many, two_many, three_cut, two_cut}
use Rattle.sender.proofs.Stepping.{steps_round}

pub one_of : (m : Sending) → Memᴰ m messages → (m ≡ three) ⊎ (m ≡ two)
one_of m h = go (Memᴰ.cases_cons h)
  where
    last : (m ≡ two) ⊎ Memᴰ m [] → (m ≡ three) ⊎ (m ≡ two)
    last (inl e) = inr e
    last (inr k) = absurd (Memᴰ.not-nil k)

    go : (m ≡ three) ⊎ Memᴰ m (two ∷ []) → (m ≡ three) ⊎ (m ≡ two)
    go (inl e) = inl e
    go (inr k) = last (Memᴰ.cases_cons k)

three_comes : (i : ℕ) → i < 3 → (c : ℕ) → c < 16384 → MayCome settings cell_size messages (of_three i c)
three_comes i l c h =
    let k : i < many_of settings three = omega (arith, three_many) in
    own three (Memᴰ.head refl) i k (repeat_reads settings cell_size three three_cut i k c h)

two_comes : (i : ℕ) → i < 2 → (c : ℕ) → c < 16384 → MayCome settings cell_size messages (of_two i c)
two_comes i l c h =
    let k : i < many_of settings two = omega (arith, two_many) in
    own two (Memᴰ.tail (Memᴰ.head refl)) i k (repeat_reads settings cell_size two two_cut i k c h)

-- what the run presupposes of a packet
abbrev pub Fine : List ℕ → Type 0
Fine p = Octets p × MayCome settings cell_size messages p

pub three_fine : (i : ℕ) → i < 3 → (c : ℕ) → c < 16384 → Fine (of_three i c)
three_fine i l c h =
    (repeat_octets settings cell_size three three_cut i (omega (arith, three_many)) c h, three_comes i l c h)

pub two_fine : (i : ℕ) → i < 2 → (c : ℕ) → c < 16384 → Fine (of_two i c)
two_fine i l c h = (repeat_octets settings cell_size two two_cut i (omega (arith, two_many)) c h, two_comes i l c h)

pub single_fine : Fine single
single_fine = (single_octets, unsegmented refl)

stub_refused : (read_packet settings stub).refusal.number ≡ 1
unfolding read_packet refusal_of refused_header accepted_header primary_tests begun check octets number_at primary_of octet_field wide_field sdu_field after_sdu after_area
    after_service after_operation after_version after_session after_secondary field_from after_qualifier after_transaction after_presence fixed_of flags_of present_of ids_of texts_of body_test
stub_refused = refl

pub stub_fine : Fine stub
stub_fine = (stub_octets, malformed (λ e. omega (arith, stub_refused)))

pub huge_fine : Fine huge
huge_fine = (huge_octets, over_long (let e : length huge ≡ 1031 = refl in omega arith))

three_key : key_in settings three ≡ the_key
unfolding head_of split identification header_octets fixed_octets presence front_octets back_octets wide
three_key = refl

two_key : key_in settings two ≡ the_key
unfolding head_of split identification header_octets fixed_octets presence front_octets back_octets wide
two_key = refl

other_key : key_of other (read_packet settings other) ≡ 0x18 ∷ 6 ∷ header
unfolding key_of counter_place read_packet refusal_of refused_header accepted_header primary_tests begun check octets number_at primary_of octet_field wide_field sdu_field
    after_sdu after_area after_service after_operation after_version after_session after_secondary field_from after_qualifier after_transaction
    after_presence fixed_of flags_of present_of ids_of texts_of body_test
other_key = refl

pub other_fine : Fine other
other_fine = (other_octets, other_keyed (λ m h e. go m (one_of m h) e))
  where
    differ : 0x18 ∷ 6 ∷ header ≡ the_key → ⊥
    differ q = let z : ◌≡◌ {A = ℕ} 6 5 = cc q in omega arith

    go : (m : Sending) → (m ≡ three) ⊎ (m ≡ two) → key_of other (read_packet settings other) ≡ key_in settings m → ⊥
    go m (inl p) e = differ (sym other_key ∙ e ∙ ap (key_in settings) p ∙ three_key)
    go m (inr p) e = differ (sym other_key ∙ e ∙ ap (key_in settings) p ∙ two_key)

-- ---- and the two messages share no counter

pub no_counter_lem : (i j : ℕ) → i < many_of settings three → j < many_of settings two → (segment_at settings three i).counter ≢ (segment_at settings two j).counter
no_counter_lem i j l k e =
    omega (
      arith,
      e,
      steps_round i (start_of settings three) (omega arith),
      steps_round j (start_of settings two) (omega arith),
      three_many,
    )
