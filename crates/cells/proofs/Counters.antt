-- The counter of an accepted segment stands where its presence octet says, so it can be read without reading the header.
-- Assumes nothing.
use Prim.Native.Nat.{ℕ, ◌+◌, ◌-◌, ◌*◌, ◌/◌, ◌%◌, ◌≤◌, ◌<◌}
use mathlib.Core.Path.{◌≡◌, refl, ap, ◌∙◌, subst}
use mathlib.Core.Bool.{Bool, true}
use mathlib.Core.List.{List, [], ◌∷◌}
use native.Mathlib.Omega.{arith}
use native.Mathlib.Nat.{add-zero}
use lib.ListN.{length}
use Rattle.octets.specs.Octets.{pick, Octets, octet_at, number, wide}
use Rattle.octets.proofs.Has.{Has, has_self, has_first, has_second, has_at_lem, has_part}
use Rattle.octets.proofs.Numbers.{wide_length, number_back}
use Rattle.octets.proofs.Lists.{bit_top}
use Rattle.walk.specs.declared.Settings.{Settings}
use Rattle.packet.specs.Answer.{Header}
use Rattle.packet.specs.Format.{Values, Opt, presence, identification, fixed_octets, secondary_octets, data_octets, octets_of}
use Rattle.packet.specs.Reading.{read_packet, segmented, counter_size}
use Rattle.packet.specs.Key.{counter_place}
use Rattle.format.specs.Told.{values_of, head_of}
use Rattle.format.proofs.TwoWay.{only_writing}
use Rattle.format.proofs.Accepting.{accepted}

-- ---- the presence octet is number 26

places : {a b c d e f g h i j k : ℕ} → a ≡ 2 → b ≡ 2 → c ≡ 2 → d ≡ 1 → e ≡ 2 → f ≡ 2 → g ≡ 2 → h ≡ 1 → i ≡ 2 → j ≡ 2 → k ≡ 8 →
    0 + a + b + c + d + e + f + g + h + i + j + k ≡ 26
places p q r s t u v w x y z = omega arith

presence_has : (s : Settings) (v : Values) → Has (octets_of s v) 26 (wide 1 (presence v.head))
unfolding octets_of data_octets secondary_octets fixed_octets identification
presence_has s v =
    let a = has_second (wide 2 _) _ (has_self (octets_of s v)) in
    let b = has_second (wide 2 (v.flags * 16384 + v.sequence_count)) _ a in
    let c = has_second (wide 2 (length (data_octets s v) - 1)) (data_octets s v) b in
    let d = has_first (fixed_octets v.head) _ (has_first (secondary_octets s v) v.body c) in
    let e = has_second (wide 1 v.head.sdu) _ d in
    let f = has_second (wide 2 v.head.area) _ e in
    let g = has_second (wide 2 v.head.service) _ f in
    let h = has_second (wide 2 v.head.operation) _ g in
    let i = has_second (wide 1 v.head.version) _ h in
    let j = has_second (wide 2 (v.head.error * 32768 + v.head.qos * 8192 + v.head.session * 2048 + v.head.secondary_apid)) _ i in
    let k = has_second (wide 2 v.head.qualifier) _ j in
    let l = has_second (wide 8 v.head.transaction) (wide 1 (presence v.head)) k in
    subst (λ (n : ℕ). Has (octets_of s v) n (wide 1 (presence v.head)))
    (places (wide_length 2 _) (wide_length 2 _) (wide_length 2 _) (wide_length 1 _) (wide_length 2 _) (wide_length 2 _) (wide_length 2 _)
    (wide_length 1 _) (wide_length 2 _) (wide_length 2 _) (wide_length 8 _))
    l

presence_octet : {p : List ℕ} (x : ℕ) → Has p 26 (wide 1 x) → octet_at p 26 ≡ x % 256
unfolding wide
presence_octet x h = rw add-zero at (has_at_lem (x % 256 ∷ []) 0 h (omega arith))

opt_true : {b : Bool} {x : ℕ} → b ≡ true → Opt b (λ y. y < 4294967296) 0 x → x < 4294967296
opt_true {b} {x} e k = subst (λ (c : Bool). Opt c (λ y. y < 4294967296) 0 x) e k

source_bit : (a b c d e f g h : ℕ) → a ≤ 1 → b ≤ 1 → c ≤ 1 → d ≤ 1 → e ≤ 1 → f ≤ 1 → g ≤ 1 → h ≤ 1 →
    (128 * a + 64 * b + 32 * c + 16 * d + 8 * e + 4 * f + 2 * g + h) % 256 / 128 % 2 ≡ a
source_bit a b c d e f g h i j k l m n o p = omega arith

destination_bit : (a b c d e f g h : ℕ) → a ≤ 1 → b ≤ 1 → c ≤ 1 → d ≤ 1 → e ≤ 1 → f ≤ 1 → g ≤ 1 → h ≤ 1 →
    (128 * a + 64 * b + 32 * c + 16 * d + 8 * e + 4 * f + 2 * g + h) % 256 / 64 % 2 ≡ b
destination_bit a b c d e f g h i j k l m n o p = omega arith

module _ (s : Settings) (p : List ℕ) (o : Octets p) (z : (read_packet s p).refusal.number ≡ 0) where
  abbrev h : Header
  h = read_packet s p

  octet_is : octet_at p 26 ≡ presence (values_of p h).head % 256
  octet_is = presence_octet (presence (values_of p h).head) (rw (only_writing s p o z).1 at (presence_has s (values_of p h)))

  pub place_told : counter_place h ≡ 27 + (octet_at p 26 / 128 % 2 + octet_at p 26 / 64 % 2)
  unfolding counter_place presence values_of head_of
  place_told =
      let hd = head_of p h in
      let a = source_bit _ _ _ _ _ _ _ _ (bit_top hd.has_source) (bit_top hd.has_destination) (bit_top hd.has_priority)
      (bit_top hd.has_timestamp) (bit_top hd.has_zone) (bit_top hd.has_session_name) (bit_top hd.has_domain) (bit_top hd.has_authentication) in
      let b = destination_bit _ _ _ _ _ _ _ _ (bit_top hd.has_source) (bit_top hd.has_destination) (bit_top hd.has_priority)
      (bit_top hd.has_timestamp) (bit_top hd.has_zone) (bit_top hd.has_session_name) (bit_top hd.has_domain) (bit_top hd.has_authentication) in
      rw octet_is (rw (a, b) refl)

  pub counter_told : segmented p ≡ true → number 4 p (27 + (octet_at p 26 / 128 % 2 + octet_at p 26 / 64 % 2)) ≡ h.ids.counter.0
  unfolding values_of
  counter_told q =
      let a = accepted s p o z in
      let four : counter_size p ≡ 4 = ap (λ (b : Bool). pick b 4 0) q in
      let inside : counter_place h + 4 ≤ length p = omega (arith, a.counter_end, a.body_end) in
      let has : Has p (counter_place h) (wide 4 h.ids.counter.0) = rw (a.counter q) at (has_part p (counter_place h) 4 inside) in
      let small : h.ids.counter.0 < 4294967296 = opt_true (a.segments ∙ q) (only_writing s p o z).0.counter in
      rw (← place_told) (number_back 4 p (counter_place h) h.ids.counter.0 small has)
