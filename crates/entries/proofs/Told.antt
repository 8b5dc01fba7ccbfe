-- Whose a packet is, told by its octets, is what reading answers, of every packet that reading accepts.
-- Assumes nothing.
use Prim.Native.Nat.{ℕ, ◌+◌, ◌-◌, ◌*◌, ◌%◌}
use mathlib.Core.Path.{◌≡◌, refl, ap, sym, ◌∙◌, subst}
use mathlib.Core.Logic.{⊎_elim}
use mathlib.Core.Bool.{Bool, true, false, not}
use mathlib.Core.List.{List}
use native.Mathlib.Omega.{arith}
use lib.ListN.{length}
use lib.Dec.{eqb}
use Rattle.octets.specs.Octets.{pick, Octets, number, wide}
use Rattle.octets.proofs.Has.{Has, has_self, has_first, has_second}
use Rattle.octets.proofs.Numbers.{wide_length, number_back}
use Rattle.octets.proofs.Lists.{bool}
use Rattle.walk.specs.declared.Settings.{Settings}
use Rattle.walk.specs.Walk.{Reading, header_bound}
use Rattle.fields.specs.Fields.{opt}
use Rattle.packet.specs.Answer.{Header}
use Rattle.packet.specs.Format.{Values, presence, identification, fixed_octets, secondary_octets, data_octets, octets_of, flags_whole, counter_width}
use Rattle.packet.specs.FixedPart.{wide_field}
use Rattle.packet.specs.Reading.{read_packet, segmented, accepted_header, primary_of, ids_of}
use Rattle.format.specs.Told.{values_of, head_of}
use Rattle.format.proofs.Start.{answer}
use Rattle.format.proofs.TwoWay.{only_writing}
use Rattle.cells.specs.Inner.{counter_in, place_in}
use Rattle.cells.proofs.Counters.{counter_told}
use Rattle.entries.specs.Lines.{identity_of, identity_in, flags_in}

-- ---- the transaction id is octets 18 to 25

places : {a b c d e f g h i j : ℕ} → a ≡ 2 → b ≡ 2 → c ≡ 2 → d ≡ 1 → e ≡ 2 → f ≡ 2 → g ≡ 2 → h ≡ 1 → i ≡ 2 → j ≡ 2 →
    0 + a + b + c + d + e + f + g + h + i + j ≡ 18
places p q r s t u v w x y = omega arith

transaction_has : (s : Settings) (v : Values) → Has (octets_of s v) 18 (wide 8 v.head.transaction)
unfolding octets_of data_octets secondary_octets fixed_octets identification
transaction_has s v =
    let a = has_second (wide 2 _) _ (has_self (octets_of s v)) in
    let b = has_second (wide 2 (v.flags * 16384 + v.sequence_count)) _ a in
    let c = has_second (wide 2 (length (data_octets s v) - 1)) (data_octets s v) b in
    let d = has_first (fixed_octets v.head) _ (has_first (secondary_octets s v) v.body c) in
    let e = has_second (wide 1 v.head.sdu) _ d in
    let f = has_second (wide 2 v.head.area) _ e in
    let g = has_second (wide 2 v.head.service) _ f in
    let h = has_second (wide 2 v.head.operation) _ g in
    let i = has_second (wide 1 v.head.version) _ h in
    let j = has_second (wide 2 (v.head.error * 32768 + v.head.qos * 8192 + v.head.session * 2048 + v.head.secondary_apid)) _ i in
    let k = has_second (wide 2 v.head.qualifier) _ j in
    subst (λ (n : ℕ). Has (octets_of s v) n (wide 8 v.head.transaction))
    (places (wide_length 2 _) (wide_length 2 _) (wide_length 2 _) (wide_length 1 _) (wide_length 2 _) (wide_length 2 _) (wide_length 2 _)
    (wide_length 1 _) (wide_length 2 _) (wide_length 2 _))
    (has_first (wide 8 v.head.transaction) (wide 1 (presence v.head)) k)

no_counter_lem : (p : List ℕ) (b : Bool) (w : Reading) → b ≡ false → (opt b 0 (wide_field counter_width header_bound p) w).value ≡ 0
no_counter_lem p true w e = let z : ◌≡◌ {A = ℕ} 0 1 = cc in absurd (omega arith)
no_counter_lem p false w e = refl

module _ (s : Settings) (p : List ℕ) (o : Octets p) (z : (read_packet s p).refusal.number ≡ 0) where
  abbrev h : Header
  h = read_packet s p

  transaction_told : number 8 p 18 ≡ h.fixed.transaction
  unfolding values_of head_of
  transaction_told =
      let w = only_writing s p o z in
      number_back 8 p 18 h.fixed.transaction w.0.head.transaction (rw w.1 at (transaction_has s (values_of p h)))

  apid_told : number 2 p 0 % 2048 ≡ h.primary.apid.0
  unfolding accepted_header primary_of
  apid_told = ap (λ (a : Header). a.primary.apid.0) (sym (answer s p z))

  flags_told : flags_in p ≡ h.primary.flags
  unfolding accepted_header primary_of
  flags_told = ap (λ (a : Header). a.primary.flags) (sym (answer s p z))

  -- a packet that has no counter answers 0
  none_told : segmented p ≡ false → h.ids.counter.0 ≡ 0
  unfolding accepted_header ids_of
  none_told e =
      ap (λ (a : Header). a.ids.counter.0) (answer s p z)
      ∙ no_counter_lem p (segmented p) _ e

  counter_is : pick (eqb (flags_in p) flags_whole) 0 (counter_in p) ≡ h.ids.counter.0
  unfolding counter_in place_in
  counter_is =
      ⊎_elim
      (λ (e : eqb (flags_in p) flags_whole ≡ true). ap (λ (b : Bool). pick b 0 (counter_in p)) e ∙ sym (none_told (ap not e)))
      (λ (e : eqb (flags_in p) flags_whole ≡ false). ap (λ (b : Bool). pick b 0 (counter_in p)) e ∙ counter_told s p o z (ap not e))
      (bool (eqb (flags_in p) flags_whole))

  pub whose_told : identity_in p ≡ identity_of h
  unfolding identity_in
  whose_told = λ i. record { apid = apid_told i; transaction = transaction_told i; flags = flags_told i; counter = counter_is i }
