-- The tests on values one after another, each ended by its refusal: what they say is what the definition's tests come to.
-- Assumes nothing.
use Prim.Native.Nat.{ℕ, suc, ◌+◌, ◌-◌, ◌≤◌}
use mathlib.Core.Path.{◌≡◌, refl, ap, sym, ◌∙◌}
use mathlib.Core.Bool.{Bool, true, false}
use mathlib.Core.List.{List, [], ◌∷◌}
use lib.ListN.{length}
use lib.Dec.{leb}
use native.Mathlib.Omega.{arith}
use borrow.Author.Tests.{ne_eqb}
use Rattle.std.specs.Prelude.{Result, Ok, Err}
use Rattle.octets.specs.Octets.{pick}
use Rattle.octets.specs.Laying.{laid, Lays}
use Rattle.fields.specs.Inner.{capped}
use Rattle.packet.specs.Format.{segment, header_octets, header_most, packet_most}
use Rattle.walk.specs.declared.Refusal.{Refusal}
use Rattle.walk.specs.declared.Refused.{Refused}
use Rattle.walk.specs.declared.Settings.{Settings}
use Rattle.walk.specs.declared.Tested.{Tested}
use Rattle.walk.specs.Walk.{refusal, none_failed, failed, unless, goes, begun, check, timestamp_least, timestamp_most}
use Rattle.walk.specs.Profile.{fixed_profile}
use Rattle.walk.specs.Told.{told}
use Rattle.walk.proofs.Refuses.{has_number}
use Rattle.fields.specs.Fields.{parts_most}
use Rattle.fields.specs.Form.{split}
use Rattle.write.specs.declared.HeaderValues.{HeaderValues}
use Rattle.write.specs.declared.PacketValues.{PacketValues}
use Rattle.write.specs.Given.{Lent, head_of, header_checks, packet_checks, utf8_checks, unless_all, all_hold}
use Rattle.write.specs.Writing.{fine, settings_test, zone_fits, zone_test, parts_test, text_test, body_fits, value_refusal, write_answer, write_output}
use Rattle.write.specs.Inner.{packet_pieces}
use Rattle.write.specs.Answer.{written}
use Rattle.write.proofs.Tests.{unless_true}
use Rattle.write.proofs.Answers.{shut, all_shut, refused_answer, refused_output, written_answer, written_output, fits}

-- 15, as reading tests it
pub settings_same : (s : Settings) → (begun s).refused ≡ (settings_test s none_failed).number
unfolding begun check settings_test unless
settings_same s = go (leb s.profile fixed_profile) (leb s.t timestamp_most) (leb timestamp_least s.t)
  where
    go : (a b c : Bool) → (check a 15 (check b 15 (check c 15 (goes 6)))).refused ≡ (unless a 15 (unless b 15 (unless c 15 none_failed))).number
    go true true true = refl
    go true true false = refl
    go true false true = refl
    go true false false = refl
    go false true true = refl
    go false true false = refl
    go false false true = refl
    go false false false = refl

-- after a test that does not hold there is a refusal
fails : (k : ℕ) (r : Tested) → fine (unless false (suc k) r) ≡ false
unfolding unless
fails k r = go (fine r) refl
  where
    go : (b : Bool) → fine r ≡ b → fine (pick b (failed (suc k)) r) ≡ false
    go true e = ne_eqb (suc k) 0 (λ z. absurd (omega arith))
    go false e = e

-- a list of tests is one test
pub any_as_one : (bs : List Bool) (k : ℕ) (r : Tested) → unless_all bs (suc k) r ≡ unless (all_hold bs) (suc k) r
unfolding unless_all
any_as_one [] k r = sym (unless_true true (suc k) r refl)
any_as_one (true ∷ bs) k r = ap (unless_all bs (suc k)) (unless_true true (suc k) r refl) ∙ any_as_one bs k r
any_as_one (false ∷ bs) k r = all_shut bs (suc k) (unless false (suc k) r) (fails k r)

module _ (old : Bool) (s : Settings) (v : HeaderValues) (o : PacketValues) (t : Lent) where
  abbrev pub begins : Tested
  begins = settings_test s none_failed

  -- what fails first stays
  pub values_shut : (e : Refused) → told e ≡ refusal begins.number → told e ≡ refusal (value_refusal old s v o t).number
  unfolding value_refusal zone_test parts_test text_test
  values_shut e h =
      let f : fine begins ≡ false = ne_eqb begins.number 0 (λ z. has_number e (ap (λ (r : _). r.number) h ∙ z)) in
      let a = all_shut (header_checks s v t) 22 begins f in
      let b = ap (unless_all (packet_checks o) 22) a ∙ all_shut (packet_checks o) 22 begins f in
      let c = ap (unless (zone_fits old v.has) 30) b ∙ shut (zone_fits old v.has) 30 begins f in
      let d = ap (unless (leb (length t.lengths) parts_most) 13) c ∙ shut (leb (length t.lengths) parts_most) 13 begins f in
      let u = utf8_checks t.zone t.session_name (split t.lengths t.domain) in
      h ∙ ap (λ (x : Tested). refusal x.number) (sym (ap (unless_all u 28) d ∙ all_shut u 28 begins f))

  -- else the rest is five tests
  pub values_five : begins.number ≡ 0 →
      value_refusal old s v o t
      ≡ unless (all_hold (utf8_checks t.zone t.session_name (split t.lengths t.domain))) 28
      (unless (leb (length t.lengths) parts_most) 13
      (unless (zone_fits old v.has) 30
      (unless (all_hold (packet_checks o)) 22 (unless (all_hold (header_checks s v t)) 22 none_failed))))
  unfolding value_refusal zone_test parts_test text_test
  values_five g =
      let z : begins ≡ none_failed = (λ i. record { number = g i }) in
      let a = ap (unless_all (header_checks s v t) 22) z ∙ any_as_one (header_checks s v t) 21 none_failed in
      let b = ap (unless_all (packet_checks o) 22) a ∙ any_as_one (packet_checks o) 21 _ in
      let c = ap (λ (x : Tested). unless (leb (length t.lengths) parts_most) 13 (unless (zone_fits old v.has) 30 x)) b in
      let u = utf8_checks t.zone t.session_name (split t.lengths t.domain) in
      ap (unless_all u 28) c ∙ any_as_one u 27 _

-- ---- writing, from its tests' answers

module _ (s : Settings) (v : HeaderValues) (o : PacketValues) (t : Lent) (body : List ℕ) {h second size : ℕ}
    (eh : h ≡ capped (length (header_octets s (head_of v t))))
    (es : second ≡ capped (h + pick (segment o.flags) 4 0))
    (ez : size ≡ capped (6 + second + length body))
    (old : Bool) (out : List ℕ) where
  -- the tests on sizes, as the code makes them
  abbrev sized : Tested → Tested
  sized r =
      unless (leb size (length out)) 21
      (unless (body_fits o.flags (length body)) 14 (unless (leb second header_most) 12 (unless (leb size packet_most) 23 r)))

  -- what a call answers and leaves in the output
  abbrev Does : Result ℕ Refused → List ℕ → Type 0
  Does q l = (written q ≡ write_answer old s v o t body (length out)) × (l ≡ write_output old s v o t body out)

  sized_shut : (r : Tested) → fine r ≡ false → sized r ≡ r
  sized_shut r f =
      let a = shut (leb size packet_most) 23 r f in
      let b = ap (unless (leb second header_most) 12) a ∙ shut (leb second header_most) 12 r f in
      let c = ap (unless (body_fits o.flags (length body)) 14) b ∙ shut (body_fits o.flags (length body)) 14 r f in
      ap (unless (leb size (length out)) 21) c ∙ shut (leb size (length out)) 21 r f

  not_none : (e : Refused) (r : Tested) → told e ≡ refusal r.number → r.number ≡ 0 → ⊥
  not_none e r k z = has_number e (ap (λ (x : Refusal). x.number) k ∙ z)

  pub values_refused : (e : Refused) → told e ≡ refusal (value_refusal old s v o t).number → Does (Err e) out
  values_refused e k =
      let r = value_refusal old s v o t in
      let q = sized_shut r (ne_eqb r.number 0 (not_none e r k)) in
      let m = k ∙ ap (λ (x : Tested). refusal x.number) (sym q) in
      let n = not_none e (sized r) m in (
        ap (λ (x : Refusal). record { refusal = x; length = 0 }) m ∙ refused_answer s v o t body eh es ez old (length out) refl refl n,
        refused_output s v o t body eh es ez old out refl refl n,
      )

  module _ (z : (value_refusal old s v o t).number ≡ 0) where
    none : none_failed ≡ value_refusal old s v o t
    none = λ i. record { number = sym z i }

    pub sizes_refused : (e : Refused) → told e ≡ refusal (sized none_failed).number → Does (Err e) out
    sizes_refused e m =
        let n = not_none e (sized none_failed) m in (
          ap (λ (x : Refusal). record { refusal = x; length = 0 }) m ∙ refused_answer s v o t body eh es ez old (length out) none refl n,
          refused_output s v o t body eh es ez old out none refl n,
        )

    module _ (g : (sized none_failed).number ≡ 0) where
      pub size_least : 27 ≤ size
      size_least = (fits s v o t body eh es ez old (length out) none refl g).least

      pub packet_written : {l : List ℕ} {e : ℕ} → Lays (laid out 0) (packet_pieces s v o t (size - 7) body) l e → Does (Ok size) l
      packet_written a = (
        written_answer s v o t body eh es ez old (length out) none refl g,
        written_output s v o t body eh es ez old out none refl g a,
      )
