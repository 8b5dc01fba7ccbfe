-- A message that reading accepts is refused on the way to the office by 23 and 21 alone: of the tests of the PDU's writer those on values, 22, 13
-- and 28, pass. For its header has at most 256 octets, so that its fields fit a PDU's.
-- Assumes nothing.
use Prim.Native.Nat.{ℕ, ◌+◌, ◌*◌, ◌≤◌, ◌<◌}
use mathlib.Core.Path.{◌≡◌, ap, sym, ◌∙◌, subst}
use mathlib.Core.Logic.{⊎_elim}
use mathlib.Core.Bool.{Bool, true, false}
use mathlib.Core.List.{List, [], ◌∷◌}
use native.Mathlib.Omega.{arith}
use lib.ListN.{length, length-append}
use lib.Dec.{leb}
use borrow.Author.Tests.{le-leb}
use Rattle.octets.specs.Octets.{Octets, most32}
use Rattle.octets.specs.Laying.{together}
use Rattle.octets.proofs.Has.{octets_nil}
use Rattle.octets.proofs.Lists.{below_or}
use Rattle.varint.proofs.Forms.{size_most_lem}
use Rattle.walk.specs.declared.Settings.{Settings}
use Rattle.walk.specs.Walk.{none_failed}
use Rattle.fields.specs.Fields.{parts_most}
use Rattle.fields.specs.Form.{uinteger_octets, blob_octets, text_octets, part_octets, joined, domain_octets}
use Rattle.fields.proofs.Sized.{text_long, blob_long}
use Rattle.packet.specs.Answer.{Header}
use Rattle.packet.specs.Format.{Head, Opt, when, HeadInRange, header_octets, back_octets}
use Rattle.format.specs.Told.{content, head_of, values_of}
use Rattle.write.proofs.Tests.{unless_true, unless_all_true}
use Rattle.two_way.proofs.Fits.{opt_parts}
use Rattle.pdu.specs.Format.{Pdu, pdu_settings, variable_octets, rest_octets, InRange}
use Rattle.pdu.specs.Given.{pdu_of}
use Rattle.pdu.specs.Writing.{value_refusal, size_tests, write_refusal, write_answer}
use Rattle.pdu.proofs.Fits.{range_checks, range_words}
use Rattle.carry.specs.Digits.{digits, id_text}
use Rattle.carry.specs.Message.{accepted_message, read_message, lent_of}
use Rattle.carry.specs.There.{office_values, source_text, destination_text, office_answer, to_pdu_answer}
use Rattle.carry.specs.Crossing.{pdu_for}
use Rattle.carry.proofs.DigitLaws.{digits_one, digits_two, digits_three}
use Rattle.carry.proofs.Joined.{when_least, parts_least}
use Rattle.carry.proofs.Whole.{accepts}
use Rattle.carry.proofs.Only.{told, good, told_range, told_timestamp}
use Rattle.carry.proofs.Sent.{answered}
use Rattle.carry.proofs.Formats.{range_there}
use Rattle.carry.proofs.There.{given_pdu, sum_lent, there_answer}

-- ---- sizes in a PDU

number_top : (n : ℕ) → n < 4294967296 → length (uinteger_octets pdu_settings n) ≤ 5
unfolding uinteger_octets
number_top n h = size_most_lem 4 n (omega arith)

text_top : (x : List ℕ) → length x < 4294967296 → length (text_octets pdu_settings x) ≤ 5 + length x
text_top x h = let a = text_long pdu_settings x in let b = number_top (length x) h in omega arith

blob_top : (x : List ℕ) → length x < 4294967296 → length (blob_octets pdu_settings x) ≤ 5 + length x
blob_top x h = let a = blob_long pdu_settings x in let b = number_top (length x) h in omega arith

part_top : (x : List ℕ) → length x < 4294967296 → length (part_octets pdu_settings x) ≤ 6 + length x
unfolding part_octets
part_top x h = let a = text_top x h in simp length-append (omega arith)

parts_top : (xs : List (List ℕ)) → length (together xs) < 4294967296 → length (joined (part_octets pdu_settings) xs) ≤ 6 * length xs + length (together xs)
unfolding together joined
parts_top [] h = omega arith
parts_top (x ∷ xs) h =
    let e = length-append x (together xs) in
    let a = part_top x (omega arith) in
    let b = parts_top xs (omega arith) in
    simp length-append (omega arith)

domain_top : (xs : List (List ℕ)) → length (together xs) < 4294967296 → length xs ≤ 16 → length (domain_octets pdu_settings xs) ≤ 101 + length (together xs)
unfolding domain_octets
domain_top xs h n =
    let a = parts_top xs h in
    let b = number_top (length xs) (omega arith) in
    simp length-append (omega arith)

when_top : (b : Bool) (l : List ℕ) → length (when b l) ≤ length l
when_top true l = omega arith
when_top false l = omega arith

digits_top : (n : ℕ) → length (digits n) ≤ 3
digits_top n =
    ⊎_elim
    (λ (a : n < 10). rw (digits_one n a) (omega arith))
    (λ (a : 10 ≤ n). ⊎_elim (λ (b : n < 100). rw (digits_two n a b) (omega arith)) (λ (b : 100 ≤ n). rw (digits_three n b) (omega arith)) (below_or n 100))
    (below_or n 10)

id_top : (b : Bool) (n : ℕ) → length (id_text b n) ≤ 3
unfolding id_text
id_top true n = digits_top n
id_top false n = omega arith

-- ---- what a header of 256 octets says

absent : (P : List ℕ → Type 0) (b : Bool) (x : List ℕ) → Opt b P [] x → b ≡ false → length x ≡ 0
absent P true x r e = let z : ◌≡◌ {A = ℕ} 0 1 = cc in absurd (omega arith)
absent P false x r e = ap length r

none : (P : List (List ℕ) → Type 0) (b : Bool) (x : List (List ℕ)) → Opt b P [] x → b ≡ false → length (together x) ≡ 0
unfolding together
none P true x r e = let z : ◌≡◌ {A = ℕ} 0 1 = cc in absurd (omega arith)
none P false x r e = ap (λ (y : List (List ℕ)). length (together y)) r

few : (P : List (List ℕ) → Type 0) (b : Bool) (x : List (List ℕ)) → Opt b (λ y. (length y ≤ parts_most) × P y) [] x → length x ≤ 16
few P true x r = r.0
few P false x r = let e : length x ≡ 0 = ap length r in omega arith

long : (n : ℕ) (b : Bool) (x : List ℕ) → Opt b (λ y. (length y ≡ n) × Octets y) [] x → length x ≤ n
long n true x r = let e = r.0 in omega arith
long n false x r = let e : length x ≡ 0 = ap length r in omega arith

module _ (s : Settings) (h : Head) (r : HeadInRange s h) where
  domain_part : length (together h.domain) ≤ length (domain_octets s h.domain)
  unfolding domain_octets
  domain_part = let a = parts_least s h.domain in simp length-append (omega arith)

  pub texts_small :
      length h.zone + length h.session_name + length (together h.domain) + length h.authentication ≤ length (header_octets s h)
  unfolding header_octets back_octets
  texts_small =
      let z = text_long s h.zone in
      let n = text_long s h.session_name in
      let i = blob_long s h.authentication in
      let a = when_least h.has_zone h.zone (text_octets s h.zone) (omega arith) (absent _ h.has_zone h.zone r.zone) in
      let b =
      when_least h.has_session_name h.session_name (text_octets s h.session_name) (omega arith)
      (absent _ h.has_session_name h.session_name r.session_name) in
      let c =
      when_least h.has_domain (together h.domain) (domain_octets s h.domain) domain_part (none _ h.has_domain h.domain r.domain) in
      let d =
      when_least h.has_authentication h.authentication (blob_octets s h.authentication) (omega arith)
      (absent _ h.has_authentication h.authentication r.authentication) in
      simp length-append (omega arith)

  -- so its PDU has few octets before the body
  pub variable_few : (e : ℕ) → length (header_octets s h) ≤ 256 → s.t ≤ 16 → length (rest_octets (pdu_for e h [])) ≤ most32
  unfolding rest_octets variable_octets pdu_for
  variable_few e n t =
      let k = texts_small in
      let i = id_top h.has_source h.source in
      let j = id_top h.has_destination h.destination in
      let w = long s.t h.has_timestamp h.timestamp r.timestamp in
      let m = few _ h.has_domain h.domain r.domain in
      let a = text_top (id_text h.has_source h.source) (omega arith) in
      let b = text_top (id_text h.has_destination h.destination) (omega arith) in
      let c = priority in
      let d = text_top h.zone (omega arith) in
      let f = text_top h.session_name (omega arith) in
      let g = domain_top h.domain (omega arith) m in
      let l = blob_top h.authentication (omega arith) in
      let a1 = when_top h.has_source (text_octets pdu_settings (id_text h.has_source h.source)) in
      let b1 = when_top h.has_destination (text_octets pdu_settings (id_text h.has_destination h.destination)) in
      let w1 = when_top h.has_timestamp h.timestamp in
      let d1 = when_top h.has_zone (text_octets pdu_settings h.zone) in
      let f1 = when_top h.has_session_name (text_octets pdu_settings h.session_name) in
      let g1 = when_top h.has_domain (domain_octets pdu_settings h.domain) in
      let l1 = when_top h.has_authentication (blob_octets pdu_settings h.authentication) in
      simp length-append (omega arith)
    where
      here : (b : Bool) (n : ℕ) → Opt b (λ x. x < 4294967296) 0 n → length (when b (uinteger_octets pdu_settings n)) ≤ 5
      here true n q = number_top n q
      here false n q = omega arith

      priority : length (when h.has_priority (uinteger_octets pdu_settings h.priority)) ≤ 5
      priority = here h.has_priority h.priority r.priority

-- ---- the writer's tests on values

module _ (s : Settings) (e : ℕ) (m : List ℕ) (o : Octets m) (z : (read_message s e m).refusal.number ≡ 0) where
  abbrev h : Header
  h = accepted_message s e m

  range_none : InRange (pdu_for e (head_of m h) [])
  unfolding values_of
  range_none =
      let k = good s e m o (answered s e m z) in
      let r = told_range s e m k in
      range_there s e (told s e m).head [] r k.opens.encoding (told_timestamp s e m k) octets_nil
      (variable_few s (told s e m).head r e k.limit k.opens.settings.t_top)

  given_none : InRange (pdu_of (office_values h e) (source_text h) (destination_text h) (lent_of m h.texts) [])
  given_none = subst InRange (sym (given_pdu e m h [])) range_none

  parts_few : length (lent_of m h.texts).lengths ≤ parts_most
  unfolding pdu_of office_values
  parts_few =
      opt_parts (lent_of m h.texts).lengths (lent_of m h.texts).domain (sum_lent m h) (office_values h e).has.domain given_none.domain

  pub values_pass : value_refusal (office_values h e) (source_text h) (destination_text h) (lent_of m h.texts) ≡ none_failed
  unfolding value_refusal
  values_pass =
      unless_all_true _ 28 _ (range_words (office_values h e) (source_text h) (destination_text h) (lent_of m h.texts) [] given_none (sum_lent m h))
      ∙ unless_true (leb (length (lent_of m h.texts).lengths) parts_most) 13 _ (le-leb _ _ parts_few)
      ∙ unless_all_true _ 22 none_failed
      (range_checks (office_values h e) (source_text h) (destination_text h) (lent_of m h.texts) [] given_none (sum_lent m h))

  -- so what is left of the refusals is 23 and 21
  pub only_sizes :
      (room : ℕ) →
      (to_pdu_answer s e m room).refusal.number ≡ (size_tests (pdu_for e (head_of m h) (content m h.body)) room none_failed).number
  unfolding office_answer write_answer write_refusal
  only_sizes room =
      let q = accepts s e m (answered s e m z) in
      ap (λ (w : _). w.refusal.number) (there_answer s e m room h (sym q) accepted)
      ∙ ap (λ (t : _). (size_tests (pdu_of (office_values h e) (source_text h) (destination_text h) (lent_of m h.texts) (content m h.body)) room t).number)
      values_pass
      ∙ ap (λ (v : Pdu). (size_tests v room none_failed).number) (given_pdu e m h (content m h.body))
    where
      accepted : (accepted_message s e m).refusal.number ≡ 0
      accepted = ap (λ (g : Header). g.refusal.number) (sym (accepts s e m (answered s e m z))) ∙ z
