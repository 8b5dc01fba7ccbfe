-- From the sizes, tests and pieces of the code to the answer and the output of writing a message, on plain values.
-- Assumes nothing.
use Prim.Native.Nat.{ℕ, ◌+◌, ◌-◌, ◌*◌, ◌≤◌}
use mathlib.Core.Path.{◌≡◌, refl, ap, sym, ◌∙◌}
use mathlib.Core.Logic.{⊎_elim}
use mathlib.Core.Bool.{true, false}
use mathlib.Core.List.{List, [], ◌∷◌, ◌++◌}
use native.Mathlib.Omega.{arith}
use native.Mathlib.Nat.{zero-add}
use lib.ListN.{length, drop, length-append}
use lib.Seq.{sets, sets-eq}
use lib.Dec.{leb}
use borrow.Author.Tests.{leb-true, le-leb, lt-leb, eq-eqb, ne_eqb}
use Rattle.octets.specs.Octets.{wide}
use Rattle.octets.specs.Laying.{laid, together, Lays}
use Rattle.octets.proofs.Lists.{below_or}
use Rattle.octets.proofs.Numbers.{wide_length}
use Rattle.octets.proofs.Laying.{lays_all}
use Rattle.walk.specs.declared.Settings.{Settings}
use Rattle.walk.specs.declared.Tested.{Tested}
use Rattle.walk.specs.Walk.{refusal, none_failed, unless}
use Rattle.fields.specs.Inner.{capped}
use Rattle.packet.specs.Format.{Head, identification, counter_octets, header_octets, secondary_octets, data_octets, octets_of, header_most}
use Rattle.write.specs.declared.HeaderValues.{HeaderValues}
use Rattle.write.specs.Given.{Lent, head_of, packet_of}
use Rattle.write.specs.Writing.{given_packet, fine}
use Rattle.write.specs.Inner.{primary_pieces, name_pieces, routing_pieces, front_pieces, middle_pieces, end_pieces, packet_pieces}
use Rattle.write.proofs.Tests.{unless_fine}
use Rattle.write.proofs.Answers.{below_cap, unless_same}
use Rattle.write.proofs.Pieces.{packet_together}
use Rattle.carry.specs.Message.{message_octets}
use Rattle.carry.specs.Back.{size_test, not_carried, made_answer, made_output}
use Rattle.carry.specs.Inner.{whole, message_pieces}

pub message_long : (s : Settings) (h : Head) (body : List ℕ) → length (message_octets s h body) ≡ 2 + length (header_octets s h) + length body
unfolding message_octets identification
message_long s h body = simp (length-append, wide_length) (omega arith)

-- whether so many octets and so many more fit
pub fits_same : (head rest room : ℕ) → head ≤ room → leb rest (room - head) ≡ leb (head + rest) room
fits_same head rest room h =
    ⊎_elim
    (λ k. lt-leb rest (room - head) (omega arith) ∙ sym (lt-leb (head + rest) room k))
    (λ k. le-leb rest (room - head) (omega arith) ∙ sym (le-leb (head + rest) room k))
    (below_or room (head + rest))

module _ (s : Settings) (v : HeaderValues) (t : Lent) (body : List ℕ) where
  -- a packet's pieces without the six octets of its primary header
  rest_together :
      together
      (name_pieces v
      ++ (routing_pieces v
      ++ (front_pieces v whole
      ++ (middle_pieces s v.has v.priority t
      ++ (end_pieces s v.has t ++ (body ∷ []))))))
      ≡ data_octets s (given_packet v whole t body)
  unfolding packet_pieces primary_pieces wide octets_of identification together
  rest_together = ap (drop 6) (packet_together s v whole t body)

  no_counter_lem : data_octets s (given_packet v whole t body) ≡ header_octets s (head_of v t) ++ body
  unfolding data_octets secondary_octets counter_octets header_octets packet_of
  no_counter_lem = refl

  pub message_together : together (message_pieces s v t body) ≡ message_octets s (head_of v t) body
  unfolding message_pieces message_octets together identification head_of
  message_together =
      ap (λ (x : List ℕ). wide 2 (v.packet_type * 4096 + 2048 + v.apid.0) ++ x) (rest_together ∙ no_counter_lem)

module _ (s : Settings) (v : HeaderValues) (t : Lent) (body : List ℕ) {h : ℕ} (eh : h ≡ capped (length (header_octets s (head_of v t)))) where
  abbrev head : Head
  head = head_of v t

  module _ (room : ℕ) {q : Tested} (eq : q ≡ unless (leb (2 + h + length body) room) 21 (unless (leb h header_most) 12 none_failed)) where
    head_test : leb h header_most ≡ leb (length (header_octets s head)) header_most
    head_test = ap (λ (n : ℕ). leb n header_most) eh ∙ below_cap (length (header_octets s head)) header_most (omega arith)

    abbrev inner : Tested
    inner = unless (leb (length (header_octets s head)) header_most) 12 none_failed

    -- where nothing refused before 21, H is told exactly
    exact : fine inner ≡ true → h ≡ length (header_octets s head)
    exact g =
        let a = unless_fine (leb (length (header_octets s head)) header_most) 11 _ g in
        let l = leb-true (length (header_octets s head)) header_most a.held in
        omega (arith, eh)

    room_test : fine inner ≡ true → leb (2 + h + length body) room ≡ leb (length (message_octets s head body)) room
    room_test g =
        ap (λ (n : ℕ). leb (2 + n + length body) room) (exact g) ∙ ap (λ (n : ℕ). leb n room) (sym (message_long s head body))

    pub refusal_is : q ≡ size_test s head body room
    unfolding size_test
    refusal_is = eq ∙ rw head_test (unless_same 21 inner room_test)

    -- where nothing refused at all
    pub record Fits : Type 0 where
      pub exactly : h ≡ length (header_octets s head)
      pub fits_room : length (message_octets s head body) ≤ room

    pub fits : q.number ≡ 0 → Fits
    unfolding size_test
    fits z =
        let g : fine (size_test s head body room) ≡ true = ap fine (sym refusal_is) ∙ eq-eqb q.number 0 z in
        let a = unless_fine (leb (length (message_octets s head body)) room) 20 _ g in
        record { exactly = exact a.before; fits_room = leb-true _ _ a.held }

    pub refused_answer : (encoding : ℕ) → (q.number ≡ 0 → ⊥) → not_carried (refusal q.number) ≡ made_answer s head body encoding room
    unfolding made_answer
    refused_answer encoding n =
        let f : fine (size_test s head body room) ≡ false = ap fine (sym refusal_is) ∙ ne_eqb q.number 0 n in
        rw f (ap (λ (x : Tested). not_carried (refusal x.number)) refusal_is)

    pub written_answer :
        (encoding : ℕ) → q.number ≡ 0 →
        record { refusal = refusal 0; header = h; body = length body; encoding = encoding } ≡ made_answer s head body encoding room
    unfolding made_answer
    written_answer encoding z =
        let f : fine (size_test s head body room) ≡ true = ap fine (sym refusal_is) ∙ eq-eqb q.number 0 z in
        rw f (ap (λ (n : ℕ). record { refusal = refusal 0; header = n; body = length body; encoding = encoding }) (fits z).exactly)

  module _ (out : List ℕ) {q : Tested} (eq : q ≡ unless (leb (2 + h + length body) (length out)) 21 (unless (leb h header_most) 12 none_failed)) where
    pub refused_output : (q.number ≡ 0 → ⊥) → out ≡ made_output s head body out
    unfolding made_output
    refused_output n =
        let f : fine (size_test s head body (length out)) ≡ false = ap fine (sym (refusal_is (length out) eq)) ∙ ne_eqb q.number 0 n in
        rw f

    pub written_output : q.number ≡ 0 → {l : List ℕ} {e : ℕ} → Lays (laid out 0) (message_pieces s v t body) l e → l ≡ made_output s head body out
    unfolding made_output
    written_output z {l} {e} a =
        let f : fine (size_test s head body (length out)) ≡ true = ap fine (sym (refusal_is (length out) eq)) ∙ eq-eqb q.number 0 z in
        let k = fits (length out) eq z in
        let p = message_together s v t body in
        let room = k.fits_room in
        let c = (lays_all a (omega (arith, ap length p))).1 in
        rw f
        (c ∙ ap (sets out 0) p ∙ sets-eq (message_octets s head body) out 0 (omega arith)
        ∙ ap (λ (j : ℕ). message_octets s head body ++ drop j out) (zero-add (length (message_octets s head body))))
