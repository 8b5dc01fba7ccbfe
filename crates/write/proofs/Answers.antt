-- From the sizes and tests of the code to the answer and the output of writing, on plain values.
-- Assumes nothing.
use Prim.Native.Nat.{ℕ, ◌+◌, ◌-◌, ◌≤◌, ◌<◌}
use mathlib.Core.Path.{◌≡◌, refl, ap, sym, ◌∙◌}
use mathlib.Core.Logic.{⊎_elim}
use mathlib.Core.Bool.{Bool, true, false}
use mathlib.Core.List.{List, [], ◌∷◌, ◌++◌}
use native.Mathlib.Omega.{arith}
use native.Mathlib.Nat.{zero-add}
use lib.ListN.{length, drop, length-append}
use lib.Seq.{sets, sets-eq}
use lib.Dec.{leb}
use borrow.Author.Tests.{leb-true, le-leb, lt-leb, eq-eqb, ne_eqb}
use Rattle.octets.specs.Octets.{pick}
use Rattle.octets.specs.Laying.{laid, together, Lays}
use Rattle.octets.proofs.Lists.{bool, below_or}
use Rattle.octets.proofs.Numbers.{wide_length}
use Rattle.octets.proofs.Laying.{lays_all}
use Rattle.walk.specs.declared.Settings.{Settings}
use Rattle.walk.specs.declared.Tested.{Tested}
use Rattle.walk.specs.Walk.{refusal, unless}
use Rattle.fields.specs.Inner.{capped, size_most}
use Rattle.packet.specs.Format.{Values, segment, identification, header_octets, secondary_octets, data_octets, octets_of, header_most, packet_most}
use Rattle.format.proofs.Back.{data_long}
use Rattle.format.proofs.Stretches.{counter_long}
use Rattle.write.specs.declared.HeaderValues.{HeaderValues}
use Rattle.write.specs.declared.PacketValues.{PacketValues}
use Rattle.write.specs.Given.{Lent, head_of, packet_of, unless_all}
use Rattle.write.specs.Writing.{body_fits, given_packet, size_tests, value_refusal, write_refusal, fine, write_answer, write_output}
use Rattle.write.specs.Inner.{packet_pieces}
use Rattle.write.proofs.Tests.{unless_fine}
use Rattle.write.proofs.Sizes.{header_length_lem}
use Rattle.write.proofs.Pieces.{packet_together}

-- ---- lengths

between : (a b c d : ℕ) → a + (b + (c + d)) ≡ a + (b + d) + c
between a b c d = omega arith

pub secondary_length : (s : Settings) (v : Values) → length (secondary_octets s v) ≡ length (header_octets s v.head) + pick (segment v.flags) 4 0
unfolding secondary_octets header_octets
secondary_length s v = simp (length-append, counter_long v) (between _ _ _ _)

pub packet_length : (s : Settings) (v : Values) → length (octets_of s v) ≡ 6 + length (secondary_octets s v) + length v.body
unfolding octets_of identification data_octets
packet_length s v = simp (length-append, wide_length) (omega arith)

pub packet_least : (s : Settings) (v : Values) → 27 ≤ length (octets_of s v)
packet_least s v = omega (arith, packet_length s v, secondary_length s v, header_length_lem s v.head)

-- ---- tests on sizes that are told up to the limit

pub below_cap : (n m : ℕ) → m < size_most → leb (capped n) m ≡ leb n m
below_cap n m h =
    ⊎_elim
    (λ k. lt-leb (capped n) m (omega arith) ∙ sym (lt-leb n m k))
    (λ k. le-leb (capped n) m (omega arith) ∙ sym (le-leb n m k))
    (below_or m n)

pub shut : (x : Bool) (k : ℕ) (r : Tested) → fine r ≡ false → unless x k r ≡ r
unfolding unless
shut x k r e = simp e

pub all_shut : (bs : List Bool) (k : ℕ) (r : Tested) → fine r ≡ false → unless_all bs k r ≡ r
unfolding unless_all
all_shut [] k r e = refl
all_shut (b ∷ bs) k r e = ap (unless_all bs k) (shut b k r e) ∙ all_shut bs k r e

cap_left : (a b : ℕ) → capped (capped a + b) ≡ capped (a + b)
cap_left a b = omega arith

pub cap_middle : (a b : ℕ) → capped (6 + capped a + b) ≡ capped (6 + a + b)
cap_middle a b = omega arith

-- a test matters only where nothing refused before
pub unless_same : (k : ℕ) (r : Tested) {a b : Bool} → (fine r ≡ true → a ≡ b) → unless a k r ≡ unless b k r
unless_same k r {a} {b} h =
    ⊎_elim
    (λ e. ap (λ (x : Bool). unless x k r) (h e))
    (λ e. shut a k r e ∙ sym (shut b k r e))
    (bool (fine r))

-- the pieces of a packet laid over an output with room for it
pub packet_laid :
    (s : Settings) (v : HeaderValues) (o : PacketValues) (t : Lent) (body out : List ℕ) {size : ℕ} →
    size ≡ length (octets_of s (given_packet v o t body)) → length (octets_of s (given_packet v o t body)) ≤ length out →
    {l : List ℕ} {e : ℕ} → Lays (laid out 0) (packet_pieces s v o t (size - 7) body) l e →
    l ≡ octets_of s (given_packet v o t body) ++ drop (length (octets_of s (given_packet v o t body))) out
unfolding packet_of
packet_laid s v o t body out {size} e room a =
    let w = given_packet v o t body in
    let n : size - 7 ≡ length (data_octets s w) - 1 = omega (arith, packet_length s w, data_long s w) in
    let p : together (packet_pieces s v o t (size - 7) body) ≡ octets_of s w =
    ap (λ (j : ℕ). together (packet_pieces s v o t j body)) n ∙ packet_together s v o t body in
    let c = (lays_all a (omega (arith, ap length p))).1 in
    c ∙ ap (sets out 0) p ∙ sets-eq (octets_of s w) out 0 (omega arith)
    ∙ ap (λ (j : ℕ). octets_of s w ++ drop j out) (zero-add (length (octets_of s w)))

module _ (s : Settings) (v : HeaderValues) (o : PacketValues) (t : Lent) (body : List ℕ) {h second size : ℕ}
    (eh : h ≡ capped (length (header_octets s (head_of v t))))
    (es : second ≡ capped (h + pick (segment o.flags) 4 0))
    (ez : size ≡ capped (6 + second + length body)) where
  abbrev whole : Values
  whole = given_packet v o t body

  second_is : second ≡ capped (length (secondary_octets s whole))
  unfolding packet_of
  second_is =
      es ∙ ap (λ (n : ℕ). capped (n + pick (segment o.flags) 4 0)) eh ∙ cap_left (length (header_octets s (head_of v t))) (pick (segment o.flags) 4 0)
      ∙ ap capped (sym (secondary_length s whole))

  pub size_is : size ≡ capped (length (octets_of s whole))
  unfolding packet_of
  size_is =
      ez ∙ ap (λ (n : ℕ). capped (6 + n + length body)) second_is ∙ cap_middle (length (secondary_octets s whole)) (length body)
      ∙ ap capped (sym (packet_length s whole))

  -- the tests on sizes are the definition's
  module _ (old : Bool) (room : ℕ) {r q : Tested} (er : r ≡ value_refusal old s v o t)
      (eq : q ≡ unless (leb size room) 21 (unless (body_fits o.flags (length body)) 14 (unless (leb second header_most) 12 (unless (leb size packet_most) 23 r)))) where
    long_test : leb size packet_most ≡ leb (length (octets_of s whole)) packet_most
    long_test = ap (λ (n : ℕ). leb n packet_most) size_is ∙ below_cap (length (octets_of s whole)) packet_most (omega arith)

    head_test : leb second header_most ≡ leb (length (secondary_octets s whole)) header_most
    head_test = ap (λ (n : ℕ). leb n header_most) second_is ∙ below_cap (length (secondary_octets s whole)) header_most (omega arith)

    abbrev inner : Tested
    inner =
        unless (body_fits o.flags (length body)) 14
        (unless (leb (length (secondary_octets s whole)) header_most) 12 (unless (leb (length (octets_of s whole)) packet_most) 23 r))

    -- where nothing refused before 21, the size is told exactly
    exact : fine inner ≡ true → size ≡ length (octets_of s whole)
    exact g =
        let a = unless_fine (body_fits o.flags (length body)) 13 _ g in
        let b = unless_fine (leb (length (secondary_octets s whole)) header_most) 11 _ a.before in
        let d = unless_fine (leb (length (octets_of s whole)) packet_most) 22 r b.before in
        let l = leb-true (length (octets_of s whole)) packet_most d.held in
        omega (arith, size_is)

    pub refusal_is : q ≡ write_refusal old s v o t body room
    unfolding write_refusal size_tests packet_of
    refusal_is =
        eq ∙ rw (long_test, head_test) (unless_same 21 inner (λ g. ap (λ (n : ℕ). leb n room) (exact g)))
        ∙ ap
        (λ (x : Tested).
        unless (leb (length (octets_of s whole)) room) 21
        (unless (body_fits o.flags (length body)) 14
        (unless (leb (length (secondary_octets s whole)) header_most) 12 (unless (leb (length (octets_of s whole)) packet_most) 23 x))))
        er

    -- where nothing refused at all
    pub record Fits : Type 0 where
      pub size_exact : size ≡ length (octets_of s whole)
      pub fits_room : length (octets_of s whole) ≤ room
      pub least : 27 ≤ size

    pub fits : q.number ≡ 0 → Fits
    unfolding write_refusal size_tests packet_of
    fits z =
        let g : fine (write_refusal old s v o t body room) ≡ true = ap fine (sym refusal_is) ∙ eq-eqb q.number 0 z in
        let a = unless_fine (leb (length (octets_of s whole)) room) 20 _ g in
        let e = exact (ap (λ (x : Tested). fine (unless (body_fits o.flags (length body)) 14
        (unless (leb (length (secondary_octets s whole)) header_most) 12 (unless (leb (length (octets_of s whole)) packet_most) 23 x)))) er ∙ a.before) in
        record { size_exact = e; fits_room = leb-true (length (octets_of s whole)) room a.held; least = omega (arith, packet_least s whole) }

    pub refused_answer : (q.number ≡ 0 → ⊥) → record { refusal = refusal q.number; length = 0 } ≡ write_answer old s v o t body room
    unfolding write_answer
    refused_answer n =
        let f : fine (write_refusal old s v o t body room) ≡ false = ap fine (sym refusal_is) ∙ ne_eqb q.number 0 n in
        λ i. record { refusal = refusal (refusal_is i).number; length = ap (λ (x : Bool). pick x (length (octets_of s whole)) 0) (sym f) i }

    pub written_answer : q.number ≡ 0 → record { refusal = refusal 0; length = size } ≡ write_answer old s v o t body room
    unfolding write_answer
    written_answer z =
        let f : fine (write_refusal old s v o t body room) ≡ true = ap fine (sym refusal_is) ∙ eq-eqb q.number 0 z in
        let n : 0 ≡ (write_refusal old s v o t body room).number = sym z ∙ ap (λ (x : Tested). x.number) refusal_is in
        λ i. record { refusal = refusal (n i); length = ((fits z).size_exact ∙ ap (λ (x : Bool). pick x (length (octets_of s whole)) 0) (sym f)) i }

  module _ (old : Bool) (out : List ℕ) {r q : Tested} (er : r ≡ value_refusal old s v o t)
      (eq : q ≡ unless (leb size (length out)) 21 (unless (body_fits o.flags (length body)) 14 (unless (leb second header_most) 12 (unless (leb size packet_most) 23 r)))) where
    pub refused_output : (q.number ≡ 0 → ⊥) → out ≡ write_output old s v o t body out
    unfolding write_output
    refused_output n =
        let f : fine (write_refusal old s v o t body (length out)) ≡ false = ap fine (sym (refusal_is old (length out) er eq)) ∙ ne_eqb q.number 0 n in
        rw f

    pub written_output :
        q.number ≡ 0 → {l : List ℕ} {e : ℕ} → Lays (laid out 0) (packet_pieces s v o t (size - 7) body) l e → l ≡ write_output old s v o t body out
    unfolding write_output packet_of
    written_output z {l} {e} a =
        let f : fine (write_refusal old s v o t body (length out)) ≡ true = ap fine (sym (refusal_is old (length out) er eq)) ∙ eq-eqb q.number 0 z in
        let k = fits old (length out) er eq z in
        rw f (packet_laid s v o t body out k.size_exact k.fits_room a)
