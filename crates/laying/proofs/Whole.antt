-- A whole packet of the short way: its pieces are those of the long way, nothing refuses it, and so its answer and its output are.
-- Assumes nothing.
use Prim.Native.Nat.{ℕ, ◌+◌, ◌-◌, ◌≤◌}
use mathlib.Core.Path.{◌≡◌, refl, ap, sym, ◌∙◌}
use mathlib.Core.Bool.{Bool, true, false}
use mathlib.Core.List.{List, [], ◌∷◌, ◌++◌, append_assoc}
use native.Mathlib.Omega.{arith}
use lib.ListN.{length}
use lib.Dec.{eqb, leb}
use borrow.Author.Tests.{le-leb, leb-true, eq-eqb, eqb-true}
use Rattle.octets.specs.Octets.{pick, wide, octet_at as number_at}
use Rattle.octets.specs.Laying.{laid, Lays}
use Rattle.octets.proofs.Laying.{empty}
use Rattle.utf8.specs.Test.{all_single}
use Rattle.walk.specs.declared.Settings.{Settings}
use Rattle.walk.specs.Walk.{refusal}
use Rattle.fields.specs.Form.{uinteger_octets, split}
use Rattle.fields.specs.Inner.{blob_pieces, text_pieces, domain_pieces}
use Rattle.packet.specs.Format.{when, segment, header_octets, secondary_octets, octets_of}
use Rattle.write.specs.Given.{Lent, head_of, number_fits, exact_fits, packet_of as values_of}
use Rattle.write.specs.Inner.{primary_pieces, present_octet, front_pieces, middle_pieces, end_pieces, packet_pieces}
use Rattle.write.specs.Writing.{given_packet, size_tests, write_refusal, fine, write_answer, write_output}
use Rattle.write.proofs.Tests.{unless_true}
use Rattle.write.proofs.Answers.{secondary_length, packet_length, packet_least, packet_laid}
use Rattle.flat.specs.Given.{fits_to, header_fits, packet_fits, header_of, packet_of, present_of}
use Rattle.flat.specs.Answers.{write_numbers, write_out}
use Rattle.flat.proofs.Choosing.{write_told, write_laid}
use Rattle.flat.proofs.Fitting.{both_held}
use Rattle.laying.specs.Short.{InLimits, Texts, Ready, fixed_pieces, plain_pieces, Owned, Writes}
use Rattle.laying.proofs.Limits.{header_fits_lem}
use Rattle.laying.proofs.Checks.{down, values_pass}
use Rattle.laying.proofs.Sizes.{present_is}

-- ---- no texts

pub texts_none :
    {s : Settings} {h : List ℕ} {t : Lent} → length t.zone ≡ 0 → number_at h 16 + number_at h 18 + number_at h 19 + number_at h 20 ≡ 0 →
    length t.timestamp + (length t.session_name + (length t.domain + (length t.lengths + length t.authentication))) ≡ 0 → Texts s h t
unfolding all_single
texts_none {s} {h} {t} z f e =
    let time : number_at h 16 ≡ 0 = omega arith in
    let domain : number_at h 19 ≡ 0 = omega arith in
    let none : length t.timestamp ≡ 0 = omega arith in
    let parts : length t.lengths ≡ 0 = omega arith in
    let n : t.session_name ≡ [] = empty t.session_name (omega arith) in
    let d : t.domain ≡ [] = empty t.domain (omega arith) in
    record {
      timestamp = rw (down time) (eq-eqb (length t.timestamp) 0 none);
      zone = z;
      name = record { absent = λ q. omega arith; most = omega arith };
      domain = record { absent = λ q. omega arith; most = omega arith };
      lengths = rw (down domain) (eq-eqb (length t.lengths) 0 parts);
      parts = omega arith;
      authentication = record { absent = λ q. omega arith; most = omega arith };
      name_single = ap all_single n;
      domain_single = ap all_single d;
    }

pub time_most : {s : Settings} {h : List ℕ} {t : Lent} → Ready s h t → length t.timestamp ≤ 16
time_most {s} {h} {t} r = go (eqb (number_at h 16) 1) r.texts.timestamp
  where
    go : (b : Bool) → exact_fits b (length t.timestamp) s.t ≡ true → length t.timestamp ≤ 16
    go true q = omega (arith, eqb-true (length t.timestamp) s.t q, r.numbers.t_top)
    go false q = omega (arith, eqb-true (length t.timestamp) 0 q)

-- ---- the pieces

module _ (s : Settings) (h : List ℕ) (t : Lent) (flags count counter n : ℕ) (body : List ℕ) where
  pub plain_pieces_lem :
      InLimits h → 0 ≡ present_octet (present_of h) →
      plain_pieces (header_of h) (packet_of flags count counter) n body ≡ packet_pieces s (header_of h) (packet_of flags count counter) t n body
  unfolding packet_pieces front_pieces middle_pieces end_pieces header_of present_of
  plain_pieces_lem l z =
      let e = present_is l in
      let a : number_at h 13 ≡ 0 = omega arith in
      let b : number_at h 14 ≡ 0 = omega arith in
      let c : number_at h 15 ≡ 0 = omega arith in
      let d : number_at h 16 ≡ 0 = omega arith in
      let f : number_at h 17 ≡ 0 = omega arith in
      let g : number_at h 18 ≡ 0 = omega arith in
      let i : number_at h 19 ≡ 0 = omega arith in
      let j : number_at h 20 ≡ 0 = omega arith in
      rw (down a, down b, down c, down d, down f, down g, down i, down j) (simp append_assoc)

  pub plain_lays :
      InLimits h → 0 ≡ present_octet (present_of h) → {l m : List ℕ} {e : ℕ} →
      Lays (laid l 0) (plain_pieces (header_of h) (packet_of flags count counter) n body) m e →
      Lays (laid l 0) (packet_pieces s (header_of h) (packet_of flags count counter) t n body) m e
  plain_lays l z a = rw (← plain_pieces_lem l z) a

  -- by whether there is a zone
  abbrev pieces_by : Bool → List (List ℕ)
  pieces_by b =
      fixed_pieces (header_of h) (packet_of flags count 0) n
      ++ (when (eqb (number_at h 13) 1) (wide 1 (number_at h 21) ∷ [])
      ++ (when (eqb (number_at h 14) 1) (wide 1 (number_at h 22) ∷ [])
      ++ (when (segment flags) (wide 4 counter ∷ [])
      ++ (when (eqb (number_at h 15) 1) (uinteger_octets s (number_at h 23) ∷ [])
      ++ (when (eqb (number_at h 16) 1) (t.timestamp ∷ [])
      ++ (when b (text_pieces s t.zone)
      ++ (when (eqb (number_at h 18) 1) (blob_pieces s t.session_name)
      ++ (when (eqb (number_at h 19) 1) (domain_pieces s (split t.lengths t.domain))
      ++ (when (eqb (number_at h 20) 1) (blob_pieces s t.authentication) ++ (body ∷ []))))))))))

  all_pieces : pieces_by (eqb (number_at h 17) 1) ≡ packet_pieces s (header_of h) (packet_of flags count counter) t n body
  unfolding packet_pieces primary_pieces front_pieces middle_pieces end_pieces text_pieces header_of present_of
  all_pieces = simp append_assoc

  pub full_pieces :
      number_at h 17 ≤ 0 →
      fixed_pieces (header_of h) (packet_of flags count 0) n
      ++ (when (eqb (number_at h 13) 1) (wide 1 (number_at h 21) ∷ [])
      ++ (when (eqb (number_at h 14) 1) (wide 1 (number_at h 22) ∷ [])
      ++ (when (segment flags) (wide 4 counter ∷ [])
      ++ (when (eqb (number_at h 15) 1) (uinteger_octets s (number_at h 23) ∷ [])
      ++ (when (eqb (number_at h 16) 1) (t.timestamp ∷ [])
      ++ (when (eqb (number_at h 18) 1) (blob_pieces s t.session_name)
      ++ (when (eqb (number_at h 19) 1) (domain_pieces s (split t.lengths t.domain))
      ++ (when (eqb (number_at h 20) 1) (blob_pieces s t.authentication) ++ (body ∷ [])))))))))
      ≡ packet_pieces s (header_of h) (packet_of flags count counter) t n body
  full_pieces z =
      let f : number_at h 17 ≡ 0 = omega arith in
      ap pieces_by (sym (down f)) ∙ all_pieces

-- ---- writing

counter_most : (b : Bool) (k : ℕ) → number_fits b k 4294967295 ≡ true → k ≤ 4294967295
counter_most true k e = leb-true k 4294967295 e
counter_most false k e = omega (arith, eqb-true k 0 e)

packet_fits_lem : {flags count counter : ℕ} → Owned flags count counter → packet_fits flags count counter ≡ true
unfolding fits_to
packet_fits_lem {flags} {count} {counter} o =
    simp (
      le-leb flags 255 (omega (arith, o.own.flags_top)),
      le-leb count 65535 (omega (arith, o.own.count_top)),
      le-leb counter 4294967295 (counter_most (segment flags) counter o.counter_fits),
    )

body_fits_lem : (b : Bool) (n : ℕ) → (b ≡ true → 1 ≤ n) → pick b (leb 1 n) true ≡ true
body_fits_lem true n h = le-leb 1 n (h refl)
body_fits_lem false n h = refl

module _ {s : Settings} {h : List ℕ} {t : Lent} (r : Ready s h t) {flags count counter : ℕ} (o : Owned flags count counter) (body : List ℕ) {H C : ℕ}
    (eh : H ≡ length (header_octets s (head_of (header_of h) t))) (ec : C ≡ pick (segment flags) 4 0) where
  size_is : 6 + (H + C) + length body ≡ length (octets_of s (given_packet (header_of h) (packet_of flags count counter) t body))
  unfolding values_of
  size_is =
      let w = given_packet (header_of h) (packet_of flags count counter) t body in
      omega (arith, packet_length s w, secondary_length s w)

  passes :
      (room : ℕ) → H + C ≤ 256 → length body ≤ 65280 → 6 + (H + C) + length body ≤ room → (segment flags ≡ true → 1 ≤ length body) →
      fine (write_refusal false s (header_of h) (packet_of flags count counter) t body room) ≡ true
  unfolding write_refusal size_tests values_of
  passes room a b c d =
      let w = given_packet (header_of h) (packet_of flags count counter) t body in
      let l = size_is in
      let k = secondary_length s w in
      ap fine
      (unless_true _ 21 _ (le-leb (length (octets_of s w)) room (omega arith))
      ∙ (unless_true _ 14 _ (body_fits_lem (segment flags) (length body) d)
      ∙ (unless_true _ 12 _ (le-leb (length (secondary_octets s w)) 256 (omega arith))
      ∙ (unless_true _ 23 _ (le-leb (length (octets_of s w)) 65542 (omega arith)) ∙ values_pass r o))))

  pub writes :
      (room : ℕ) → H + C ≤ 256 → length body ≤ 65280 → 6 + (H + C) + length body ≤ room → (segment flags ≡ true → 1 ≤ length body) →
      Writes s h t flags count counter body room (6 + (H + C) + length body)
  writes room a b c d =
      let w = given_packet (header_of h) (packet_of flags count counter) t body in
      record {
        ready = r;
        own = o.own;
        fits = rw (header_fits_lem r.numbers.limited) (packet_fits_lem o);
        passes = passes room a b c d;
        least = omega (arith, size_is, packet_least s w);
        size_is = size_is;
        size_room = c;
      }

module _ {s : Settings} {h : List ℕ} {t : Lent} {flags count counter : ℕ} {body : List ℕ} {room size : ℕ}
    (w : Writes s h t flags count counter body room size) where
  pub told : 0 ∷ size ∷ [] ≡ write_numbers s h t flags count counter body room
  unfolding write_answer
  told =
      let v = header_of h in
      let o = packet_of flags count counter in
      let f = w.passes in
      let z : 0 ≡ (write_refusal false s v o t body room).number = sym (eqb-true (write_refusal false s v o t body room).number 0 f) in
      write_told s h t flags count counter body (both_held (header_fits h) _ w.fits).0 (both_held (header_fits h) _ w.fits).1 v o refl refl room (record { refusal = refusal 0; length = size }) _
      (λ i.
      record {
        refusal = refusal (z i);
        length = (w.size_is ∙ ap (λ (x : Bool). pick x (length (octets_of s (given_packet v o t body))) 0) (sym f)) i;
      })
      refl

pub put :
    {s : Settings} {h : List ℕ} {t : Lent} {flags count counter : ℕ} {body out : List ℕ} {size : ℕ} →
    Writes s h t flags count counter body (length out) size → {l : List ℕ} {e : ℕ} →
    Lays (laid out 0) (packet_pieces s (header_of h) (packet_of flags count counter) t (size - 7) body) l e →
    l ≡ write_out s h t flags count counter body out
unfolding write_output
put {s} {h} {t} {flags} {count} {counter} {body} {out} {size} w {l} {e} a =
    let v = header_of h in
    let o = packet_of flags count counter in
    let k = w.size_room in
    write_laid s h t flags count counter body (both_held (header_fits h) _ w.fits).0 (both_held (header_fits h) _ w.fits).1 v o refl refl out l
    (rw w.passes (packet_laid s v o t body out w.size_is (omega (arith, w.size_is)) a))
