-- The laws over the generated contracts of `pdu::read` and `pdu::write`: what reading accepts is the octets of what it answers, in range; it
-- accepts the octets of any values in range, and tells them; two slices that it accepts with the same values are the same. The slice's
-- octets are the contract's own second clause. Writing refuses nothing exactly if what it is given can be written; what it writes reading
-- tells, and what reading accepts it writes. And two outcomes that a contract allows for the same arguments have the same answer and the same
-- output.
-- Assumes nothing.
use Prim.Native.Nat.{ℕ, ◌≤◌}
use mathlib.Core.Path.{◌≡◌, refl, ap, ap₂, sym, ◌∙◌, subst}
use mathlib.Core.Logic.{◌↔◌}
use mathlib.Core.List.{List, ◌++◌}
use contract.Lifetimes as L
use native.Mathlib.Omega.{arith}
use lib.ListN.{length, take, drop}
use lib.Seq.{take_at}
use Rattle.octets.specs.Octets.{Octets}
use Rattle.walk.specs.Walk.{no_refusal}
use Rattle.write.specs.Given.{sum}
use Rattle.pdu.specs.declared.Header.{Header}
use Rattle.pdu.specs.declared.Written.{Written}
use Rattle.pdu.specs.Format.{Pdu, octets_of, head_octets, InRange}
use Rattle.pdu.specs.Reading.{read_pdu}
use Rattle.pdu.specs.Told.{values_of}
use Rattle.pdu.specs.Writing.{write_answer}
use Rattle.pdu.proofs.TwoWay.{reads_back, only_writing, one_slice}
use Rattle.pdu.proofs.Exactly.{writes_exactly, writable_answer, writable_output}
use Rattle.pdu.proofs.Arguments.{WriteCall, write_call, write_output_lem, given, LendsIt, CanWrite, answer_of, output_of}
use Rattle.pdu.proofs.read.Reads as reads
use Rattle.pdu.proofs.write.Reads as writes

-- ---- over plain values

plain_accepted :
    (p : List ℕ) (h : Header) → h ≡ read_pdu p → Octets p → h.refusal.number ≡ 0 → InRange (values_of p h) × (octets_of (values_of p h) ≡ p)
plain_accepted p h e o z = rw e (only_writing p o (rw e at z))

plain_back : (p : List ℕ) (h : Header) → h ≡ read_pdu p → (v : Pdu) → InRange v → p ≡ octets_of v → (h.refusal.number ≡ 0) × (values_of p h ≡ v)
plain_back p h e v r k = rw (e, k) (reads_back v r)

plain_one :
    (p q : List ℕ) (h g : Header) → h ≡ read_pdu p → g ≡ read_pdu q → Octets p → Octets q → h.refusal.number ≡ 0 → g.refusal.number ≡ 0 →
    values_of p h ≡ values_of q g → p ≡ q
plain_one p q h g e f o u y z k =
    one_slice p q o u (rw e at y) (rw f at z) (ap (values_of p) (sym e) ∙ k ∙ ap (values_of q) f)

-- ---- over the contracts

pub read_accepted :
    (κs : L.Lfts 1) (a : _) (r : _) (s : _) → reads.Post κs a r s → r.refusal.number ≡ 0 →
    InRange (values_of a.0.now r) × (octets_of (values_of a.0.now r) ≡ a.0.now)
read_accepted κs a r s k z = plain_accepted a.0.now r k.0 k.1 z

pub read_back :
    (κs : L.Lfts 1) (a : _) (r : _) (s : _) → reads.Post κs a r s → (v : Pdu) → InRange v → a.0.now ≡ octets_of v →
    (r.refusal.number ≡ 0) × (values_of a.0.now r ≡ v)
read_back κs a r s k v i e = plain_back a.0.now r k.0 v i e

pub read_one :
    (κs : L.Lfts 1) (a b : _) (r q : _) (s t : _) → reads.Post κs a r s → reads.Post κs b q t → r.refusal.number ≡ 0 → q.refusal.number ≡ 0 →
    values_of a.0.now r ≡ values_of b.0.now q → a.0.now ≡ b.0.now
read_one κs a b r q s t k j y z e = plain_one a.0.now b.0.now r q k.0 j.0 k.1 j.1 y z e

-- ---- the writer, over plain values

module _ (w : WriteCall) (r : Written) (l : List ℕ) (e : r ≡ answer_of w) (f : l ≡ output_of w) where
  plain_exactly : LendsIt w → r.refusal.number ≡ 0 ↔ CanWrite w
  unfolding write_answer
  plain_exactly k =
      let x = writes_exactly w.values w.source w.destination w.texts w.body (length w.output) k in
      subst (λ (q : Written). q.refusal.number ≡ 0 ↔ CanWrite w) (sym e) x

  plain_answer : CanWrite w → r ≡ record { refusal = no_refusal; length = length (octets_of (given w)); header = length (head_octets (given w)) }
  plain_answer k = e ∙ writable_answer w.values w.source w.destination w.texts w.body (length w.output) k

  plain_output : CanWrite w → l ≡ octets_of (given w) ++ drop (length (octets_of (given w))) w.output
  plain_output k = f ∙ writable_output w.values w.source w.destination w.texts w.body w.output k

  plain_written : CanWrite w → take r.length l ≡ octets_of (given w)
  plain_written k =
      let n : r.length ≡ length (octets_of (given w)) = ap (λ (q : Written). q.length) (plain_answer k) in
      ap₂ take n (plain_output k) ∙ take_at (octets_of (given w)) (drop (length (octets_of (given w))) w.output) (length (octets_of (given w))) refl

-- given again what was read
plain_forth :
    (p : List ℕ) (h : Header) (w : WriteCall) (r : Written) (l : List ℕ) → InRange (values_of p h) × (octets_of (values_of p h) ≡ p) →
    r ≡ answer_of w → l ≡ output_of w → given w ≡ values_of p h → sum w.texts.lengths ≡ length w.texts.domain →
    length p ≤ length w.output →
    (r.refusal.number ≡ 0) × ((r.length ≡ length p) × (l ≡ p ++ drop (length p) w.output))
plain_forth p h w r l c e f g s m =
    let o : octets_of (given w) ≡ p = ap octets_of g ∙ c.1 in
    let n : length (octets_of (given w)) ≡ length p = ap length o in
    let k : CanWrite w = record { range = subst InRange (sym g) c.0; adds = s; fits = omega arith } in
    let x = plain_answer w r l e f k in (
      ap (λ (q : Written). q.refusal.number) x,
      (
        ap (λ (q : Written). q.length) x ∙ n,
        plain_output w r l e f k ∙ ap (λ (u : List ℕ). u ++ drop (length u) w.output) o,
      ),
    )

-- ---- what `write` writes

-- it refuses nothing exactly if what it was given can be written
pub write_exactly :
    (κs : L.Lfts 5) (a : _) (r : _) (x : _) → writes.Post κs a r x → r.refusal.number ≡ 0 ↔ CanWrite (write_call κs a)
write_exactly κs a r x k = plain_exactly (write_call κs a) r (write_output_lem κs x) k.0 k.1 k.2

-- what it wrote, `read` answers: no refusal, and every value that it was given
pub write_back :
    (κs : L.Lfts 5) (a : _) (r : _) (x : _) (λs : L.Lfts 1) (b : _) (h : _) (y : _) → writes.Post κs a r x → reads.Post λs b h y →
    b.0.now ≡ take r.length (write_output_lem κs x) → r.refusal.number ≡ 0 →
    (h.refusal.number ≡ 0) × (values_of b.0.now h ≡ given (write_call κs a))
write_back κs a r x λs b h y k j e z =
    let c = (write_exactly κs a r x k).0 z in
    plain_back b.0.now h j.0 (given (write_call κs a)) c.range
    (e ∙ plain_written (write_call κs a) r (write_output_lem κs x) k.0 k.1 c)

-- what `read` accepted, `write` writes: given its values again, with lengths that make up the domain and with room, that very slice
pub read_forth :
    (κs : L.Lfts 1) (a : _) (h : _) (x : _) (λs : L.Lfts 5) (b : _) (r : _) (y : _) → reads.Post κs a h x → writes.Post λs b r y →
    h.refusal.number ≡ 0 → given (write_call λs b) ≡ values_of a.0.now h →
    sum (write_call λs b).texts.lengths ≡ length (write_call λs b).texts.domain → length a.0.now ≤ length (write_call λs b).output →
    (r.refusal.number ≡ 0) × ((r.length ≡ length a.0.now)
    × (write_output_lem λs y ≡ a.0.now ++ drop (length a.0.now) (write_call λs b).output))
read_forth κs a h x λs b r y k j z e s m =
    plain_forth a.0.now h (write_call λs b) r (write_output_lem λs y) (read_accepted κs a h x k z) j.0 j.1 e s m

-- ---- the same arguments, the same answer and output

pub read_same_answer : (κs : L.Lfts 1) (a : _) (r q : _) (s t : _) → reads.Post κs a r s → reads.Post κs a q t → r ≡ q
read_same_answer κs a r q s t k j = k.0 ∙ sym j.0

pub write_same_answer : (κs : L.Lfts 5) (a : _) (r q : _) (s t : _) → writes.Post κs a r s → writes.Post κs a q t → r ≡ q
write_same_answer κs a r q s t k j = k.0 ∙ sym j.0

pub write_same_lent :
    (κs : L.Lfts 5) (a : _) (r q : _) (s t : _) → writes.Post κs a r s → writes.Post κs a q t →
    write_output_lem κs s ≡ write_output_lem κs t
write_same_lent κs a r q s t k j = k.1 ∙ sym j.1
