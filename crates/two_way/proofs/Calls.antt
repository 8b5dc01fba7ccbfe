-- The same over the generated contracts of the two calls, `write::write` and `packet::read`: what the one writes the other reads back
-- the same (M-3), and what the other accepts the one writes (M-4). A packet with a zone is written by the old writer, `write::write_by`.
-- And two outcomes that the writer's contract allows for the same arguments have the same answer and the same octets in the output (M-7).
-- The slice read is octets by the reader's own contract, and the transaction id has 64 bits by the writer's: so nothing need be said of
-- what is lent.
-- Assumes nothing.
use Prim.Native.Nat.{ℕ, ◌≤◌}
use mathlib.Core.Path.{◌≡◌, ap, sym, ◌∙◌, subst}
use mathlib.Core.Logic.{◌↔◌}
use mathlib.Core.Bool.{Bool, true, false, not}
use mathlib.Core.List.{List, ◌++◌}
use contract.Lifetimes as L
use lib.ListN.{length, take, drop}
use Rattle.octets.specs.Octets.{Octets}
use Rattle.walk.specs.declared.Settings.{Settings}
use Rattle.walk.specs.Walk.{no_refusal}
use Rattle.packet.specs.Answer.{Header}
use Rattle.packet.specs.Reading.{read_packet}
use Rattle.packet.specs.Decoded.{decoded}
use Rattle.packet.proofs.read.Reads as reads
use Rattle.packet.proofs.Arguments.{read_call}
use Rattle.write.specs.declared.HeaderValues.{HeaderValues}
use Rattle.write.specs.declared.PacketValues.{PacketValues}
use Rattle.write.specs.Answer.{Written, written as answered}
use Rattle.write.specs.Given.{Lent}
use Rattle.write.specs.Writing.{zone_fits, write_refusal, write_answer, write_output}
use Rattle.write.proofs.write.Reads as writes
use Rattle.write.proofs.write_by.Reads as bys
use Rattle.write.proofs.Apart.{written_one}
use Rattle.write.proofs.Arguments.{WriteCall, write_call, write_output_lem, by_old, by_call, by_output}
use Rattle.format.proofs.Calls.{read_accepted}
use Rattle.two_way.specs.Again.{again_header, again_packet, again_texts, again_body}
use Rattle.write.specs.Lending.{Bits64}
use Rattle.two_way.specs.Same.{written, CouldWrite, SameRead}
use Rattle.two_way.proofs.Back.{written_writable, writable_back}
use Rattle.two_way.proofs.Forth.{writes_again, writes_slice}
use Rattle.two_way.proofs.Exactly.{reads_exactly}

-- ---- over plain values

module _
    (old : Bool)
    (s : Settings)
    (v : HeaderValues)
    (o : PacketValues)
    (t : Lent)
    (body out l : List ℕ)
    (r : Written)
    (e : r ≡ write_answer old s v o t body (length out))
    (f : l ≡ write_output old s v o t body out) where
  same_written : take r.length l ≡ written old s v o t body out
  same_written = ap (λ (x : Written). take x.length l) e ∙ ap (take (write_answer old s v o t body (length out)).length) f

  same_refusal : r.refusal.number ≡ 0 → (write_refusal old s v o t body (length out)).number ≡ 0
  unfolding write_answer
  same_refusal z = ap (λ (x : Written). x.refusal.number) (sym e) ∙ z

  pub plain_back :
      (c : Settings) (p : List ℕ) (h : Header) → h ≡ read_packet c p → Octets p → c ≡ s → p ≡ take r.length l →
      r.refusal.number ≡ 0 → Bits64 v.transaction → SameRead p h v o t body
  plain_back c p h g q n m z w =
      let y : p ≡ written old s v o t body out = m ∙ same_written in
      let x = same_refusal z in
      let k = written_writable old s v o t body out (subst Octets y q) w x in
      let i : read_packet s (written old s v o t body out) ≡ h =
      ap (read_packet s) (sym y) ∙ ap (λ (u : Settings). read_packet u p) (sym n) ∙ sym g in
      subst (λ (j : List ℕ). SameRead j h v o t body) (sym y)
      (subst (λ (j : Header). SameRead (written old s v o t body out) j v o t body) i (writable_back old s v o t body out k x))

plain_forth :
    (old : Bool) (s : Settings) (p : List ℕ) (h : Header) → h ≡ read_packet s p → Octets p → h.refusal.number ≡ 0 →
    zone_fits old h.has ≡ true → (out : List ℕ) → length p ≤ length out →
    (write_answer old s (again_header h) (again_packet h) (again_texts p h) (again_body p h) (length out)
    ≡ record { refusal = no_refusal; length = length p })
    × (write_output old s (again_header h) (again_packet h) (again_texts p h) (again_body p h) out ≡ p ++ drop (length p) out)
plain_forth old s p h e o z f out l =
    let y : (read_packet s p).refusal.number ≡ 0 = ap (λ (x : Header). x.refusal.number) (sym e) ∙ z in
    let g : zone_fits old (read_packet s p).has ≡ true = ap (λ (x : Header). zone_fits old x.has) (sym e) ∙ f in
    subst
    (λ (x : Header).
    (write_answer old s (again_header x) (again_packet x) (again_texts p x) (again_body p x) (length out)
    ≡ record { refusal = no_refusal; length = length p })
    × (write_output old s (again_header x) (again_packet x) (again_texts p x) (again_body p x) out ≡ p ++ drop (length p) out)) (sym e)
    (writes_again old s p o y g out l, writes_slice old s p o y g out l)

-- the writer's arguments, put in one place after the other
given_again :
    (old : Bool) (s c : Settings) (v w : HeaderValues) (o q : PacketValues) (t u : Lent) (b d out : List ℕ) → c ≡ s → w ≡ v → q ≡ o → u ≡ t → d ≡ b →
    (write_answer old c w q u d (length out) ≡ write_answer old s v o t b (length out)) × (write_output old c w q u d out ≡ write_output old s v o t b out)
given_again old s c v w o q t u b d out e f g h i = (cc, cc)

-- the writer's call is given the values told, texts from their places, the same settings and room
pub record GivenAgain (s : Settings) (p : List ℕ) (h : Header) (w : WriteCall) : Type 0 where
  pub settings : w.settings ≡ s
  pub header : w.header ≡ again_header h
  pub own : w.own ≡ again_packet h
  pub texts : w.texts ≡ again_texts p h
  pub body : w.body ≡ again_body p h
  pub room : length p ≤ length w.output

forth_given :
    (old : Bool) (s : Settings) (p : List ℕ) (h : Header) → h ≡ read_packet s p → Octets p → h.refusal.number ≡ 0 →
    zone_fits old h.has ≡ true → (w : WriteCall) → GivenAgain s p h w →
    (write_answer old w.settings w.header w.own w.texts w.body (length w.output)
    ≡ record { refusal = no_refusal; length = length p })
    × (write_output old w.settings w.header w.own w.texts w.body w.output ≡ p ++ drop (length p) w.output)
forth_given old s p h e o z f w g =
    let u = plain_forth old s p h e o z f w.output g.room in
    let q =
    given_again old s w.settings (again_header h) w.header (again_packet h) w.own (again_texts p h) w.texts (again_body p h) w.body
    w.output g.settings g.header g.own g.texts g.body in
    (q.0 ∙ u.0, q.1 ∙ u.1)

-- ---- the two calls

-- what `write` wrote, `read` answers: no refusal, every number, every text's octets at its told place, the body
pub write_back :
    (κs : L.Lfts 3) (a : _) (r : _) (x : _) (λs : L.Lfts 1) (b : _) (h : _) (y : _) → writes.Post κs a r x → reads.Post λs b h y →
    (read_call λs b).settings ≡ (write_call κs a).settings → (read_call λs b).packet ≡ take (answered r).length (write_output_lem κs x) →
    (answered r).refusal.number ≡ 0 →
    SameRead (read_call λs b).packet (decoded h) (write_call κs a).header (write_call κs a).own (write_call κs a).texts (write_call κs a).body
write_back κs a r x λs b h y k j n m z =
    let w = write_call κs a in
    plain_back false w.settings w.header w.own w.texts w.body w.output (write_output_lem κs x) (answered r) k.0 k.1
    (read_call λs b).settings (read_call λs b).packet (decoded h) j.0 j.1 n m z k.2.transaction

-- and so of the old writer, with a zone too
pub write_by_back :
    (κs : L.Lfts 3) (a : _) (r : _) (x : _) (λs : L.Lfts 1) (b : _) (h : _) (y : _) → bys.Post κs a r x → reads.Post λs b h y →
    (read_call λs b).settings ≡ (by_call κs a).settings → (read_call λs b).packet ≡ take (answered r).length (by_output κs x) →
    (answered r).refusal.number ≡ 0 →
    SameRead (read_call λs b).packet (decoded h) (by_call κs a).header (by_call κs a).own (by_call κs a).texts (by_call κs a).body
write_by_back κs a r x λs b h y k j n m z =
    let w = by_call κs a in
    plain_back (by_old κs a) w.settings w.header w.own w.texts w.body w.output (by_output κs x) (answered r) k.0 k.1
    (read_call λs b).settings (read_call λs b).packet (decoded h) j.0 j.1 n m z k.2.transaction

-- what `read` accepted, `write` writes: given that again, that very slice, if it has no zone
pub read_forth :
    (κs : L.Lfts 1) (a : _) (h : _) (x : _) (λs : L.Lfts 3) (b : _) (r : _) (y : _) → reads.Post κs a h x → writes.Post λs b r y →
    (decoded h).refusal.number ≡ 0 → (decoded h).withdrawn ≡ false → GivenAgain (read_call κs a).settings (read_call κs a).packet (decoded h) (write_call λs b) →
    (answered r ≡ record { refusal = no_refusal; length = length (read_call κs a).packet })
    × (write_output_lem λs y ≡ (read_call κs a).packet ++ drop (length (read_call κs a).packet) (write_call λs b).output)
read_forth κs a h x λs b r y k j z f g =
    let e : (decoded h).has.zone ≡ false = sym (read_accepted κs a h x k z).withdrawn ∙ f in
    let u = forth_given false (read_call κs a).settings (read_call κs a).packet (decoded h) k.0 k.1 z (ap not e) (write_call λs b) g in
    (j.0 ∙ u.0, j.1 ∙ u.1)

-- and the old writer writes it with a zone or without
pub read_by_forth :
    (κs : L.Lfts 1) (a : _) (h : _) (x : _) (λs : L.Lfts 3) (b : _) (r : _) (y : _) → reads.Post κs a h x → bys.Post λs b r y →
    (decoded h).refusal.number ≡ 0 → by_old λs b ≡ true → GivenAgain (read_call κs a).settings (read_call κs a).packet (decoded h) (by_call λs b) →
    (answered r ≡ record { refusal = no_refusal; length = length (read_call κs a).packet })
    × (by_output λs y ≡ (read_call κs a).packet ++ drop (length (read_call κs a).packet) (by_call λs b).output)
read_by_forth κs a h x λs b r y k j z f g =
    let e : zone_fits (by_old λs b) (decoded h).has ≡ true = ap (λ (o : Bool). zone_fits o (decoded h).has) f in
    let u = forth_given (by_old λs b) (read_call κs a).settings (read_call κs a).packet (decoded h) k.0 k.1 z e (by_call λs b) g in
    (j.0 ∙ u.0, j.1 ∙ u.1)

-- `read` accepts a slice exactly if the writer could have written it
pub read_exactly :
    (κs : L.Lfts 1) (a : _) (h : _) (x : _) → reads.Post κs a h x →
    (decoded h).refusal.number ≡ 0 ↔ CouldWrite (read_call κs a).settings (read_call κs a).packet
read_exactly κs a h x k =
    subst (λ (g : Header). g.refusal.number ≡ 0 ↔ CouldWrite (read_call κs a).settings (read_call κs a).packet) (sym k.0)
    (reads_exactly (read_call κs a).settings (read_call κs a).packet k.1)

-- ---- the same arguments, the same answer and the same output

pub write_same_answer : (κs : L.Lfts 3) (a : _) (r q : _) (s t : _) → writes.Post κs a r s → writes.Post κs a q t → r ≡ q
write_same_answer κs a r q s t k j = written_one r q (k.0 ∙ sym j.0)

pub write_same_lent :
    (κs : L.Lfts 3) (a : _) (r q : _) (s t : _) → writes.Post κs a r s → writes.Post κs a q t → write_output_lem κs s ≡ write_output_lem κs t
write_same_lent κs a r q s t k j = k.1 ∙ sym j.1
