-- Reading accepts a slice exactly if the writer could have written it, with a zone the old writer; and these can write every packet of the
-- format.
-- Assumes nothing.
use Prim.Native.Nat.{ℕ, ◌≤◌}
use mathlib.Core.Path.{◌≡◌, refl, ap, ap₂, ◌∙◌, subst}
use mathlib.Core.Logic.{◌↔◌}
use mathlib.Core.List.{List}
use native.Mathlib.Omega.{arith}
use lib.ListN.{length, take, drop, replicate, length-replicate}
use lib.Seq.{take_at}
use Rattle.octets.specs.Octets.{Octets}
use Rattle.octets.proofs.Has.{octets_part}
use Rattle.walk.specs.declared.Settings.{Settings}
use Rattle.packet.specs.Answer.{Header}
use Rattle.packet.specs.Format.{Values, octets_of, InRange}
use Rattle.packet.specs.Reading.{read_packet}
use Rattle.write.specs.Answer.{Written}
use Rattle.write.specs.Writing.{write_refusal, write_answer}
use Rattle.format.specs.Told.{head_of, values_of}
use Rattle.format.proofs.TwoWay.{writes_octets, reads_back, only_writing}
use Rattle.two_way.specs.Again.{part_places, again_header, again_packet, again_domain, again_texts, again_body}
use Rattle.write.specs.Lending.{Bits64, LentOctets}
use Rattle.two_way.specs.Same.{written, CouldWrite}
use Rattle.two_way.proofs.Lists.{joined_octets}
use Rattle.two_way.proofs.Forth.{its_writer, writes_again, writes_slice}
use Rattle.two_way.proofs.Back.{writes_back}

-- what an answer gives again is octets, and fits
pub again_octets : (p : List ℕ) (h : Header) → Octets p → LentOctets (again_texts p h) (again_body p h)
unfolding again_texts again_domain
again_octets p h o =
    record {
      timestamp = octets_part p h.texts.timestamp.at h.texts.timestamp.length o;
      zone = octets_part p h.texts.zone.at h.texts.zone.length o;
      session_name = octets_part p h.texts.session_name.at h.texts.session_name.length o;
      domain = joined_octets p (part_places h) o;
      authentication = octets_part p h.texts.authentication.at h.texts.authentication.length o;
      body = octets_part p h.body.at h.body.length o;
    }

pub again_bits : (s : Settings) (p : List ℕ) → Octets p → (read_packet s p).refusal.number ≡ 0 → Bits64 (again_header (read_packet s p)).transaction
unfolding again_header values_of head_of
again_bits s p o z = (only_writing s p o z).0.head.transaction

accepted_could : (s : Settings) (p : List ℕ) → Octets p → (read_packet s p).refusal.number ≡ 0 → CouldWrite s p
unfolding again_header
accepted_could s p o z =
    record {
      header = again_header (read_packet s p);
      own = again_packet (read_packet s p);
      texts = again_texts p (read_packet s p);
      body = again_body p (read_packet s p);
      octets = again_octets p (read_packet s p) o;
      bits = again_bits s p o z;
      answers = λ out l. writes_again (read_packet s p).has.zone s p o z (its_writer (read_packet s p).has) out l;
      writes = λ out l. writes_slice (read_packet s p).has.zone s p o z (its_writer (read_packet s p).has) out l;
    }

could_accepted : (s : Settings) (p : List ℕ) → CouldWrite s p → (read_packet s p).refusal.number ≡ 0
unfolding write_answer
could_accepted s p c =
    let out : List ℕ = replicate (length p) 0 in
    let l : length p ≤ length out = omega (arith, length-replicate {A = ℕ} (length p) 0) in
    let a = c.answers out l in
    let z : (write_refusal c.header.has.zone s c.header c.own c.texts c.body (length out)).number ≡ 0 =
    ap (λ (r : Written). r.refusal.number) a in
    let e : written c.header.has.zone s c.header c.own c.texts c.body out ≡ p =
    ap₂ (λ (r : Written) (x : List ℕ). take r.length x) a (c.writes out l) ∙ take_at p (drop (length p) out) (length p) refl in
    subst (λ (x : List ℕ). (read_packet s x).refusal.number ≡ 0) e
    (writes_back c.header.has.zone s c.header c.own c.texts c.body out c.octets c.bits z).no_refusal_lem

pub reads_exactly : (s : Settings) (p : List ℕ) → Octets p → (read_packet s p).refusal.number ≡ 0 ↔ CouldWrite s p
reads_exactly s p o = (accepted_could s p o, could_accepted s p)

-- and the writer, or the old one, can write every packet of the format
pub range_could : (s : Settings) (v : Values) → InRange s v → CouldWrite s (octets_of s v)
range_could s v r = accepted_could s (octets_of s v) (writes_octets s v r) (reads_back s v r).0
