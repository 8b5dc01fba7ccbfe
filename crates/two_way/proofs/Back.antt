-- What the writer writes reads back the same (M-3), over the definitions.
-- Assumes nothing.
use Prim.Native.Nat.{ℕ}
use mathlib.Core.Path.{◌≡◌, ap, sym, ◌∙◌, subst}
use mathlib.Core.Bool.{Bool}
use mathlib.Core.List.{List, map}
use lib.ListN.{length}
use Rattle.octets.specs.Octets.{Octets}
use Rattle.walk.specs.declared.Settings.{Settings}
use Rattle.fields.specs.Form.{joined, split}
use Rattle.packet.specs.Answer.{Header}
use Rattle.packet.specs.Format.{Values, octets_of}
use Rattle.packet.specs.Reading.{read_packet}
use Rattle.write.specs.declared.HeaderValues.{HeaderValues}
use Rattle.write.specs.declared.PacketValues.{PacketValues}
use Rattle.write.specs.Given.{Lent, head_of as given_head, packet_of, sum}
use Rattle.write.specs.Writing.{given_packet, write_refusal}
use Rattle.format.specs.Told.{content, head_of as told_head, values_of}
use Rattle.format.specs.Accepted.{Accepted}
use Rattle.format.proofs.TwoWay.{reads_back, writes_octets, one_value}
use Rattle.format.proofs.Accepting.{accepted}
use Rattle.two_way.specs.Again.{part_places, again_header, again_packet, again_domain, again_lengths, again_texts, again_body}
use Rattle.write.specs.Lending.{Bits64, LentOctets}
use Rattle.two_way.specs.Writable.{Writable}
use Rattle.two_way.specs.Same.{written, SameRead}
use Rattle.two_way.proofs.Lists.{lengths_told, joined_contents, lengths_split, joined_split}
use Rattle.two_way.proofs.Texts.{packet_texts, packet_body}
use Rattle.two_way.proofs.Accepts.{accepted_plain, accepts, writes_exactly}
use Rattle.two_way.proofs.Forth.{inside}
use Rattle.two_way.proofs.Outputs.{written_is}

-- values told as they were given, one by one
pub told_same :
    (s : Settings) (p : List ℕ) (h : Header) (v : HeaderValues) (o : PacketValues) (t : Lent) (b : List ℕ) → h.refusal.number ≡ 0 →
    Accepted s p h → sum t.lengths ≡ length t.domain → values_of p h ≡ given_packet v o t b → SameRead p h v o t b
unfolding values_of told_head packet_of given_head
told_same s p h v o t b z a n e =
    let d : map (content p) (part_places h) ≡ split t.lengths t.domain = ap (λ (u : Values). u.head.domain) e in
    record {
      no_refusal_lem = z;
      packet_type = ap (λ (u : Values). u.head.packet_type) e;
      apid = λ i. record { 0 = (e i).head.apid };
      flags = ap (λ (u : Values). u.flags) e;
      sequence_count = λ i. record { 0 = (e i).sequence_count };
      sdu = ap (λ (u : Values). u.head.sdu) e;
      area = ap (λ (u : Values). u.head.area) e;
      service = ap (λ (u : Values). u.head.service) e;
      operation = ap (λ (u : Values). u.head.operation) e;
      version = ap (λ (u : Values). u.head.version) e;
      error = ap (λ (u : Values). u.head.error) e;
      qos = ap (λ (u : Values). u.head.qos) e;
      session = ap (λ (u : Values). u.head.session) e;
      secondary_apid = λ i. record { 0 = (e i).head.secondary_apid };
      qualifier = ap (λ (u : Values). u.head.qualifier) e;
      transaction = ap (λ (u : Values). u.head.transaction) e;
      has =
          λ i.
          record {
            source = (e i).head.has_source;
            destination = (e i).head.has_destination;
            priority = (e i).head.has_priority;
            timestamp = (e i).head.has_timestamp;
            zone = (e i).head.has_zone;
            session_name = (e i).head.has_session_name;
            domain = (e i).head.has_domain;
            authentication = (e i).head.has_authentication;
          };
      withdrawn = a.withdrawn ∙ ap (λ (u : Values). u.head.has_zone) e;
      source = ap (λ (u : Values). u.head.source) e;
      destination = ap (λ (u : Values). u.head.destination) e;
      counter = λ i. record { 0 = (e i).counter };
      priority = ap (λ (u : Values). u.head.priority) e;
      timestamp = ap (λ (u : Values). u.head.timestamp) e;
      zone = ap (λ (u : Values). u.head.zone) e;
      session_name = ap (λ (u : Values). u.head.session_name) e;
      parts = d;
      domain =
          joined_contents p (part_places h)
          ∙ ap (joined (λ (x : List ℕ). x)) d
          ∙ joined_split t.lengths t.domain n;
      lengths = lengths_told p (part_places h) (inside s p h a) ∙ ap (map length) d ∙ lengths_split t.lengths t.domain n;
      authentication = ap (λ (u : Values). u.head.authentication) e;
      body = ap (λ (u : Values). u.body) e;
    }

-- what was read so, given to the writer again, is what it was given
pub same_again :
    (p : List ℕ) (h : Header) (v : HeaderValues) (o : PacketValues) (t : Lent) (b : List ℕ) → SameRead p h v o t b →
    (again_header h ≡ v) × ((again_packet h ≡ o) × ((again_texts p h ≡ t) × (again_body p h ≡ b)))
unfolding again_header again_packet again_texts again_domain again_lengths
same_again p h v o t b k = (
  λ i.
      record {
        packet_type = k.packet_type i;
        apid = k.apid i;
        sdu = k.sdu i;
        area = k.area i;
        service = k.service i;
        operation = k.operation i;
        version = k.version i;
        error = k.error i;
        qos = k.qos i;
        session = k.session i;
        secondary_apid = k.secondary_apid i;
        qualifier = k.qualifier i;
        transaction = k.transaction i;
        has = k.has i;
        source = k.source i;
        destination = k.destination i;
        priority = k.priority i;
      },
  (
    λ i. record { flags = k.flags i; sequence_count = k.sequence_count i; counter = k.counter i },
    (
      λ i.
          record {
            timestamp = k.timestamp i;
            zone = k.zone i;
            session_name = k.session_name i;
            domain = k.domain i;
            lengths = k.lengths i;
            authentication = k.authentication i;
          },
      k.body,
    ),
  ),
)

module _ (old : Bool) (s : Settings) (v : HeaderValues) (o : PacketValues) (t : Lent) (body out : List ℕ) where
  -- what was written is octets, so the texts that are there and the body are: nothing else need be known of what was lent
  pub written_writable :
      Octets (written old s v o t body out) → Bits64 v.transaction → (write_refusal old s v o t body (length out)).number ≡ 0 →
      Writable old s v o t body (length out)
  unfolding packet_of
  written_writable q w z =
      let e : Octets (octets_of s (given_packet v o t body)) = subst Octets (written_is old s v o t body out z) q in
      accepted_plain old s v o t body (length out) (packet_texts s (given_packet v o t body) e) (packet_body s (given_packet v o t body) e) w z

  pub writable_back :
      Writable old s v o t body (length out) → (write_refusal old s v o t body (length out)).number ≡ 0 →
      SameRead (written old s v o t body out) (read_packet s (written old s v o t body out)) v o t body
  writable_back k z =
      subst (λ (p : List ℕ). SameRead p (read_packet s p) v o t body) (sym (written_is old s v o t body out z))
      (told_same s (octets_of s (given_packet v o t body)) (read_packet s (octets_of s (given_packet v o t body))) v o t body
      (reads_back s (given_packet v o t body) k.range).0
      (accepted s (octets_of s (given_packet v o t body)) (writes_octets s (given_packet v o t body) k.range)
      (reads_back s (given_packet v o t body) k.range).0)
      k.adds (reads_back s (given_packet v o t body) k.range).1)

  -- what the writer accepts and writes reads back the same
  pub writes_back :
      LentOctets t body → Bits64 v.transaction → (write_refusal old s v o t body (length out)).number ≡ 0 →
      SameRead (written old s v o t body out) (read_packet s (written old s v o t body out)) v o t body
  writes_back p w z = writable_back ((writes_exactly old s v o t body (length out) p w).0 z) z

  -- so no two different values of the format are written alike
  pub writes_apart :
      (v' : HeaderValues) (o' : PacketValues) (t' : Lent) (body' out' : List ℕ) → Writable old s v o t body (length out) →
      Writable old s v' o' t' body' (length out') → written old s v o t body out ≡ written old s v' o' t' body' out' →
      given_packet v o t body ≡ given_packet v' o' t' body'
  writes_apart v' o' t' body' out' k j e =
      one_value s (given_packet v o t body) (given_packet v' o' t' body') k.range j.range
      (sym (written_is old s v o t body out (accepts old s v o t body (length out) k)) ∙ e
      ∙ written_is old s v' o' t' body' out' (accepts old s v' o' t' body' (length out') j))

-- and no two different headers, values of a packet, texts or bodies are
pub writes_one :
    (old : Bool) (s : Settings) (v v' : HeaderValues) (o o' : PacketValues) (t t' : Lent) (body body' out out' : List ℕ) →
    Writable old s v o t body (length out) → Writable old s v' o' t' body' (length out') →
    written old s v o t body out ≡ written old s v' o' t' body' out' → (v ≡ v') × ((o ≡ o') × ((t ≡ t') × (body ≡ body')))
writes_one old s v v' o o' t t' body body' out out' k j e =
    let p = written old s v o t body out in
    let q = written old s v' o' t' body' out' in
    let a =
    same_again p (read_packet s p) v o t body
    (writable_back old s v o t body out k (accepts old s v o t body (length out) k)) in
    let b =
    same_again q (read_packet s q) v' o' t' body'
    (writable_back old s v' o' t' body' out' j (accepts old s v' o' t' body' (length out') j)) in (
      sym a.0 ∙ ap (λ (x : List ℕ). again_header (read_packet s x)) e ∙ b.0,
      (
        sym a.1.0 ∙ ap (λ (x : List ℕ). again_packet (read_packet s x)) e ∙ b.1.0,
        (
          sym a.1.1.0 ∙ ap (λ (x : List ℕ). again_texts x (read_packet s x)) e ∙ b.1.1.0,
          sym a.1.1.1 ∙ ap (λ (x : List ℕ). again_body x (read_packet s x)) e ∙ b.1.1.1,
        ),
      ),
    )
