-- How many parts a domain has that was read: at most sixteen, and none if it is absent; for a message and for a PDU, accepted or not.
-- Assumes nothing.
use Prim.Native.Nat.{ℕ, ◌≤◌}
use mathlib.Core.Path.{◌≡◌, refl}
use mathlib.Core.Bool.{Bool, true, false}
use mathlib.Core.List.{List}
use native.Mathlib.Omega.{arith}
use lib.ListN.{length, length-replicate}
use Rattle.octets.specs.Octets.{pick}
use Rattle.walk.specs.declared.Settings.{Settings}
use Rattle.walk.specs.declared.Bound.{Bound}
use Rattle.walk.specs.Walk.{Reading, going}
use Rattle.fields.specs.Fields.{nowhere, parts_most, opt, no_parts, domain}
use Rattle.packet.specs.declared.Present.{Present}
use Rattle.packet.specs.Answer.{Header as PacketHeader}
use Rattle.packet.specs.Reading.{texts_of, refused_header as refused_packet}
use Rattle.format.proofs.Domain.{domain_count, domain_all}
use Rattle.pdu.specs.declared.Header.{Header as PduHeader}
use Rattle.pdu.specs.Reading.{read_pdu, accepted_header, refused_header, refusal_of as pdu_refusal, ended as pdu_ended}
use Rattle.carry.specs.Inner.{Few}
use Rattle.carry.specs.Message.{read_message, accepted_message, refusal_of, ended}

opt_count :
    (b : Bool) (s : Settings) (o : Bound) (p : List ℕ) (w : Reading) → (opt b (no_parts 0) (domain s o p) w).value.count ≤ parts_most
opt_count true s o p w = domain_count s o p w
opt_count false s o p w = omega arith

opt_none :
    (b : Bool) (s : Settings) (o : Bound) (p : List ℕ) (w : Reading) → b ≡ false → (opt b (no_parts 0) (domain s o p) w).value.count ≡ 0
opt_none true s o p w e = let z : ◌≡◌ {A = ℕ} 0 1 = cc in absurd (omega arith)
opt_none false s o p w e = refl

opt_all :
    (b : Bool) (s : Settings) (o : Bound) (p : List ℕ) (w : Reading) → length (opt b (no_parts 0) (domain s o p) w).value.places ≡ parts_most
opt_all true s o p w = domain_all s o p w
opt_all false s o p w = length-replicate 16 nowhere

module _ (s : Settings) (o : Bound) (has : Present) (p : List ℕ) (w : Reading) where
  texts_few : Few (texts_of s o has p w).value
  unfolding texts_of
  texts_few = (opt_count has.domain s o p _, opt_all has.domain s o p _)

  texts_none : has.domain ≡ false → (texts_of s o has p w).value.count ≡ 0
  unfolding texts_of
  texts_none e = opt_none has.domain s o p _ e

-- a message
abbrev pub FewPacket : PacketHeader → Type 0
FewPacket h = Few h.texts × (h.has.domain ≡ false → h.texts.count ≡ 0)

pub accepted_few : (s : Settings) (e : ℕ) (m : List ℕ) → FewPacket (accepted_message s e m)
unfolding accepted_message
accepted_few s e m = (texts_few s _ _ m _, texts_none s _ _ m _)

pub message_few : (s : Settings) (e : ℕ) (m : List ℕ) → FewPacket (read_message s e m)
unfolding read_message refused_packet
message_few s e m = go (going (ended s e m))
  where
    go : (b : Bool) → FewPacket (pick b (accepted_message s e m) (refused_packet (refusal_of (ended s e m))))
    go true = accepted_few s e m
    go false = ((omega arith, length-replicate 16 nowhere), λ q. refl)

-- a PDU
abbrev pub FewPdu : PduHeader → Type 0
FewPdu h = Few h.texts × (h.has.domain ≡ false → h.texts.count ≡ 0)

accepted_pdu : (p : List ℕ) → FewPdu (accepted_header p)
unfolding accepted_header
accepted_pdu p = (texts_few _ _ _ p _, texts_none _ _ _ p _)

pub pdu_few : (p : List ℕ) → FewPdu (read_pdu p)
unfolding read_pdu refused_header
pdu_few p = go (going (pdu_ended p))
  where
    go : (b : Bool) → FewPdu (pick b (accepted_header p) (refused_header (pdu_refusal p (pdu_ended p))))
    go true = accepted_pdu p
    go false = ((omega arith, length-replicate 16 nowhere), λ q. refl)
