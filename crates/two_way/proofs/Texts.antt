-- The timestamp, the authentication id and the body of a packet are octets if what is lent is, or if the packet is.
-- Assumes nothing.
use Prim.Native.Nat.{ℕ, ◌+◌, ◌-◌, ◌*◌}
use mathlib.Core.Path.{◌≡◌}
use mathlib.Core.Bool.{Bool, true, false}
use mathlib.Core.List.{List}
use native.Mathlib.Omega.{arith}
use lib.ListN.{length}
use Rattle.octets.specs.Octets.{Octets, wide}
use Rattle.walk.specs.declared.Settings.{Settings}
use Rattle.fields.specs.Form.{uinteger_octets, blob_octets, text_octets, domain_octets}
use Rattle.packet.specs.Format.{Head, Values, when, identification, fixed_octets, front_octets, counter_octets, back_octets, secondary_octets, data_octets, octets_of}
use Rattle.write.specs.declared.HeaderValues.{HeaderValues}
use Rattle.write.specs.Given.{Lent, head_of}
use Rattle.write.specs.Lending.{LentOctets}
use Rattle.two_way.proofs.Lists.{octets_left, octets_right}
use Rattle.two_way.proofs.Headers.{PlainTexts}

-- by what is lent
pub lent_texts : (v : HeaderValues) (t : Lent) (body : List ℕ) → LentOctets t body → PlainTexts (head_of v t)
unfolding head_of
lent_texts v t body p =
    record {
      timestamp = λ e. p.timestamp;
      authentication = λ e. p.authentication;
    }

-- by the packet
when_octets : (b : Bool) (l : List ℕ) → Octets (when b l) → b ≡ true → Octets l
when_octets true l o e = o
when_octets false l o e = let z : ◌≡◌ {A = ℕ} 0 1 = cc in absurd (omega arith)

blob_octets_lem : (s : Settings) (x : List ℕ) → Octets (blob_octets s x) → Octets x
unfolding blob_octets
blob_octets_lem s x o = octets_right (uinteger_octets s (length x)) x o

back_texts : (s : Settings) (h : Head) → Octets (back_octets s h) → PlainTexts h
unfolding back_octets
back_texts s h o =
    let a = octets_right (when h.has_priority (uinteger_octets s h.priority)) _ o in
    let b = octets_right (when h.has_timestamp h.timestamp) _ a in
    let c = octets_right (when h.has_zone (text_octets s h.zone)) _ b in
    let d = octets_right (when h.has_session_name (text_octets s h.session_name)) _ c in
    let f = octets_right (when h.has_domain (domain_octets s h.domain)) _ d in
    record {
      timestamp = λ e. when_octets h.has_timestamp h.timestamp (octets_left (when h.has_timestamp h.timestamp) _ a) e;
      authentication =
          λ e. blob_octets_lem s h.authentication (when_octets h.has_authentication (blob_octets s h.authentication) f e);
    }

data_octets_lem : (s : Settings) (v : Values) → Octets (octets_of s v) → Octets (data_octets s v)
unfolding octets_of
data_octets_lem s v o =
    octets_right (wide 2 (length (data_octets s v) - 1)) (data_octets s v)
    (octets_right (wide 2 (v.flags * 16384 + v.sequence_count)) _ (octets_right (identification v.head) _ o))

pub packet_body : (s : Settings) (v : Values) → Octets (octets_of s v) → Octets v.body
unfolding data_octets
packet_body s v o = octets_right (secondary_octets s v) v.body (data_octets_lem s v o)

pub packet_texts : (s : Settings) (v : Values) → Octets (octets_of s v) → PlainTexts v.head
unfolding data_octets secondary_octets
packet_texts s v o =
    back_texts s v.head
    (octets_right (counter_octets v) (back_octets s v.head)
    (octets_right (front_octets v.head) _
    (octets_right (fixed_octets v.head) _ (octets_left (secondary_octets s v) v.body (data_octets_lem s v o)))))
