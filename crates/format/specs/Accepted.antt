-- What those who store and join packets may rely on, of a packet that reading accepted: where its parts stand, how long they are,
-- what its key is.
-- Assumes nothing: these are definitions.
use Rattle.std.specs.Prelude.{ℕ, ◌+◌, ◌≤◌, ◌<◌, ◌≡◌, true, List, ◌++◌, length, get_or}
use Rattle.octets.specs.Octets.{part, wide}
use Rattle.walk.specs.declared.Settings.{Settings}
use Rattle.walk.specs.Walk.{header_end}
use Rattle.fields.specs.declared.Place.{Place}
use Rattle.fields.specs.Fields.{nowhere, parts_most}
use Rattle.packet.specs.Answer.{Header}
use Rattle.packet.specs.Format.{Values, primary_size, counter_width, segment, identification, front_octets, header_octets, secondary_octets, header_most, packet_most}
use Rattle.packet.specs.Reading.{segmented, counter_size}
use Rattle.packet.specs.Key.{counter_place, key_of}
use Rattle.format.specs.Told.{values_of, spots_of, InOrder}

-- the optional fields stand from here on, after the primary header and the fixed part of the secondary one
abbrev pub optional_place : ℕ
optional_place = 27

-- the octets of that fixed part
abbrev pub fixed_size : ℕ
fixed_size = 21

-- a content that stands after the fixed part and before the body
pub record Inside (h : Header) (a : Place) : Type 0 where
  pub low : optional_place ≤ a.at
  pub top : a.at + a.length ≤ h.body.at

-- the answer h of reading p, no refusal
pub record Accepted (s : Settings) (p : List ℕ) (h : Header) : Type 0 where
  -- a packet has at most 65,542 octets
  pub packet_top : length p ≤ packet_most
  -- the body stands after the fixed part
  pub body_low : optional_place ≤ h.body.at
  -- and within the header's limit
  pub body_top : h.body.at ≤ header_end
  -- it goes to the packet's end
  pub body_end : h.body.at + h.body.length ≡ length p
  -- before it stand the primary header, H octets and the counter
  pub body_place : primary_size + h.h + counter_size p ≡ h.body.at
  -- a segmented packet has some body
  pub body_some : segmented p ≡ true → 1 ≤ h.body.length
  -- H counts the fixed part
  pub h_low : fixed_size ≤ h.h
  -- with the counter it is at most 256
  pub h_top : h.h + counter_size p ≤ header_most
  -- H is the octets of the header without its counter
  pub h_is : h.h ≡ length (header_octets s (values_of p h).head)
  -- the sequence flags that it tells are the packet's
  pub segments : segment (values_of p h).flags ≡ segmented p
  -- the contents stand one after the other, after the fixed part and before the body
  pub order : InOrder optional_place (spots_of h) h.body.at
  -- so each stands there: the timestamp
  pub timestamp : h.has.timestamp ≡ true → Inside h h.texts.timestamp
  -- which has T octets
  pub timestamp_long : h.has.timestamp ≡ true → h.texts.timestamp.length ≡ s.t
  -- the network zone
  pub zone : h.has.zone ≡ true → Inside h h.texts.zone
  -- with one the header is of the withdrawn kind, and else it is not
  pub withdrawn : h.withdrawn ≡ h.has.zone
  -- the session name
  pub session_name : h.has.session_name ≡ true → Inside h h.texts.session_name
  -- at most sixteen domain parts
  pub parts_most_lem : h.texts.count ≤ parts_most
  -- in sixteen places
  pub parts_all : length h.texts.parts ≡ parts_most
  -- each part that is there
  pub parts : (k : ℕ) → k < h.texts.count → Inside h (get_or h.texts.parts k nowhere)
  -- the authentication id
  pub authentication : h.has.authentication ≡ true → Inside h h.texts.authentication
  -- the key is the identification and the secondary header without its counter
  pub key : key_of p h ≡ identification (values_of p h).head ++ header_octets s (values_of p h).head
  -- the counter stands at its place
  pub counter : segmented p ≡ true → part p (counter_place h) counter_width ≡ wide counter_width (values_of p h).counter
  -- and ends before the body
  pub counter_end : counter_place h + counter_size p ≤ h.body.at

-- the answer h of reading p, the octets of the values v
pub record Written (s : Settings) (v : Values) (p : List ℕ) (h : Header) : Type 0 where
  -- it is accepted, with all of the above
  pub accepted : Accepted s p h
  -- the packet's flags are those of the values
  pub segments : segmented p ≡ segment v.flags
  -- its key is the identification and the secondary header without its counter
  pub key : key_of p h ≡ identification v.head ++ header_octets s v.head
  -- H is the octets of that header
  pub h_is : h.h ≡ length (header_octets s v.head)
  -- the body stands after the primary and the secondary header
  pub body_at : h.body.at ≡ primary_size + length (secondary_octets s v)
  -- and is as long as the values' body
  pub body_long : h.body.length ≡ length v.body
  -- the counter stands after the fixed part, source id and destination id
  pub counter_place_lem : counter_place h ≡ optional_place + length (front_octets v.head)
  -- where there is one
  pub counter : segment v.flags ≡ true → part p (counter_place h) counter_width ≡ wide counter_width v.counter
