-- The optional fields of a PDU as one field, by the presence flags: the same fields as a packet's, within the PDU's own bound. Its steps are
-- the reading's, its octets the format's, and values in range fit.
-- Assumes nothing.
use Prim.Native.Nat.{ℕ}
use mathlib.Core.Path.{◌≡◌, refl}
use mathlib.Core.List.{List}
use Rattle.packet.specs.declared.Present.{Present}
use Rattle.format.proofs.Field.{Field, seq}
use Rattle.format.proofs.Secondary.{priority_f, timestamp_f, name_f, authentication_f, parts_f}
use Rattle.pdu.specs.Format.{Pdu, pdu_settings, variable_octets, InRange}
use Rattle.pdu.specs.Reading.{bound_of}

-- source id, destination id, priority, timestamp, zone, session name, domain, authentication id
abbrev pub Optional : Type 0
Optional = List ℕ × (List ℕ × (ℕ × (List ℕ × (List ℕ × (List ℕ × (List (List ℕ) × List ℕ))))))

abbrev pub pair_of : Pdu → Optional
pair_of v = (v.source, (v.destination, (v.priority, (v.timestamp, (v.zone, (v.session_name, (v.domain, v.authentication)))))))

module _ (p : List ℕ) where
  abbrev pub optionals_f : Present → Field (bound_of p) p Optional
  optionals_f h =
      seq (bound_of p) p (name_f pdu_settings (bound_of p) p h.source)
      (seq (bound_of p) p (name_f pdu_settings (bound_of p) p h.destination)
      (seq (bound_of p) p (priority_f pdu_settings (bound_of p) p h.priority)
      (seq (bound_of p) p (timestamp_f pdu_settings (bound_of p) p h.timestamp)
      (seq (bound_of p) p (name_f pdu_settings (bound_of p) p h.zone)
      (seq (bound_of p) p (name_f pdu_settings (bound_of p) p h.session_name)
      (seq (bound_of p) p (parts_f pdu_settings (bound_of p) p h.domain) (authentication_f pdu_settings (bound_of p) p h.authentication)))))))

  module _ (v : Pdu) where
    pub pair_form : variable_octets v ≡ (optionals_f v.has).form (pair_of v)
    unfolding variable_octets
    pair_form = refl

    pub pair_fit : InRange v → (optionals_f v.has).Fit (pair_of v)
    pair_fit r = (
      r.source,
      (r.destination, (r.priority, (r.timestamp, (r.zone, (r.session_name, (r.domain, r.authentication)))))),
    )
