-- The values of a packet as the secondary header's field has them: the same octets, and in range exactly if they fit.
-- Assumes nothing.
use Prim.Native.Nat.{ℕ, ◌<◌}
use mathlib.Core.Path.{◌≡◌, ap}
use mathlib.Core.List.{List, ◌++◌, append_assoc}
use Rattle.octets.specs.Octets.{wide}
use Rattle.walk.specs.declared.Settings.{Settings}
use Rattle.walk.specs.declared.Bound.{Bound}
use Rattle.packet.specs.declared.Present.{Present}
use Rattle.packet.specs.Format.{Head, Values, segment, Opt, when, presence, fixed_octets, front_octets, counter_octets, back_octets, secondary_octets, HeadInRange}
use Rattle.format.proofs.FixedPart.{Fixed}
use Rattle.format.proofs.Secondary.{Optional, secondary_f}

abbrev pub flags_of_head : Head → Present
flags_of_head h =
    record {
      source = h.has_source;
      destination = h.has_destination;
      priority = h.has_priority;
      timestamp = h.has_timestamp;
      zone = h.has_zone;
      session_name = h.has_session_name;
      domain = h.has_domain;
      authentication = h.has_authentication;
    }

abbrev pub fixed_pair : Head → Fixed
fixed_pair h = (
  h.sdu,
  (
    h.area,
    (
      h.service,
      (
        h.operation,
        (
          h.version,
          ((h.error, (h.qos, (h.session, h.secondary_apid))), (h.qualifier, (h.transaction, flags_of_head h))),
        ),
      ),
    ),
  ),
)

abbrev pub optional_pair : Head → ℕ → Optional
optional_pair h c =
    (h.source, (h.destination, (c, (h.priority, (h.timestamp, (h.zone, (h.session_name, (h.domain, h.authentication))))))))

abbrev pub pair_of : Values → Fixed × Optional
pair_of v = (fixed_pair v.head, optional_pair v.head v.counter)

module _ (s : Settings) (bound : Bound) (p : List ℕ) (v : Values) where
  pub pair_form : secondary_octets s v ≡ (secondary_f s bound p (segment v.flags)).form (pair_of v)
  unfolding secondary_octets fixed_octets front_octets counter_octets back_octets presence
  pair_form =
      ap (λ (l : List ℕ). fixed_octets v.head ++ l)
      (append_assoc (when v.head.has_source (wide 1 v.head.source)) (when v.head.has_destination (wide 1 v.head.destination))
      (counter_octets v ++ back_octets s v.head))

  pub pair_fit :
      HeadInRange s v.head → Opt (segment v.flags) (λ x. x < 4294967296) 0 v.counter →
      (secondary_f s bound p (segment v.flags)).Fit (pair_of v)
  pair_fit h c = (
    (
      h.sdu,
      (
        h.area,
        (
          h.service,
          (
            h.operation,
            (
              h.version,
              ((h.error, (h.qos, (h.session, h.secondary_apid))), (h.qualifier, (h.transaction, tt))),
            ),
          ),
        ),
      ),
    ),
    (h.source, (h.destination, (c, (h.priority, (h.timestamp, (h.zone, (h.session_name, (h.domain, h.authentication)))))))),
  )

  module _ (f : (secondary_f s bound p (segment v.flags)).Fit (pair_of v)) where
    pub fit_counter : Opt (segment v.flags) (λ x. x < 4294967296) 0 v.counter
    fit_counter = f.1.1.1.0

    pub fit_head : v.head.packet_type < 2 → v.head.apid < 2047 → HeadInRange s v.head
    fit_head k a =
        record {
          packet_type = k;
          apid = a;
          sdu = f.0.0;
          area = f.0.1.0;
          service = f.0.1.1.0;
          operation = f.0.1.1.1.0;
          version = f.0.1.1.1.1.0;
          error = f.0.1.1.1.1.1.0.0;
          qos = f.0.1.1.1.1.1.0.1.0;
          session = f.0.1.1.1.1.1.0.1.1.0;
          secondary_apid = f.0.1.1.1.1.1.0.1.1.1;
          qualifier = f.0.1.1.1.1.1.1.0;
          transaction = f.0.1.1.1.1.1.1.1.0;
          source = f.1.0;
          destination = f.1.1.0;
          priority = f.1.1.1.1.0;
          timestamp = f.1.1.1.1.1.0;
          zone = f.1.1.1.1.1.1.0;
          session_name = f.1.1.1.1.1.1.1.0;
          domain = f.1.1.1.1.1.1.1.1.0;
          authentication = f.1.1.1.1.1.1.1.1.1;
        }

-- the pair and the values of the primary header and the body tell all values
pub same_values :
    (u v : Values) → pair_of u ≡ pair_of v → u.head.packet_type ≡ v.head.packet_type → u.head.apid ≡ v.head.apid → u.flags ≡ v.flags →
    u.sequence_count ≡ v.sequence_count → u.body ≡ v.body → u ≡ v
same_values u v q k a f c b =
    λ i.
    record {
      head =
          record {
            packet_type = k i;
            apid = a i;
            sdu = (q i).0.0;
            area = (q i).0.1.0;
            service = (q i).0.1.1.0;
            operation = (q i).0.1.1.1.0;
            version = (q i).0.1.1.1.1.0;
            error = (q i).0.1.1.1.1.1.0.0;
            qos = (q i).0.1.1.1.1.1.0.1.0;
            session = (q i).0.1.1.1.1.1.0.1.1.0;
            secondary_apid = (q i).0.1.1.1.1.1.0.1.1.1;
            qualifier = (q i).0.1.1.1.1.1.1.0;
            transaction = (q i).0.1.1.1.1.1.1.1.0;
            has_source = (q i).0.1.1.1.1.1.1.1.1.source;
            has_destination = (q i).0.1.1.1.1.1.1.1.1.destination;
            has_priority = (q i).0.1.1.1.1.1.1.1.1.priority;
            has_timestamp = (q i).0.1.1.1.1.1.1.1.1.timestamp;
            has_zone = (q i).0.1.1.1.1.1.1.1.1.zone;
            has_session_name = (q i).0.1.1.1.1.1.1.1.1.session_name;
            has_domain = (q i).0.1.1.1.1.1.1.1.1.domain;
            has_authentication = (q i).0.1.1.1.1.1.1.1.1.authentication;
            source = (q i).1.0;
            destination = (q i).1.1.0;
            priority = (q i).1.1.1.1.0;
            timestamp = (q i).1.1.1.1.1.0;
            zone = (q i).1.1.1.1.1.1.0;
            session_name = (q i).1.1.1.1.1.1.1.0;
            domain = (q i).1.1.1.1.1.1.1.1.0;
            authentication = (q i).1.1.1.1.1.1.1.1.1;
          };
      flags = f i;
      sequence_count = c i;
      counter = (q i).1.1.1.0;
      body = b i;
    }
