-- A header's values: the writer's checks after 22, 13 and 28 hold exactly if the header is in range and the domain's lengths add up.
-- That a text has at most 65,535 octets follows from the header's limit.
-- Assumes nothing.
use Prim.Native.Nat.{ℕ, ◌+◌, ◌≤◌, ◌<◌}
use mathlib.Core.Path.{◌≡◌, refl}
use mathlib.Core.Bool.{Bool, true, false}
use mathlib.Core.List.{List, ◌++◌}
use native.Mathlib.Omega.{arith}
use lib.ListN.{length, length-append}
use borrow.Author.Tests.{leb-true, ltb-true, le-leb, lt-ltb}
use Rattle.octets.specs.Octets.{pick, Octets, most8, most16, most32}
use Rattle.utf8.specs.Text.{Text}
use Rattle.utf8.proofs.Laws.{is_text_lem}
use Rattle.walk.specs.declared.Settings.{Settings}
use Rattle.fields.specs.Fields.{parts_most}
use Rattle.fields.specs.Form.{uinteger_octets, part_octets, joined, domain_octets, split}
use Rattle.packet.specs.Format.{Head, header_octets, text_most, HeadInRange}
use Rattle.write.specs.declared.HeaderValues.{HeaderValues}
use Rattle.write.specs.Given.{Lent, head_of, sum, name_checks, routing_checks, id_checks, text_checks, utf8_checks, header_checks}
use Rattle.write.proofs.Tests.{AllHold, hold_append, hold_first, hold_second}
use Rattle.write.proofs.Sizes.{header_length_lem}
use Rattle.two_way.proofs.Lists.{joined_least}
use Rattle.two_way.proofs.Fits.{number_opt, text_opt, exact_opt, domain_opt, fits_sum, each_text}
use Rattle.two_way.proofs.Fits.{opt_number_lem, opt_text, opt_exact, opt_lengths, opt_domain, opt_utf8, opt_each}

-- what is there of octets of any value is octets
pub record PlainTexts (h : Head) : Type 0 where
  pub timestamp : h.has_timestamp ≡ true → Octets h.timestamp
  pub authentication : h.has_authentication ≡ true → Octets h.authentication

-- ---- a text that is there is no longer than the header

pick_true : (b : Bool) (n : ℕ) → b ≡ true → pick b n 0 ≡ n
pick_true true n e = refl
pick_true false n e = let z : ◌≡◌ {A = ℕ} 0 1 = cc in absurd (omega arith)

module _ (s : Settings) (h : Head) where
  zone_long : h.has_zone ≡ true → length h.zone ≤ length (header_octets s h)
  zone_long e = omega (arith, header_length_lem s h, pick_true h.has_zone (length (uinteger_octets s (length h.zone)) + length h.zone) e)

  name_long : h.has_session_name ≡ true → length h.session_name ≤ length (header_octets s h)
  name_long e = omega (arith, header_length_lem s h, pick_true h.has_session_name (length (uinteger_octets s (length h.session_name)) + length h.session_name) e)

  authentication_long : h.has_authentication ≡ true → length h.authentication ≤ length (header_octets s h)
  authentication_long e =
      omega (
        arith,
        header_length_lem s h,
        pick_true h.has_authentication (length (uinteger_octets s (length h.authentication)) + length h.authentication) e,
      )

  domain_long : h.has_domain ≡ true → length (joined (part_octets s) h.domain) ≤ length (header_octets s h)
  unfolding domain_octets
  domain_long e =
      omega (
        arith,
        header_length_lem s h,
        pick_true h.has_domain (length (domain_octets s h.domain)) e,
        length-append (uinteger_octets s (length h.domain)) (joined (part_octets s) h.domain),
      )

module _ (s : Settings) (v : HeaderValues) (t : Lent) where
  -- the checks after 28
  abbrev pub texts28 : List Bool
  texts28 = utf8_checks t.zone t.session_name (split t.lengths t.domain)

  -- ---- from the checks to the range

  module _ (a : AllHold (header_checks s v t)) where
    names : AllHold (name_checks v)
    unfolding header_checks
    names = hold_first (name_checks v) (routing_checks v ++ (id_checks v ++ text_checks s v t)) a

    behind : AllHold (routing_checks v ++ (id_checks v ++ text_checks s v t))
    unfolding header_checks
    behind = hold_second (name_checks v) (routing_checks v ++ (id_checks v ++ text_checks s v t)) a

    routing : AllHold (routing_checks v)
    routing = hold_first (routing_checks v) (id_checks v ++ text_checks s v t) behind

    last : AllHold (id_checks v ++ text_checks s v t)
    last = hold_second (routing_checks v) (id_checks v ++ text_checks s v t) behind

    ids : AllHold (id_checks v)
    ids = hold_first (id_checks v) (text_checks s v t) last

    texts : AllHold (text_checks s v t)
    texts = hold_second (id_checks v) (text_checks s v t) last

    pub checks_sum : sum t.lengths ≡ length t.domain
    unfolding AllHold text_checks
    checks_sum = fits_sum v.has.domain t.lengths t.domain texts.1.1.1.0 texts.1.1.1.1.0

    pub checks_range :
        AllHold texts28 → length t.lengths ≤ parts_most → v.transaction < 18446744073709551616 → PlainTexts (head_of v t) →
        HeadInRange s (head_of v t)
    unfolding AllHold name_checks routing_checks id_checks text_checks utf8_checks head_of
    checks_range u l w p =
        let n = names in
        let r = routing in
        let i = ids in
        let x = texts in
        record {
          packet_type = omega (arith, leb-true v.packet_type 1 n.0);
          apid = ltb-true v.apid.0 2047 n.1.0;
          sdu = leb-true v.sdu 21 n.1.1.0;
          area = omega (arith, leb-true v.area most16 n.1.1.1.0);
          service = omega (arith, leb-true v.service most16 n.1.1.1.1.0);
          operation = omega (arith, leb-true v.operation most16 n.1.1.1.1.1.0);
          version = omega (arith, leb-true v.version most8 n.1.1.1.1.1.1.0);
          error = omega (arith, leb-true v.error 1 r.0);
          qos = omega (arith, leb-true v.qos 3 r.1.0);
          session = leb-true v.session 2 r.1.1.0;
          secondary_apid = omega (arith, leb-true v.secondary_apid.0 2047 r.1.1.1.0);
          qualifier = omega (arith, leb-true v.qualifier most16 r.1.1.1.1.0);
          transaction = w;
          source = number_opt v.has.source v.source most8 256 refl i.0;
          destination = number_opt v.has.destination v.destination most8 256 refl i.1.0;
          priority = number_opt v.has.priority v.priority most32 4294967296 refl i.1.1.0;
          timestamp = exact_opt v.has.timestamp t.timestamp s.t p.timestamp x.0;
          zone = text_opt Text v.has.zone t.zone (λ e. (is_text_lem t.zone).0 u.0) x.1.0;
          session_name = text_opt Text v.has.session_name t.session_name (λ e. (is_text_lem t.session_name).0 u.1.0) x.1.1.0;
          domain =
              domain_opt v.has.domain t.lengths t.domain (each_text (split t.lengths t.domain) u.1.1.0) l x.1.1.1.1.0;
          authentication = text_opt Octets v.has.authentication t.authentication p.authentication x.1.1.1.1.1.0;
        }

  -- ---- and back

  module _
      (r : HeadInRange s (head_of v t))
      (e : sum t.lengths ≡ length t.domain)
      (l : length (header_octets s (head_of v t)) ≤ text_most) where
    names_hold : AllHold (name_checks v)
    unfolding AllHold name_checks head_of
    names_hold = (
      le-leb v.packet_type 1 (omega (arith, r.packet_type)),
      (
        lt-ltb v.apid.0 2047 r.apid,
        (
          le-leb v.sdu 21 r.sdu,
          (
            le-leb v.area most16 (omega (arith, r.area)),
            (
              le-leb v.service most16 (omega (arith, r.service)),
              (le-leb v.operation most16 (omega (arith, r.operation)), (le-leb v.version most8 (omega (arith, r.version)), tt)),
            ),
          ),
        ),
      ),
    )

    routing_hold : AllHold (routing_checks v)
    unfolding AllHold routing_checks head_of
    routing_hold = (
      le-leb v.error 1 (omega (arith, r.error)),
      (
        le-leb v.qos 3 (omega (arith, r.qos)),
        (
          le-leb v.session 2 r.session,
          (le-leb v.secondary_apid.0 2047 (omega (arith, r.secondary_apid)), (le-leb v.qualifier most16 (omega (arith, r.qualifier)), tt)),
        ),
      ),
    )

    ids_hold : AllHold (id_checks v)
    unfolding AllHold id_checks head_of
    ids_hold = (
      opt_number_lem v.has.source v.source most8 256 refl r.source,
      (
        opt_number_lem v.has.destination v.destination most8 256 refl r.destination,
        (opt_number_lem v.has.priority v.priority most32 4294967296 refl r.priority, tt),
      ),
    )

    domain_most : v.has.domain ≡ true → length t.domain ≤ text_most
    unfolding head_of
    domain_most h = omega (arith, joined_least s t.lengths t.domain e, domain_long s (head_of v t) h)

    texts_hold : AllHold (text_checks s v t)
    unfolding AllHold text_checks head_of
    texts_hold = (
      opt_exact v.has.timestamp t.timestamp s.t r.timestamp,
      (
        opt_text Text v.has.zone t.zone r.zone (λ h. omega (arith, zone_long s (head_of v t) h)),
        (
          opt_text Text v.has.session_name t.session_name r.session_name (λ h. omega (arith, name_long s (head_of v t) h)),
          (
            opt_domain t.lengths t.domain e v.has.domain r.domain domain_most,
            (
              opt_lengths t.lengths t.domain e v.has.domain r.domain,
              (
                opt_text Octets v.has.authentication t.authentication r.authentication
                    (λ h. omega (arith, authentication_long s (head_of v t) h)),
                tt,
              ),
            ),
          ),
        ),
      ),
    )

    pub range_checks : AllHold (header_checks s v t)
    unfolding header_checks
    range_checks =
        hold_append (name_checks v) (routing_checks v ++ (id_checks v ++ text_checks s v t)) names_hold
        (hold_append (routing_checks v) (id_checks v ++ text_checks s v t) routing_hold
        (hold_append (id_checks v) (text_checks s v t) ids_hold texts_hold))

    pub range_utf8 : AllHold texts28
    unfolding AllHold utf8_checks head_of
    range_utf8 = (
      opt_utf8 v.has.zone t.zone r.zone,
      (
        opt_utf8 v.has.session_name t.session_name r.session_name,
        (opt_each v.has.domain (split t.lengths t.domain) r.domain, tt),
      ),
    )
