-- A PDU's values: the writer's checks after 22, 13 and 28 hold exactly if the values are in range and the domain's lengths add up.
-- Assumes nothing.
use Prim.Native.Nat.{ℕ, ◌≤◌}
use mathlib.Core.Path.{◌≡◌, refl, ap, sym, ◌∙◌}
use mathlib.Core.Bool.{Bool, true, false}
use mathlib.Core.List.{List, [], ◌++◌}
use native.Mathlib.Omega.{arith}
use lib.ListN.{length}
use borrow.Author.Tests.{leb-true, eqb-true, le-leb, eq-eqb}
use Rattle.octets.specs.Octets.{Octets, most8, most16, most32}
use Rattle.octets.proofs.Laying.{empty}
use Rattle.utf8.specs.Text.{Text}
use Rattle.utf8.proofs.Laws.{is_text_lem}
use Rattle.fields.specs.Fields.{parts_most}
use Rattle.fields.specs.Form.{split}
use Rattle.fields.proofs.Written.{length_split}
use Rattle.packet.specs.Format.{Opt, Each}
use Rattle.write.specs.Given.{Lent, lengths_fit, sum, utf8_checks}
use Rattle.write.specs.Lending.{Bits64, LentOctets}
use Rattle.write.proofs.Tests.{AllHold, hold_append, hold_first, hold_second}
use Rattle.two_way.proofs.Lists.{sum_none}
use Rattle.two_way.proofs.Fits.{number_opt, exact_opt, domain_opt, each_text, opt_number_lem, opt_exact, opt_lengths, opt_utf8, opt_each}
use Rattle.pdu.specs.declared.PduValues.{PduValues}
use Rattle.pdu.specs.Format.{timestamp_size, rest_octets, InRange}
use Rattle.pdu.specs.Given.{pdu_of, empty_unless, qos_most, session_most, name_checks, flag_checks, text_checks, value_checks, word_checks}

-- ---- octets that may be absent, of any number if they are there

empty_opt : (P : List ℕ → Type 0) (b : Bool) (x : List ℕ) → (b ≡ true → P x) → empty_unless b (length x) ≡ true → Opt b P [] x
empty_opt P true x o h = o refl
empty_opt P false x o h = empty x (eqb-true (length x) 0 h)

opt_empty : (P : List ℕ → Type 0) (b : Bool) (x : List ℕ) → Opt b P [] x → empty_unless b (length x) ≡ true
opt_empty P true x h = refl
opt_empty P false x h = eq-eqb (length x) 0 (ap length h)

-- the domain's lengths add up, also where there is none
empty_sum : (b : Bool) (ns x : List ℕ) → empty_unless b (length x) ≡ true → lengths_fit b ns (length x) ≡ true → sum ns ≡ length x
empty_sum true ns x g h = eqb-true (sum ns) (length x) h
empty_sum false ns x g h = sum_none ns (eqb-true (length ns) 0 h) ∙ sym (eqb-true (length x) 0 g)

sum_empty :
    (b : Bool) (ns x : List ℕ) → sum ns ≡ length x → Opt b (λ y. (length y ≤ parts_most) × Each Text y) [] (split ns x) →
    empty_unless b (length x) ≡ true
sum_empty true ns x e h = refl
sum_empty false ns x e h = eq-eqb (length x) 0 (sym e ∙ sum_none ns (sym (length_split ns x) ∙ ap length h))

module _ (v : PduValues) (source destination : List ℕ) (t : Lent) where
  abbrev words : List Bool
  words = word_checks source destination t.zone t.session_name (split t.lengths t.domain)

  -- ---- from the checks to the range

  module _ (a : AllHold (value_checks v source destination t)) where
    names : AllHold (name_checks v)
    unfolding value_checks
    names = hold_first (name_checks v) (flag_checks v ++ text_checks v.has source destination t) a

    rest : AllHold (flag_checks v ++ text_checks v.has source destination t)
    unfolding value_checks
    rest = hold_second (name_checks v) (flag_checks v ++ text_checks v.has source destination t) a

    flags : AllHold (flag_checks v)
    flags = hold_first (flag_checks v) (text_checks v.has source destination t) rest

    texts : AllHold (text_checks v.has source destination t)
    texts = hold_second (flag_checks v) (text_checks v.has source destination t) rest

    pub checks_sum : sum t.lengths ≡ length t.domain
    unfolding AllHold text_checks
    checks_sum = empty_sum v.has.domain t.lengths t.domain texts.1.1.1.1.1.0 texts.1.1.1.1.1.1.0

    pub checks_range :
        (body : List ℕ) → AllHold words → length t.lengths ≤ parts_most → LentOctets t body → Bits64 v.transaction →
        length (rest_octets (pdu_of v source destination t body)) ≤ most32 → InRange (pdu_of v source destination t body)
    unfolding AllHold name_checks flag_checks text_checks word_checks utf8_checks pdu_of
    checks_range body u l p w n =
        let m = names in
        let f = flags in
        let x = texts in
        record {
          sdu = leb-true v.sdu 21 m.0;
          area = omega (arith, leb-true v.area most16 m.1.0);
          service = omega (arith, leb-true v.service most16 m.1.1.0);
          operation = omega (arith, leb-true v.operation most16 m.1.1.1.0);
          version = omega (arith, leb-true v.version most8 m.1.1.1.1.0);
          error = omega (arith, leb-true v.error 1 f.0);
          qos = omega (arith, leb-true v.qos qos_most f.1.0);
          session = omega (arith, leb-true v.session session_most f.1.1.0);
          transaction = w;
          encoding = omega (arith, leb-true v.encoding most8 f.1.1.1.0);
          source = empty_opt Text v.has.source source (λ e. (is_text_lem source).0 u.0) x.0;
          destination = empty_opt Text v.has.destination destination (λ e. (is_text_lem destination).0 u.1.0) x.1.0;
          priority = number_opt v.has.priority v.priority most32 4294967296 refl f.1.1.1.1.0;
          timestamp = exact_opt v.has.timestamp t.timestamp timestamp_size (λ e. p.timestamp) x.1.1.0;
          zone = empty_opt Text v.has.zone t.zone (λ e. (is_text_lem t.zone).0 u.1.1.0) x.1.1.1.0;
          session_name =
              empty_opt Text v.has.session_name t.session_name (λ e. (is_text_lem t.session_name).0 u.1.1.1.0) x.1.1.1.1.0;
          domain =
              domain_opt v.has.domain t.lengths t.domain (each_text (split t.lengths t.domain) u.1.1.1.1.0) l
              x.1.1.1.1.1.1.0;
          authentication = empty_opt Octets v.has.authentication t.authentication (λ e. p.authentication) x.1.1.1.1.1.1.1.0;
          body = p.body;
          variable = n;
        }

  -- ---- and back

  module _ (body : List ℕ) (r : InRange (pdu_of v source destination t body)) (e : sum t.lengths ≡ length t.domain) where
    names_hold : AllHold (name_checks v)
    unfolding AllHold name_checks pdu_of
    names_hold = (
      le-leb v.sdu 21 r.sdu,
      (
        le-leb v.area most16 (omega (arith, r.area)),
        (
          le-leb v.service most16 (omega (arith, r.service)),
          (le-leb v.operation most16 (omega (arith, r.operation)), (le-leb v.version most8 (omega (arith, r.version)), tt)),
        ),
      ),
    )

    flags_hold : AllHold (flag_checks v)
    unfolding AllHold flag_checks pdu_of
    flags_hold = (
      le-leb v.error 1 (omega (arith, r.error)),
      (
        le-leb v.qos qos_most (omega (arith, r.qos)),
        (
          le-leb v.session session_most (omega (arith, r.session)),
          (
            le-leb v.encoding most8 (omega (arith, r.encoding)),
            (opt_number_lem v.has.priority v.priority most32 4294967296 refl r.priority, tt),
          ),
        ),
      ),
    )

    texts_hold : AllHold (text_checks v.has source destination t)
    unfolding AllHold text_checks pdu_of
    texts_hold = (
      opt_empty Text v.has.source source r.source,
      (
        opt_empty Text v.has.destination destination r.destination,
        (
          opt_exact v.has.timestamp t.timestamp timestamp_size r.timestamp,
          (
            opt_empty Text v.has.zone t.zone r.zone,
            (
              opt_empty Text v.has.session_name t.session_name r.session_name,
              (
                sum_empty v.has.domain t.lengths t.domain e r.domain,
                (
                  opt_lengths t.lengths t.domain e v.has.domain r.domain,
                  (opt_empty Octets v.has.authentication t.authentication r.authentication, tt),
                ),
              ),
            ),
          ),
        ),
      ),
    )

    pub range_checks : AllHold (value_checks v source destination t)
    unfolding value_checks
    range_checks =
        hold_append (name_checks v) (flag_checks v ++ text_checks v.has source destination t) names_hold
        (hold_append (flag_checks v) (text_checks v.has source destination t) flags_hold texts_hold)

    pub range_words : AllHold words
    unfolding AllHold word_checks utf8_checks pdu_of
    range_words = (
      opt_utf8 v.has.source source r.source,
      (
        opt_utf8 v.has.destination destination r.destination,
        (
          opt_utf8 v.has.zone t.zone r.zone,
          (
            opt_utf8 v.has.session_name t.session_name r.session_name,
            (opt_each v.has.domain (split t.lengths t.domain) r.domain, tt),
          ),
        ),
      ),
    )
