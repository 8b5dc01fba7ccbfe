-- What is ready for the short way passes every test that the long way makes on values.
-- Assumes nothing.
use Prim.Native.Nat.{ℕ, ◌≤◌}
use mathlib.Core.Path.{◌≡◌, refl, ap, ◌∙◌}
use mathlib.Core.Logic.{⊎_elim}
use mathlib.Core.Bool.{true, false, not}
use mathlib.Core.List.{List, [], ◌∷◌}
use native.Mathlib.Omega.{arith}
use lib.ListN.{length, take, drop}
use lib.Dec.{eqb}
use borrow.Author.Tests.{le-leb, lt-ltb, eq-eqb, ne_eqb}
use Rattle.octets.specs.Octets.{octet_at as number_at}
use Rattle.octets.proofs.Lists.{below_or}
use Rattle.octets.proofs.Laying.{empty}
use Rattle.utf8.specs.Test.{is_text, accepts, ended, all_single}
use Rattle.utf8.proofs.Laws.{is_text_lem}
use Rattle.utf8.proofs.Single.{single_text, single_take, single_drop}
use Rattle.walk.specs.declared.Settings.{Settings}
use Rattle.walk.specs.declared.Tested.{Tested}
use Rattle.walk.specs.Walk.{none_failed}
use Rattle.fields.specs.Form.{split, all_text}
use Rattle.write.specs.Given.{Lent, number_fits, name_checks, routing_checks, id_checks, text_checks, header_checks}
use Rattle.write.specs.Given.{packet_checks, utf8_checks}
use Rattle.write.specs.Writing.{settings_test, zone_test, parts_test, text_test, value_refusal}
use Rattle.write.proofs.Tests.{unless_true, AllHold, unless_all_true, hold_append}
use Rattle.flat.specs.Given.{header_of, packet_of, present_of}
use Rattle.laying.specs.Short.{InLimits, Ready, Owned}

-- parts of octets that are characters by themselves
single_parts : (ns x : List ℕ) → all_single x ≡ true → all_text (split ns x) ≡ true
unfolding split all_text
single_parts [] x h = refl
single_parts (n ∷ ns) x h =
    rw ((is_text_lem (take n x)).1 (single_text (take n x) (single_take n x h))) (single_parts ns (drop n x) (single_drop n x h))

-- a presence flag is 1 or 0
pub flagged : {A : Type 0} (f : ℕ) → f ≤ 1 → (f ≡ 1 → A) → (f ≡ 0 → A) → A
flagged f l one none = ⊎_elim (λ h. none (omega arith)) (λ h. one (omega arith)) (below_or f 1)

pub down : {f : ℕ} → f ≡ 0 → eqb f 1 ≡ false
down {f} z = ne_eqb f 1 (λ e. omega arith)

-- ---- 22

number_held : {f x m : ℕ} → f ≤ 1 → (f ≡ 0 → x ≡ 0) → x ≤ m → number_fits (eqb f 1) x m ≡ true
number_held {f} {x} {m} l z k =
    flagged f l (λ e. rw (eq-eqb f 1 e) (le-leb x m k)) (λ e. rw (down e) (eq-eqb x 0 (z e)))

module _ {s : Settings} {h : List ℕ} {t : Lent} (r : Ready s h t) where
  abbrev lim : InLimits h
  lim = r.numbers.limited

  names_hold : AllHold (name_checks (header_of h))
  unfolding name_checks header_of AllHold
  names_hold = (
    le-leb (number_at h 0) 1 lim.packet_type,
    (
      lt-ltb (number_at h 1) 2047 (omega (arith, lim.apid)),
      (
        le-leb (number_at h 2) 21 lim.sdu,
        (
          le-leb (number_at h 3) 65535 lim.area,
          (
            le-leb (number_at h 4) 65535 lim.service,
            (
              le-leb (number_at h 5) 65535 lim.operation,
              (le-leb (number_at h 6) 255 lim.version, tt),
            ),
          ),
        ),
      ),
    ),
  )

  routing_holds : AllHold (routing_checks (header_of h))
  unfolding routing_checks header_of AllHold
  routing_holds = (
    le-leb (number_at h 7) 1 lim.error,
    (
      le-leb (number_at h 8) 3 lim.qos,
      (
        le-leb (number_at h 9) 2 lim.session,
        (
          le-leb (number_at h 10) 2047 lim.secondary_apid,
          (le-leb (number_at h 11) 65535 lim.qualifier, tt),
        ),
      ),
    ),
  )

  ids_hold : AllHold (id_checks (header_of h))
  unfolding id_checks header_of present_of AllHold
  ids_hold = (
    number_held lim.has_source r.numbers.source lim.source,
    (
      number_held lim.has_destination r.numbers.destination lim.destination,
      (number_held lim.has_priority r.numbers.priority lim.priority, tt),
    ),
  )

  texts_hold : AllHold (text_checks s (header_of h) t)
  unfolding text_checks header_of present_of AllHold
  texts_hold = (
    r.texts.timestamp,
    (
      number_held {f = number_at h 17} {m = 65535} (omega (arith, lim.has_zone)) (λ e. r.texts.zone) (omega (arith, r.texts.zone)),
      (
        number_held lim.has_name r.texts.name.absent (omega (arith, r.texts.name.most)),
        (
          number_held lim.has_domain r.texts.domain.absent (omega (arith, r.texts.domain.most)),
          (
            r.texts.lengths,
            (number_held lim.has_authentication r.texts.authentication.absent (omega (arith, r.texts.authentication.most)), tt),
          ),
        ),
      ),
    ),
  )

  pub header_holds : AllHold (header_checks s (header_of h) t)
  unfolding header_checks
  header_holds =
      hold_append (name_checks (header_of h)) _ names_hold
      (hold_append (routing_checks (header_of h)) _ routing_holds (hold_append (id_checks (header_of h)) _ ids_hold texts_hold))

  -- ---- 15, 30, 13, 28

  pub settings_pass : settings_test s none_failed ≡ none_failed
  unfolding settings_test
  settings_pass =
      let n = r.numbers in
      unless_true _ 15 _ (le-leb s.profile 1 (omega (arith, n.profile)))
      ∙ (unless_true _ 15 _ (le-leb s.t 16 n.t_top) ∙ unless_true _ 15 _ (le-leb 1 s.t n.t_low))

  zone_passes : (q : Tested) → zone_test false (header_of h) q ≡ q
  unfolding zone_test header_of present_of
  zone_passes q = unless_true _ 30 q (ap not (ne_eqb (number_at h 17) 1 (λ e. omega (arith, lim.has_zone))))

  parts_pass : (q : Tested) → parts_test t q ≡ q
  unfolding parts_test
  parts_pass q = unless_true _ 13 q (le-leb (length t.lengths) 16 r.texts.parts)

  no_zone : is_text t.zone ≡ true
  unfolding is_text accepts ended
  no_zone = ap is_text (empty t.zone r.texts.zone)

  text_passes : (q : Tested) → text_test t q ≡ q
  unfolding text_test utf8_checks AllHold
  text_passes q =
      unless_all_true _ 28 q (
        no_zone,
        (
          (is_text_lem t.session_name).1 (single_text t.session_name r.texts.name_single),
          (single_parts t.lengths t.domain r.texts.domain_single, tt),
        ),
      )

  -- the tests after 22
  pub late_pass : (q : Tested) → text_test t (parts_test t (zone_test false (header_of h) q)) ≡ q
  late_pass q = text_passes (parts_test t (zone_test false (header_of h) q)) ∙ (parts_pass (zone_test false (header_of h) q) ∙ zone_passes q)

  pub values_pass :
      {flags count counter : ℕ} → Owned flags count counter → value_refusal false s (header_of h) (packet_of flags count counter) t ≡ none_failed
  unfolding value_refusal packet_checks AllHold
  values_pass {flags} {count} {counter} o =
      late_pass _
      ∙ (unless_all_true _ 22 _
      (le-leb flags 3 o.own.flags_top, (le-leb count 16383 o.own.count_top, (o.counter_fits, tt)))
      ∙ (unless_all_true _ 22 _ header_holds ∙ settings_pass))
