-- The tests of the settings and the primary header, both ways; the test for a body; and what an answer with no refusal is.
-- Assumes nothing.
use Prim.Native.Nat.{ℕ, ◌/◌, ◌%◌, ◌≤◌, ◌<◌}
use mathlib.Core.Path.{◌≡◌, refl, ap, ◌∙◌}
use mathlib.Core.Logic.{◌↔◌, ⊎_elim}
use mathlib.Core.List.{List}
use mathlib.Core.Bool.{Bool, true, false, not}
use native.Mathlib.Omega.{arith}
use native.Mathlib.Nat.{le_antisymm}
use lib.ListN.{length}
use lib.Dec.{eqb, leb, ltb}
use borrow.Author.Tests.{eqb-true, eqb-false, leb-true, ltb-true, not-true, eq-eqb, le-leb, lt-ltb, ne_eqb}
use Rattle.octets.specs.Octets.{pick, octet_at, number}
use Rattle.octets.proofs.Lists.{bool}
use Rattle.walk.specs.declared.Settings.{Settings}
use Rattle.walk.specs.Profile.{fixed_profile}
use Rattle.walk.specs.Walk.{Reading, goes, going, check, begun, timestamp_least, timestamp_most}
use Rattle.packet.specs.Format.{SettingsInRange}
use Rattle.walk.proofs.Steps.{check_held, check_ok}
use Rattle.packet.specs.Answer.{Header}
use Rattle.packet.specs.Reading.{wanted, primary_tests, segmented, body_test, start_at, ended, refusal_of, refused_header, accepted_header, read_packet}
use Rattle.packet.proofs.Whole.{accepts}

-- 15 passed
pub begun_only : (s : Settings) → going (begun s) ≡ true → (begun s ≡ goes 6) × SettingsInRange s
unfolding begun
begun_only s g =
    let c = check_held (leb s.profile fixed_profile) 14 _ g in
    let b = check_held (leb s.t timestamp_most) 14 _ c.went in
    let a = check_held (leb timestamp_least s.t) 14 _ b.went in (
      c.same ∙ b.same ∙ a.same,
      record { t_low = leb-true _ _ a.held; t_top = leb-true _ _ b.held; profile_top = leb-true _ _ c.held },
    )

pub begun_back : (s : Settings) → SettingsInRange s → begun s ≡ goes 6
unfolding begun
begun_back s r =
    check_ok (leb s.profile fixed_profile) 15 _ (le-leb _ _ r.profile_top)
    ∙ check_ok (leb s.t timestamp_most) 15 _ (le-leb _ _ r.t_top)
    ∙ check_ok (leb timestamp_least s.t) 15 (goes 6) (le-leb _ _ r.t_low)

-- 15, 1 to 5 and 27 passed
pub record Opens (s : Settings) (p : List ℕ) : Type 0 where
  pub settings : SettingsInRange s
  pub six : 6 ≤ length p
  pub version : octet_at p 0 < 32
  pub second : octet_at p 0 / 8 % 2 ≡ 1
  pub idle : number 2 p 0 % 2048 ≡ 2047 → ⊥
  pub long : length p ≡ wanted p

-- what an answer of reading says of a zone
abbrev pub Withdrawn : Header → Type 0
Withdrawn h = h.withdrawn ≡ true ↔ ((h.refusal.number ≡ 0) × (h.has.zone ≡ true))

module _ (s : Settings) (p : List ℕ) where
  pub start_only : going (start_at s p) ≡ true → (start_at s p ≡ goes 6) × Opens s p
  unfolding primary_tests
  start_only g =
      let f = check_held (leb (length p) (wanted p)) 26 _ g in
      let e = check_held (leb (wanted p) (length p)) 4 _ f.went in
      let d = check_held (not (eqb (number 2 p 0 % 2048) 2047)) 3 _ e.went in
      let c = check_held (eqb (octet_at p 0 / 8 % 2) 1) 2 _ d.went in
      let b = check_held (ltb (octet_at p 0) 32) 1 _ c.went in
      let a = check_held (leb 6 (length p)) 0 _ b.went in
      let t = begun_only s a.went in (
        f.same ∙ e.same ∙ d.same ∙ c.same ∙ b.same ∙ a.same ∙ t.0,
        record {
          settings = t.1;
          six = leb-true _ _ a.held;
          version = ltb-true _ _ b.held;
          second = eqb-true _ _ c.held;
          idle = eqb-false _ _ (not-true _ d.held);
          long = le_antisymm (leb-true _ _ f.held) (leb-true _ _ e.held);
        },
      )

  pub start_back : Opens s p → start_at s p ≡ goes 6
  unfolding primary_tests
  start_back h =
      check_ok (leb (length p) (wanted p)) 27 _ (le-leb (length p) (wanted p) (omega (arith, h.long)))
      ∙ check_ok (leb (wanted p) (length p)) 5 _ (le-leb (wanted p) (length p) (omega (arith, h.long)))
      ∙ check_ok (not (eqb (number 2 p 0 % 2048) 2047)) 4 _ (ap not (ne_eqb (number 2 p 0 % 2048) 2047 h.idle))
      ∙ check_ok (eqb (octet_at p 0 / 8 % 2) 1) 3 _ (eq-eqb _ _ h.second)
      ∙ check_ok (ltb (octet_at p 0) 32) 2 _ (lt-ltb _ _ h.version)
      ∙ check_ok (leb 6 (length p)) 1 _ (le-leb _ _ h.six)
      ∙ begun_back s h.settings

  -- 14
  pub record Body (w : Reading) : Type 0 where
    pub went : going w ≡ true
    pub same : body_test p w ≡ w
    pub some : segmented p ≡ true → w.at < length p

  body_cases :
      (b t : Bool) (w : Reading) → going (pick b (check t 14 w) w) ≡ true →
      (going w ≡ true) × ((pick b (check t 14 w) w ≡ w) × (b ≡ true → t ≡ true))
  body_cases true t w g = let a = check_held t 13 w g in (a.went, (a.same, λ e. a.held))
  body_cases false t w g = (g, (refl, λ e. let z : ◌≡◌ {A = ℕ} 0 1 = cc e in absurd (omega arith)))

  pub body_only : (w : Reading) → going (body_test p w) ≡ true → Body w
  unfolding body_test
  body_only w g =
      let a = body_cases (segmented p) (ltb w.at (length p)) w g in
      record { went = a.0; same = a.1.0; some = λ e. ltb-true _ _ (a.1.1 e) }

  body_goes : (b t : Bool) (w : Reading) → (b ≡ true → t ≡ true) → pick b (check t 14 w) w ≡ w
  body_goes true t w f = check_ok t 14 w (f refl)
  body_goes false t w f = refl

  pub body_back : (w : Reading) → (segmented p ≡ true → w.at < length p) → body_test p w ≡ w
  unfolding body_test
  body_back w f = body_goes (segmented p) (ltb w.at (length p)) w (λ e. lt-ltb _ _ (f e))

  -- an answer that is no refusal: the reading goes on to its end
  pub answered : (read_packet s p).refusal.number ≡ 0 → going (ended s p) ≡ true
  unfolding read_packet refused_header refusal_of
  answered h = ⊎_elim (λ e. e) (λ e. absurd (eqb-false _ _ e (rw e at h))) (bool (going (ended s p)))

  pub answer : (read_packet s p).refusal.number ≡ 0 → read_packet s p ≡ accepted_header s p
  answer h = accepts s p (answered h)

  -- the header is of the withdrawn kind exactly if it is accepted and has a zone
  pub withdrawn_exactly : Withdrawn (read_packet s p)
  unfolding read_packet refused_header accepted_header
  withdrawn_exactly = cases (going (ended s p))
    where
      cases : (b : Bool) → Withdrawn (pick b (accepted_header s p) (refused_header (refusal_of p (ended s p))))
      cases true = ((λ e. (refl, e)), λ k. k.1)
      cases false =
          ((λ e. let z : ◌≡◌ {A = ℕ} 0 1 = cc in absurd (omega arith)), λ k. let z : ◌≡◌ {A = ℕ} 0 1 = cc k.1 in absurd (omega arith))
