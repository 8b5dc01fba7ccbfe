-- A packet that ends inside a field, for the fields of a known length, and for each other way to put fields together.
-- Assumes nothing.
use Prim.Native.Nat.{ℕ, zero, suc, ◌+◌, ◌-◌, ◌<◌}
use mathlib.Core.Path.{◌≡◌, refl, ap, sym, ◌∙◌}
use mathlib.Core.List.{List, [], ◌∷◌, ◌++◌}
use mathlib.Core.Bool.{Bool, true, false}
use native.Mathlib.Omega.{arith}
use lib.ListN.{length}
use Rattle.octets.specs.Octets.{pick, wide}
use Rattle.octets.proofs.Numbers.{wide_length}
use Rattle.walk.specs.declared.Bound.{Bound}
use Rattle.walk.specs.Walk.{Reading, goes, refused, going, octets, check, field_from}
use Rattle.walk.proofs.Steps.{octets_refused, octets_ends, check_refused, field_refused}
use Rattle.fields.specs.Form.{joined}
use Rattle.packet.specs.Format.{Opt, Each}
use Rattle.packet.specs.Began.{began}
use Rattle.format.proofs.Field.{Room, Field}
use Rattle.format.proofs.Many.{steps, many}
use Rattle.format.proofs.Numbers.{wide_f, block_f}
use Rattle.format.proofs.Cut.{all, all_none, all_append, Ends, Cuts, Cut, one_octets, at_start, then_cut}

module _ (bound : Bound) (p : List ℕ) where
  -- ---- octets of a known number

  known_ends :
      (n i : ℕ) (l : List ℕ) → length l ≡ n → Room bound i l → Ends bound p i l →
      octets bound p n (goes i) ≡ refused (i + began (l ∷ []) (length p - i)) 6
  known_ends n i l q m e =
      let s = e.short in
      let k = m.0 in
      octets_ends bound p n (goes i) refl (omega arith) (omega arith) ∙ at_start bound p i l e

  pub wide_cut : (n : ℕ) → Cut bound p (wide_f bound p n) (λ x. wide n x ∷ [])
  wide_cut n =
      record {
        stays = octets_refused bound p n;
        octets = λ x. one_octets bound p (wide n x);
        ends = λ i x f l e. known_ends n i (wide n x) (wide_length n x) l e;
      }

  pub block_cut : (n : ℕ) → Cut bound p (block_f bound p n) (λ x. x ∷ [])
  block_cut n =
      record {
        stays = octets_refused bound p n;
        octets = λ x. one_octets bound p x;
        ends = λ i x f l e. known_ends n i x f.0 l e;
      }

  -- ---- fields put together

  module _ {A : Type 0} {step : Reading → Reading} {form : A → List ℕ} {Fit : A → Type 0} {f : A → List (List ℕ)} (c : Cuts bound p step form Fit f) where
    -- several steps as one field
    pub whole_cut : Cuts bound p (λ w. field_from w (step w)) form Fit (λ x. form x ∷ [])
    whole_cut =
        record {
          stays = λ w h. ap (field_from w) (c.stays w h) ∙ field_refused w w h;
          octets = λ x. one_octets bound p (form x);
          ends = λ i x t l e. ap (field_from (goes i)) (c.ends i x t l e) ∙ field_refused (goes i) _ refl ∙ at_start bound p i (form x) e;
        }

    -- a test of what was read
    pub tested_cut : (ok : Reading → Bool) (k : ℕ) (Fits : A → Type 0) → ((x : A) → Fits x → Fit x) → Cuts bound p (λ w. check (ok w) k (step w)) form Fits f
    tested_cut ok k Fits to =
        record {
          stays = λ w h. ap (check (ok w) k) (c.stays w h) ∙ check_refused (ok w) k w h;
          octets = c.octets;
          ends = λ i x t l e. ap (check (ok (goes i)) k) (c.ends i x (to x t) l e) ∙ check_refused (ok (goes i)) k _ refl;
        }

    -- an equal step
    pub told_cut : (next : Reading → Reading) → ((w : Reading) → next w ≡ step w) → Cuts bound p next form Fit f
    told_cut next st =
        record {
          stays = λ w h. st w ∙ c.stays w h;
          octets = c.octets;
          ends = λ i x t l e. st (goes i) ∙ c.ends i x t l e;
        }

    -- an equal form
    pub formed_cut :
        (octets : A → List ℕ) (Fits : A → Type 0) → ((x : A) → octets x ≡ form x) →
        ((x : A) → Fits x → length (octets x) < 4294967296 → Fit x) → Cuts bound p step octets Fits f
    formed_cut octets Fits same to =
        record {
          stays = c.stays;
          octets = λ x. c.octets x ∙ sym (same x);
          ends =
              λ i x t l e.
              c.ends i x (to x t l.1) (rw (same x) at l) (rw (same x) at e);
        }

    -- another value
    pub via_cut : {B : Type 0} (from : B → A) (Fits : B → Type 0) → ((x : B) → Fits x → Fit (from x)) → Cuts bound p step (λ x. form (from x)) Fits (λ x. f (from x))
    via_cut from Fits to =
        record { stays = c.stays; octets = λ x. c.octets (from x); ends = λ i x t l e. c.ends i (from x) (to x t) l e }

    -- there only if b
    pub maybe_cut : (b : Bool) (a : A) → Cuts bound p (λ w. pick b (step w) w) (λ x. pick b (form x) []) (Opt b Fit a) (λ x. pick b (f x) [])
    maybe_cut true a = record { stays = c.stays; octets = c.octets; ends = c.ends }
    maybe_cut false a =
        record {
          stays = λ w h. refl;
          octets = λ x. all_none;
          ends = λ i x t l e. let g = e.from in let h = e.short in absurd (omega arith);
        }

    -- refused unless b
    pub guard_cut : (b : Bool) (k : ℕ) → Cuts bound p (λ w. pick b (step w) (check false k w)) form (λ x. Fit x × (b ≡ true)) f
    guard_cut true k = record { stays = c.stays; octets = c.octets; ends = λ i x t l e. c.ends i x t.0 l e }
    guard_cut false k =
        record {
          stays = λ w h. check_refused false k w h;
          octets = c.octets;
          ends = λ i x t l e. let z : ◌≡◌ {A = ℕ} 0 1 = cc t.1 in absurd (omega arith);
        }

  -- a number of times
  module _ {A : Type 0} (F : Field bound p A) {f : A → List (List ℕ)} (c : Cut bound p F f) where
    unfoldable pub many_fields : List A → List (List ℕ)
    many_fields [] = []
    many_fields (t ∷ x) = f t ++ many_fields x

    many_stays : (n : ℕ) (w : Reading) → going w ≡ false → steps bound p F n w ≡ w
    unfolding steps
    many_stays zero w h = refl
    many_stays (suc n) w h = ap (steps bound p F n) (c.stays w h) ∙ many_stays n w h

    many_octets : (x : List A) → all (many_fields x) ≡ joined F.form x
    unfolding many_fields joined
    many_octets [] = refl
    many_octets (t ∷ x) =
        all_append (f t) (many_fields x)
        ∙ ap (λ (y : List ℕ). y ++ all (many_fields x)) (c.octets t)
        ∙ ap (λ (y : List ℕ). F.form t ++ y) (many_octets x)

    many_ends :
        (n i : ℕ) (x : List A) → (length x ≡ n) × Each F.Fit x → Room bound i (joined F.form x) →
        Ends bound p i (joined F.form x) → steps bound p F n (goes i) ≡ refused (i + began (many_fields x) (length p - i)) 6
    unfolding steps joined Each many_fields
    many_ends zero i [] t l e = let g = e.from in let h = e.short in absurd (omega arith)
    many_ends zero i (y ∷ x) t l e = absurd (omega (arith, t.0))
    many_ends (suc n) i [] t l e = absurd (omega (arith, t.0))
    many_ends (suc n) i (y ∷ x) t l e =
        (then_cut bound p F c (λ z. record { stays = many_stays n; octets = many_octets; ends = λ j y u k d. many_ends n j y u k d })
        ).ends i (y, x) (t.1.0, (omega (arith, t.0), t.1.1)) l e

    pub many_cut : (n : ℕ) → Cut bound p (many bound p F n) many_fields
    many_cut n = record { stays = many_stays n; octets = many_octets; ends = many_ends n }
