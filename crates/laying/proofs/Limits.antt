-- Numbers within the limits of the short way fit the types of their fields.
-- Assumes nothing.
use Prim.Native.Nat.{ℕ, zero, suc}
use mathlib.Core.Path.{◌≡◌, refl, ap₂}
use mathlib.Core.Bool.{Bool, true, false}
use mathlib.Core.List.{List}
use native.Mathlib.Omega.{arith}
use lib.Dec.{leb}
use borrow.Author.Tests.{leb-true, le-leb}
use Rattle.octets.specs.Octets.{pick, octet_at as number_at}
use Rattle.flat.specs.Given.{fits_to, header_fits, header_widths}
use Rattle.flat.proofs.Fitting.{both_held, fits_at}
use Rattle.laying.specs.Short.{limits, InLimits}

-- what fits within limits that fit within others, fits within those
fits_more : (n : ℕ) (l ws vs : List ℕ) → fits_to n l ws ≡ true → fits_to n ws vs ≡ true → fits_to n l vs ≡ true
unfolding fits_to
fits_more zero l ws vs e f = refl
fits_more (suc n) l ws vs e f =
    let a = both_held (fits_to n l ws) (leb (number_at l n) (number_at ws n)) e in
    let b = both_held (fits_to n ws vs) (leb (number_at ws n) (number_at vs n)) f in
    let x = leb-true (number_at l n) (number_at ws n) a.1 in
    let y = leb-true (number_at ws n) (number_at vs n) b.1 in
    ap₂ (λ (p q : Bool). pick p q false) (fits_more n l ws vs a.0 b.0) (le-leb (number_at l n) (number_at vs n) (omega arith))

limits_fit : fits_to 24 limits header_widths ≡ true
unfolding fits_to
limits_fit = refl

pub header_fits_lem : {h : List ℕ} → InLimits h → header_fits h ≡ true
header_fits_lem {h} b = fits_more 24 h limits header_widths b.all limits_fit

pub in_limits : (h : List ℕ) → fits_to 24 h limits ≡ true → InLimits h
in_limits h e =
    let at = fits_at 24 h limits e in
    record {
      all = e;
      packet_type = at 0 (omega arith);
      apid = at 1 (omega arith);
      sdu = at 2 (omega arith);
      area = at 3 (omega arith);
      service = at 4 (omega arith);
      operation = at 5 (omega arith);
      version = at 6 (omega arith);
      error = at 7 (omega arith);
      qos = at 8 (omega arith);
      session = at 9 (omega arith);
      secondary_apid = at 10 (omega arith);
      qualifier = at 11 (omega arith);
      has_source = at 13 (omega arith);
      has_destination = at 14 (omega arith);
      has_priority = at 15 (omega arith);
      has_timestamp = at 16 (omega arith);
      has_zone = at 17 (omega arith);
      has_name = at 18 (omega arith);
      has_domain = at 19 (omega arith);
      has_authentication = at 20 (omega arith);
      source = at 21 (omega arith);
      destination = at 22 (omega arith);
      priority = at 23 (omega arith);
    }
