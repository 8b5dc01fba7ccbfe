-- What leaves a store as it was (S-6, and every refusal): an arrival that is answered "whole", "held" or "taken", a refused arrival, a refused
-- taking, a refused forgetting. A refused taking leaves the output as it was too.
-- Assumes nothing.
use Prim.Native.Nat.{ℕ, ◌*◌}
use mathlib.Core.Path.{◌≡◌, ap}
use mathlib.Core.Logic.{◌≢◌}
use mathlib.Core.Bool.{Bool}
use mathlib.Core.List.{List}
use lib.Seq.{sets}
use borrow.Author.Tests.{ne_eqb}
use Rattle.octets.specs.Octets.{pick}
use Rattle.walk.specs.declared.Settings.{Settings}
use Rattle.walk.specs.declared.Refusal.{Refusal}
use Rattle.cells.specs.Rows.{zero_row}
use Rattle.cells.specs.Order.{count_in}
use Rattle.arrival.specs.Arriving.{whole, again, late, refused, arrived, store_with}
use Rattle.taking.specs.Taking.{unable, took, out_with, store_less}
use Rattle.taking.specs.Forgetting.{forgot, store_forgotten}

module _ (s : Settings) (Z : ℕ) (st : List ℕ) where
  module _ (p : List ℕ) where
    -- S-6: a whole packet
    pub whole_same : arrived s Z st p ≡ whole → store_with Z st p (arrived s Z st p) ≡ st
    unfolding store_with
    whole_same e = ap (store_with Z st p) e

    -- S-6: a segment that is held already
    pub again_same : arrived s Z st p ≡ again → store_with Z st p (arrived s Z st p) ≡ st
    unfolding store_with
    again_same e = ap (store_with Z st p) e

    -- S-16: a segment of a message that was taken
    pub late_same : arrived s Z st p ≡ late → store_with Z st p (arrived s Z st p) ≡ st
    unfolding store_with
    late_same e = ap (store_with Z st p) e

    -- a refusal, by any number
    pub refused_same : (r : Refusal) → arrived s Z st p ≡ refused r → store_with Z st p (arrived s Z st p) ≡ st
    unfolding store_with
    refused_same r e = ap (store_with Z st p) e

  -- a taking that is refused
  pub unable_same : (long k : ℕ) → took s Z st long ≡ unable k → store_less s Z st (count_in Z st) (took s Z st long) ≡ st
  unfolding store_less
  unable_same long k e = ap (store_less s Z st (count_in Z st)) e

  pub unable_output : (out : List ℕ) (long k : ℕ) → took s Z st long ≡ unable k → out_with out (took s Z st long) ≡ out
  unfolding out_with
  unable_output out long k e = ap (out_with out) e

  -- a forgetting that is refused
  pub unforgotten_same : (i : ℕ) → forgot s Z st i ≢ 0 → store_forgotten s Z st i ≡ st
  unforgotten_same i h = ap (λ (b : Bool). pick b (sets st (i * Z) (zero_row Z)) st) (ne_eqb (forgot s Z st i) 0 h)
