-- A UInteger's encoding, one record: the octets of a number, a reading's step over them, and their laws. `back`: what is written reads
-- back. `plain`: it is octets. `only`: what is accepted was written. `stays`: a refused reading stays. `ends`: a packet that ends inside
-- is refused by 6, where the number began. `numbers`: by which numbers it is refused, by 10 only if some octets write no number.
-- The Varint and four octets are its two values, and the settings choose. What is above takes the record and never asks which.
-- Assumes nothing.
use Prim.Native.Nat.{ℕ, ◌+◌, ◌-◌, ◌<◌}
use mathlib.Core.Path.{◌≡◌, refl}
use mathlib.Core.List.{List, [], ◌∷◌}
use mathlib.Core.Bool.{Bool, true, false}
use native.Mathlib.Nat.{le_refl}
use lib.ListN.{length}
use lib.Dec.{leb, eqb}
use Rattle.octets.specs.Octets.{pick, Octets, wide}
use Rattle.octets.proofs.Has.{Has}
use Rattle.octets.proofs.Numbers.{wide_octets, number_top}
use Rattle.varint.specs.Varint.{write}
use Rattle.varint.proofs.Laws.{write_octets}
use Rattle.walk.specs.declared.Settings.{Settings}
use Rattle.walk.specs.Profile.{fixed_profile, by_profile, uinteger_size}
use Rattle.walk.specs.declared.Bound.{Bound}
use Rattle.walk.specs.Walk.{Reading, Step, goes, refused, going, past, octets, varint_field, wide_field, uinteger}
use Rattle.fields.specs.Form.{uinteger_octets}
use Rattle.packet.specs.Began.{began}
use Rattle.format.proofs.Field.{Room, Took, Field, took_order}
use Rattle.format.proofs.Numbers.{wide_back, wide_took}
use Rattle.format.proofs.Cut.{Ends, Cut, one_octets}
use Rattle.format.proofs.CutWays.{wide_cut}
use Rattle.format.proofs.Varints.{varint_back, varint_only, varint_stays, varint_ends, varint_numbers}

-- `strict` says that some octets write no number
pub record Encoding (form : ℕ → List ℕ) (step : Bound → List ℕ → Reading → Step ℕ) (strict : Bool) : Type 1 where
  pub back :
      (bound : Bound) (p : List ℕ) (i n : ℕ) → n < 4294967296 → Has p i (form n) → Room bound i (form n) →
      ((step bound p (goes i)).walk ≡ goes (i + length (form n))) × ((step bound p (goes i)).value ≡ n)
  pub plain : (n : ℕ) → Octets (form n)
  pub only :
      (bound : Bound) (p : List ℕ) → Octets p → (w : Reading) → going (step bound p w).walk ≡ true →
      Took bound p w (step bound p w).walk (form (step bound p w).value) × ((step bound p w).value < 4294967296)
  pub stays : (bound : Bound) (p : List ℕ) (w : Reading) → going w ≡ false → (step bound p w).walk ≡ w
  pub ends :
      (bound : Bound) (p : List ℕ) (i n : ℕ) → n < 4294967296 → Room bound i (form n) → Ends bound p i (form n) →
      (step bound p (goes i)).walk ≡ refused (i + began (form n ∷ []) (length p - i)) 6
  pub numbers :
      (bound : Bound) (P : ℕ → Type 0) → P 0 → P 6 → P (past bound) → (strict ≡ true → P 10) → (p : List ℕ) (w : Reading) → P w.refused →
      P (step bound p w).walk.refused

-- ---- its two values

pub varints : Encoding write varint_field true
varints =
    record {
      back = varint_back;
      plain = λ n. write_octets n n (le_refl n);
      only = varint_only;
      stays = varint_stays;
      ends = varint_ends;
      numbers = λ bound P none six over ten p w h. varint_numbers bound p P none six over (ten refl) w h;
    }

fixed_numbers_lem :
    (bound : Bound) (P : ℕ → Type 0) → P 0 → P 6 → P (past bound) → (p : List ℕ) (w : Reading) → P w.refused →
    P (octets bound p uinteger_size w).refused
unfolding octets
fixed_numbers_lem bound P none six over p w h = by (going w) (leb (w.at + uinteger_size) bound.end) (leb (w.at + uinteger_size) (length p))
  where
    by :
        (a b c : Bool) →
        P (pick a (pick b (pick c (goes (w.at + uinteger_size)) (refused w.at 6)) (refused w.at (past bound))) w).refused
    by true true true = none
    by true true false = six
    by true false c = over
    by false b c = h

pub fixed : Encoding (wide uinteger_size) (wide_field uinteger_size) false
unfolding wide_field
fixed =
    record {
      back = λ bound p. wide_back bound p uinteger_size;
      plain = wide_octets uinteger_size;
      only = λ bound p o w g. (wide_took bound p uinteger_size o w g, number_top uinteger_size p w.at o);
      stays = λ bound p. (wide_cut bound p uinteger_size).stays;
      ends = λ bound p. (wide_cut bound p uinteger_size).ends;
      numbers = λ bound P none six over ten. fixed_numbers_lem bound P none six over;
    }

-- whether some octets write no number, under the settings
abbrev pub strict : Settings → Bool
strict s = by_profile s true false

-- the one that the settings choose
pub encoding : (s : Settings) → Encoding (uinteger_octets s) (uinteger s) (strict s)
unfolding uinteger_octets uinteger
encoding s = by (eqb s.profile fixed_profile)
  where
    by :
        (b : Bool) →
        Encoding (λ n. pick b (wide uinteger_size) write n) (λ bound p w. pick b (wide_field uinteger_size bound) (varint_field bound) p w)
        (pick b false true)
    by true = fixed
    by false = varints

-- ---- as a field

module _ (bound : Bound) (p : List ℕ) (s : Settings) where
  abbrev pub number_f : Field bound p ℕ
  number_f =
      record {
        step = λ w. (uinteger s bound p w).walk;
        value = λ w. (uinteger s bound p w).value;
        form = uinteger_octets s;
        Fit = λ n. n < 4294967296;
        spots = λ w. [];
        back = (encoding s).back bound p;
        plain = λ n f l. (encoding s).plain n;
        only = λ o w z g. (encoding s).only bound p o w g;
        order = λ o w z g. took_order bound p _ ((encoding s).only bound p o w g).0;
      }

  pub number_cut : Cut bound p number_f (λ n. uinteger_octets s n ∷ [])
  number_cut =
      record { stays = (encoding s).stays bound p; octets = λ n. one_octets bound p (uinteger_octets s n); ends = (encoding s).ends bound p }
