-- Fields of a known length: a number of n octets, an octet, n octets as they are.
-- Their laws are those of `octets`, at the place of a reading.
-- Assumes nothing.
use Prim.Native.Nat.{ℕ, ◌+◌, ◌^◌, ◌≤◌, ◌<◌}
use mathlib.Core.Path.{◌≡◌, refl, ap, ◌∙◌}
use mathlib.Core.List.{List, [], ◌∷◌}
use mathlib.Core.Bool.{true}
use native.Mathlib.Omega.{arith}
use native.Mathlib.Nat.{le_refl}
use lib.ListN.{length}
use Rattle.octets.specs.Octets.{Octets, octet_at, part, wide, number as number_of}
use Rattle.octets.proofs.Has.{Has, has_inside, has_part, part_length, part_has, octets_part}
use Rattle.octets.proofs.Numbers.{wide_length, wide_octets, number_top, number_back, number_has}
use Rattle.walk.specs.declared.Bound.{Bound}
use Rattle.walk.specs.Walk.{Reading, goes, going, octets}
use Rattle.walk.proofs.Steps.{octets_goes, octets_there}
use Rattle.fields.specs.Fields.{place}
use Rattle.format.proofs.Field.{Room, Took, Field, took_order, order_one, told}

module _ (bound : Bound) (p : List ℕ) where
  -- ---- octets of a known number

  step_has :
      (n i : ℕ) (l : List ℕ) → length l ≡ n → Has p i l → Room bound i l → octets bound p n (goes i) ≡ goes (i + length l)
  step_has n i l e h b = rw (← e) (octets_goes bound p (length l) (goes i) refl b.0 (has_inside l h))

  octets_took :
      (n : ℕ) (w : Reading) (l : List ℕ) → length l ≡ n → going (octets bound p n w) ≡ true → (w.at + n ≤ length p → Has p w.at l) →
      Took bound p w (octets bound p n w) l
  octets_took n w l e g h =
      let t = octets_there bound p n w g in
      record { went = t.went; has = h t.inside; limit = rw e t.limit; ended = rw e t.ended }

  pub wide_back :
      (n i x : ℕ) → x < 256 ^ n → Has p i (wide n x) → Room bound i (wide n x) →
      (octets bound p n (goes i) ≡ goes (i + length (wide n x))) × (number_of n p i ≡ x)
  wide_back n i x f h l = (step_has n i (wide n x) (wide_length n x) h l, number_back n p i x f h)

  pub wide_took :
      (n : ℕ) → Octets p → (w : Reading) → going (octets bound p n w) ≡ true → Took bound p w (octets bound p n w) (wide n (number_of n p w.at))
  wide_took n o w g = octets_took n w (wide n (number_of n p w.at)) (wide_length n _) g (number_has n p w.at o)

  -- a number of n octets
  abbrev pub wide_f : ℕ → Field bound p ℕ
  wide_f n =
      record {
        step = octets bound p n;
        value = λ w. number_of n p w.at;
        form = wide n;
        Fit = λ x. x < 256 ^ n;
        spots = λ w. [];
        back = wide_back n;
        plain = λ x f l. wide_octets n x;
        only = λ o w s g. (wide_took n o w g, number_top n p w.at o);
        order = λ o w s g. took_order bound p _ (wide_took n o w g);
      }

  pub octet_number : (i : ℕ) → octet_at p i ≡ number_of 1 p i
  unfolding number_of
  octet_number i = let e : i ≡ i + 0 = omega arith in ap (octet_at p) e ∙ (omega arith)

  -- an octet
  abbrev pub octet_f : Field bound p ℕ
  octet_f = told bound p (wide_f 1) (octets bound p 1) (λ w. octet_at p w.at) (λ w. []) (λ w. refl) (λ w. octet_number w.at) (λ w. refl)

  pub block_back :
      (n i : ℕ) (x : List ℕ) → (length x ≡ n) × Octets x → Has p i x → Room bound i x →
      (octets bound p n (goes i) ≡ goes (i + length x)) × (part p i n ≡ x)
  block_back n i x f h l = (step_has n i x f.0 h l, rw (← f.0) (part_has x h))

  pub block_took :
      (n : ℕ) (w : Reading) → going (octets bound p n w) ≡ true → Took bound p w (octets bound p n w) (part p w.at n) × (length (part p w.at n) ≡ n)
  block_took n w g =
      let t = octets_there bound p n w g in
      let e = part_length p w.at n t.inside in
      (octets_took n w (part p w.at n) e g (has_part p w.at n), e)

  pub block_order : (n : ℕ) (w : Reading) → going (octets bound p n w) ≡ true → w.at + n ≤ (octets bound p n w).at
  block_order n w g = let t = octets_there bound p n w g in rw t.ended (le_refl (w.at + n))

  -- n octets, as they are
  abbrev pub block_f : ℕ → Field bound p (List ℕ)
  block_f n =
      record {
        step = octets bound p n;
        value = λ w. part p w.at n;
        form = λ x. x;
        Fit = λ x. (length x ≡ n) × Octets x;
        spots = λ w. place w.at n ∷ [];
        back = block_back n;
        plain = λ x f l. f.1;
        only = λ o w s g. let t = block_took n w g in (t.0, (t.1, octets_part p w.at n o));
        order = λ o w s g. order_one (place w.at n) (le_refl w.at) (block_order n w g);
      }
