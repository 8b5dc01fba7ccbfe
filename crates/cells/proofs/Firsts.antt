-- A record read as a packet: how the code lays it, that it is octets, and how long its header is.
-- Assumes nothing.
use Prim.Native.Nat.{ℕ, ◌+◌, ◌-◌, ◌/◌, ◌%◌, ◌≤◌}
use mathlib.Core.Path.{◌≡◌, refl, ap, ap₂, sym, ◌∙◌}
use mathlib.Core.List.{List, [], ◌∷◌, ◌++◌, append-nil, append_assoc}
use native.Mathlib.Omega.{arith}
use native.Mathlib.Nat.{add_assoc, sub-zero}
use lib.ListN.{length, take, drop, replicate, length-append, length-take}
use lib.Seq.{sets, sets-eq, length-sets, take_at}
use Rattle.octets.specs.Octets.{Octets, octet_at, part, wide}
use Rattle.octets.specs.Laying.{laid, lay_all, together, Lays}
use Rattle.octets.proofs.Has.{octets_append, octets_part}
use Rattle.octets.proofs.Numbers.{wide_length, wide_octets}
use Rattle.octets.proofs.Laying.{lay_length, lays_both, lays_all}
use Rattle.walk.specs.declared.Settings.{Settings}
use Rattle.packet.specs.Reading.{read_packet}
use Rattle.format.proofs.Accepting.{accepted}
use Rattle.cells.specs.Rows.{fore_in, data_in, first_in}

-- ---- it is octets

-- the same list with what is between its pieces as numbers of some octets
unfoldable pub pieces_of : List ℕ → List ℕ → List ℕ → List ℕ → List ℕ
pieces_of i x y n = i ++ (wide 2 0x4000 ++ (n ++ (x ++ (wide 4 0 ++ y))))

pub first_pieces :
    (r : List ℕ) →
    first_in r
    ≡ pieces_of (part r 2 2) (part r 4 (fore_in r)) (part r (4 + fore_in r) (256 - fore_in r)) (wide 2 (length (data_in r) - 1))
unfolding first_in data_in wide pieces_of
first_pieces r =
    let x = part r 4 (fore_in r) in
    let y = part r (4 + fore_in r) (256 - fore_in r) in
    let n = wide 2 (length (data_in r) - 1) in
    let d = x ++ (0 ∷ 0 ∷ 0 ∷ 0 ∷ []) ++ y in
    append_assoc (part r 2 2) (0x40 ∷ 0x00 ∷ n) d
    ∙ ap (λ (w : List ℕ). part r 2 2 ++ (0x40 ∷ 0x00 ∷ (n ++ w))) (append_assoc x (0 ∷ 0 ∷ 0 ∷ 0 ∷ []) y)

pub first_octets : (r : List ℕ) → Octets r → Octets (first_in r)
unfolding pieces_of
first_octets r o =
    let n = wide 2 (length (data_in r) - 1) in
    let x = part r 4 (fore_in r) in
    let y = part r (4 + fore_in r) (256 - fore_in r) in
    rw (first_pieces r)
    (octets_append (part r 2 2) (wide 2 0x4000 ++ (n ++ (x ++ (wide 4 0 ++ y)))) (octets_part r 2 2 o)
    (octets_append (wide 2 0x4000) (n ++ (x ++ (wide 4 0 ++ y))) (wide_octets 2 0x4000)
    (octets_append n (x ++ (wide 4 0 ++ y)) (wide_octets 2 (length (data_in r) - 1))
    (octets_append x (wide 4 0 ++ y) (octets_part r 4 (fore_in r) o)
    (octets_append (wide 4 0) y (wide_octets 4 0) (octets_part r (4 + fore_in r) (256 - fore_in r) o))))))

-- a header that is read has at most 256 octets
pub header_top : (s : Settings) (r : List ℕ) → Octets r → (read_packet s (first_in r)).refusal.number ≡ 0 → (read_packet s (first_in r)).h ≤ 256
header_top s r o z = omega (arith, (accepted s (first_in r) (first_octets r o) z).h_top)

-- ---- as the code lays it

fore_small : (r : List ℕ) → (21 ≤ fore_in r) × (fore_in r ≤ 23)
unfolding fore_in
fore_small r = (omega arith, omega arith)

pub lays_length : {l k x : List ℕ} {at n : ℕ} → Lays (laid l at) (x ∷ []) k n → length k ≡ length l
unfolding lay_all
lays_length {l} {x} {at} a = ap length a.octets ∙ lay_length x (laid l at)

-- the octets from the first on, as a slice has them
pub from_first : {A : Type 0} (n : ℕ) (l : List A) {x : List A} → take n l ≡ x → take (n - 0) l ≡ x
from_first n l e = ap (λ (k : ℕ). take k l) (sub-zero n) ∙ e

sum_fore : (r : List ℕ) → 21 + octet_at r 24 / 128 % 2 + octet_at r 24 / 64 % 2 ≡ fore_in r
unfolding fore_in
sum_fore r = add_assoc 21 (octet_at r 24 / 128 % 2) (octet_at r 24 / 64 % 2)

-- two octets, two, two, and the data
first_by : (r : List ℕ) → length (first_in r) ≤ 6 + length (data_in r)
unfolding first_in
first_by r =
    let n = wide 2 (length (data_in r) - 1) in
    omega
    (arith, length-append (part r 2 2 ++ (0x40 ∷ 0x00 ∷ n)) (data_in r), length-append (part r 2 2) (0x40 ∷ 0x00 ∷ n), wide_length 2 (length (data_in r) - 1), length-take 2 (drop 2 r))

module _ (r : List ℕ) {f fore n : ℕ} (ef : f ≡ octet_at r 24) (eo : fore ≡ 21 + f / 128 % 2 + f / 64 % 2)
    {i x y : List ℕ} (ei : i ≡ part r 2 2) (ex : x ≡ part r 4 fore) (ey : y ≡ part r (4 + fore) (256 - fore)) (en : n ≡ length x + 4 + length y) where
  fore_is : fore ≡ fore_in r
  fore_is = eo ∙ ap (λ (k : ℕ). 21 + k / 128 % 2 + k / 64 % 2) ef ∙ sum_fore r

  x_is : x ≡ part r 4 (fore_in r)
  x_is = ex ∙ ap (part r 4) fore_is

  y_is : y ≡ part r (4 + fore_in r) (256 - fore_in r)
  y_is = ey ∙ ap (λ (k : ℕ). part r (4 + k) (256 - k)) fore_is

  data_long : n ≡ length (data_in r)
  unfolding data_in
  data_long =
      omega
      (arith, ap length x_is, ap length y_is, length-append (part r 4 (fore_in r) ++ replicate 4 0) (part r (4 + fore_in r) (256 - fore_in r)), length-append (part r 4 (fore_in r)) (replicate 4 0))

  pub long_small : n ≤ 260
  long_small =
      omega
      (arith, fore_small r, ap length x_is, ap length y_is, length-take (fore_in r) (drop 4 r), length-take (256 - fore_in r) (drop (4 + fore_in r) r))

  all : List (List ℕ)
  all = i ∷ wide 2 0x4000 ∷ wide 2 (n - 1) ∷ x ∷ wide 4 0 ∷ y ∷ []

  all_first : together all ≡ first_in r
  unfolding together all pieces_of
  all_first =
      ap (λ (w : List ℕ). i ++ (wide 2 0x4000 ++ (wide 2 (n - 1) ++ (x ++ (wide 4 0 ++ w))))) (append-nil y)
      ∙ ap (λ (w : List ℕ). w ++ (wide 2 0x4000 ++ (wide 2 (n - 1) ++ (x ++ (wide 4 0 ++ y))))) ei
      ∙ ap (λ (k : ℕ). part r 2 2 ++ (wide 2 0x4000 ++ (wide 2 (k - 1) ++ (x ++ (wide 4 0 ++ y))))) data_long
      ∙ ap₂ (λ (v w : List ℕ). part r 2 2 ++ (wide 2 0x4000 ++ (wide 2 (length (data_in r) - 1) ++ (v ++ (wide 4 0 ++ w))))) x_is y_is
      ∙ sym (first_pieces r)

  first_long : length (first_in r) ≤ 266
  first_long = omega (arith, first_by r, data_long, long_small)

  pub first_laid :
      (out : List ℕ) → 266 ≤ length out → {l1 l2 l3 l4 l5 l6 : List ℕ} {a b c d e g : ℕ} → Lays (laid out 0) (i ∷ []) l1 a → Lays (laid l1 a) (wide 2 0x4000 ∷ []) l2 b →
      Lays (laid l2 b) (wide 2 (n - 1) ∷ []) l3 c → Lays (laid l3 c) (x ∷ []) l4 d → Lays (laid l4 d) (wide 4 0 ∷ []) l5 e → Lays (laid l5 e) (y ∷ []) l6 g →
      (g ≤ length l6) × (take g l6 ≡ first_in r)
  unfolding all
  first_laid out wide_enough {l6} {g} p1 p2 p3 p4 p5 p6 =
      let p = lays_both p1 (lays_both p2 (lays_both p3 (lays_both p4 (lays_both p5 p6)))) in
      let m : length (together all) ≡ length (first_in r) = ap length all_first in
      let q = lays_all {xs = all} p (omega (arith, m, first_long)) in
      let w : g ≡ length (first_in r) = omega (arith, q.0, m) in (
        omega (arith, w, first_long, ap length q.1, length-sets out 0 (together all)),
        ap₂ take w (q.1 ∙ ap (sets out 0) all_first ∙ sets-eq (first_in r) out 0 (omega (arith, first_long)))
            ∙ take_at (first_in r) (drop (0 + length (first_in r)) out) (length (first_in r)) refl,
      )
