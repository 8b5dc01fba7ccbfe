-- A part of a file in hand is enough to test a place: if the mark and the longest packet lie in it, or if it goes to the file's end, the
-- place is kept in the part as it is in the file, and as wide.
-- Assumes nothing.
use Prim.Native.Nat.{ℕ, ◌+◌, ◌*◌, ◌≤◌, ◌<◌, ◌^◌}
use mathlib.Core.Path.{◌≡◌, refl, ap, ap₂, sym, ◌∙◌}
use mathlib.Core.Logic.{⊎_elim}
use mathlib.Core.Bool.{Bool, true, false}
use mathlib.Core.List.{List}
use native.Mathlib.Omega.{arith}
use lib.ListN.{length, take, drop, length-drop, take-append-drop}
use lib.Seq.{get_or-take, get_or-drop, drop-drop, drop-append-le, take-append-le, take_all}
use lib.Dec.{eqb, leb}
use borrow.Author.Tests.{le-leb, lt-leb, leb-true}
use Rattle.octets.specs.Octets.{Octets, pick, octet_at, part}
use Rattle.octets.proofs.Lists.{below_or}
use Rattle.octets.proofs.Has.{part_length}
use Rattle.octets.proofs.Numbers.{number_top}
use Rattle.walk.specs.declared.Settings.{Settings}
use Rattle.packet.specs.Reading.{read_packet}
use Rattle.format.proofs.Frame.{word_is}
use Rattle.salvage.specs.Listing.{marked, size_at, width_at, kept}
use Rattle.salvage.specs.Parts.{longest, testable}

-- the places of a part before `till` are marked and kept in it as in the file, and as wide
pub record Alike (s : Settings) (x y : List ℕ) (off till : ℕ) : Type 0 where
  pub marks : (k : ℕ) → k < till → marked y k ≡ marked x (off + k)
  pub tests : (k : ℕ) → k < till → kept s y k ≡ kept s x (off + k)
  pub widths : (k : ℕ) → k < till → width_at y k ≡ width_at x (off + k)

same_tests : (a b c d : Bool) → (b ≡ true → c ≡ d) → pick a (pick b c false) false ≡ pick a (pick b d false) false
same_tests a true c d f = ap (λ (e : Bool). pick a e false) (f refl)
same_tests a false c d f = refl

module _ (s : Settings) (x : List ℕ) (off n : ℕ) (h : off + n ≤ length x) where
  -- the part, n octets from off on
  abbrev pub window : List ℕ
  window = part x off n

  pub window_long : length window ≡ n
  window_long = part_length x off n h

  octet_in : (k : ℕ) → k < n → octet_at window k ≡ octet_at x (off + k)
  octet_in k l = get_or-take n (drop off x) k 0 l ∙ get_or-drop off x k 0

  part_in : (i m : ℕ) → i + m ≤ n → part window i m ≡ part x (off + i) m
  part_in i m l =
      let r = drop n (drop off x) in
      let a : i ≤ length window = omega (arith, window_long) in
      let b : m ≤ length (drop i window) = omega (arith, window_long, length-drop i window) in
      sym (take-append-le m (drop i window) r b)
      ∙ ap (take m) (sym (drop-append-le i window r a) ∙ ap (drop i) (take-append-drop n (drop off x)) ∙ drop-drop i off x)

  -- the four octets that a test looks at first
  record Seen (k : ℕ) : Type 0 where
    first : octet_at window k ≡ octet_at x (off + k)
    second : octet_at window (k + 1) ≡ octet_at x (off + k + 1)
    high : octet_at window (k + 6) ≡ octet_at x (off + k + 6)
    low : octet_at window (k + 6 + 1) ≡ octet_at x (off + k + 6 + 1)

  module _ (k : ℕ) (e : Seen k) where
    size_same : size_at window k ≡ size_at x (off + k)
    size_same =
        ap (λ (m : ℕ). m + 7)
        (word_is window (k + 6) ∙ ap₂ (λ (i j : ℕ). i * 256 + j) e.high e.low ∙ sym (word_is x (off + k + 6)))

    mark_same : marked window k ≡ marked x (off + k)
    unfolding marked
    mark_same = ap₂ (λ (i j : ℕ). pick (eqb i 0x4d) (eqb j 0x50) false) e.first e.second

    read_same :
        k + width_at window k ≤ n →
        eqb (read_packet s (part window (k + 2) (size_at window k))).refusal.number 0
        ≡ eqb (read_packet s (part x (off + k + 2) (size_at x (off + k)))).refusal.number 0
    read_same l =
        let a : off + (k + 2) ≡ off + k + 2 = omega arith in
        ap (λ (p : List ℕ). eqb (read_packet s p).refusal.number 0)
        (part_in (k + 2) (size_at window k) (omega arith) ∙ ap₂ (λ (i j : ℕ). part x i j) a size_same)

    -- kept alike, if it lies within the one as within the other
    same : leb (k + width_at window k) (length window) ≡ leb (off + k + width_at x (off + k)) (length x) → kept s window k ≡ kept s x (off + k)
    unfolding kept
    same f =
        same_tests (marked window k) (leb (k + width_at window k) (length window)) _ _
        (λ l. read_same (omega (arith, leb-true (k + width_at window k) (length window) l, window_long)))
        ∙ ap₂
        (λ (a b : Bool). pick a (pick b (eqb (read_packet s (part x (off + k + 2) (size_at x (off + k)))).refusal.number 0) false) false)
        mark_same f

  -- ---- the longest packet lies in the part

  module _ (o : Octets x) (k : ℕ) (l : k + longest ≤ n) where
    seen_inside : Seen k
    seen_inside =
        let a : off + (k + 1) ≡ off + k + 1 = omega arith in
        let b : off + (k + 6) ≡ off + k + 6 = omega arith in
        let c : off + (k + 6 + 1) ≡ off + k + 6 + 1 = omega arith in
        record {
          first = octet_in k (omega arith);
          second = octet_in (k + 1) (omega arith) ∙ ap (octet_at x) a;
          high = octet_in (k + 6) (omega arith) ∙ ap (octet_at x) b;
          low = octet_in (k + 6 + 1) (omega arith) ∙ ap (octet_at x) c;
        }

    mark_inside : marked window k ≡ marked x (off + k)
    mark_inside = mark_same k seen_inside

    width_inside : width_at window k ≡ width_at x (off + k)
    width_inside = ap (λ (m : ℕ). 2 + m) (size_same k seen_inside)

    kept_inside : kept s window k ≡ kept s x (off + k)
    kept_inside =
        let t = number_top 2 x (off + k + 6) o in
        let q : 256 ^ 2 ≡ 65536 = refl in
        let w = width_inside in
        let i : k + width_at window k ≤ length window = omega (arith, t, q, w, window_long) in
        let j : off + k + width_at x (off + k) ≤ length x = omega (arith, t, q) in
        let a = le-leb (k + width_at window k) (length window) i in
        let b = le-leb (off + k + width_at x (off + k)) (length x) j in
        same k seen_inside (a ∙ sym b)

  -- ---- or the part goes to the file's end

  module _ (z : off + n ≡ length x) (k : ℕ) where
    rest_is : window ≡ drop off x
    rest_is = take_all n (drop off x) (omega (arith, length-drop off x))

    octet_rest : (i : ℕ) → octet_at window i ≡ octet_at x (off + i)
    octet_rest i = ap (λ (y : List ℕ). octet_at y i) rest_is ∙ get_or-drop off x i 0

    seen_rest : Seen k
    seen_rest =
        let a : off + (k + 1) ≡ off + k + 1 = omega arith in
        let b : off + (k + 6) ≡ off + k + 6 = omega arith in
        let c : off + (k + 6 + 1) ≡ off + k + 6 + 1 = omega arith in
        record {
          first = octet_rest k;
          second = octet_rest (k + 1) ∙ ap (octet_at x) a;
          high = octet_rest (k + 6) ∙ ap (octet_at x) b;
          low = octet_rest (k + 6 + 1) ∙ ap (octet_at x) c;
        }

    mark_rest : marked window k ≡ marked x (off + k)
    mark_rest = mark_same k seen_rest

    width_rest : width_at window k ≡ width_at x (off + k)
    width_rest = ap (λ (m : ℕ). 2 + m) (size_same k seen_rest)

    kept_rest : kept s window k ≡ kept s x (off + k)
    kept_rest =
        let w = width_rest in
        ⊎_elim
        (λ (q : length window < k + width_at window k).
        let j : length x < off + k + width_at x (off + k) = omega (arith, q, w, window_long) in
        let a = lt-leb (k + width_at window k) (length window) q in
        let b = lt-leb (off + k + width_at x (off + k)) (length x) j in
        same k seen_rest (a ∙ sym b))
        (λ (q : k + width_at window k ≤ length window).
        let j : off + k + width_at x (off + k) ≤ length x = omega (arith, q, w, window_long) in
        let a = le-leb (k + width_at window k) (length window) q in
        let b = le-leb (off + k + width_at x (off + k)) (length x) j in
        same k seen_rest (a ∙ sym b))
        (below_or (length window) (k + width_at window k))

  -- either way
  pub alike : Octets x → (ends : Bool) → (ends ≡ true → off + n ≡ length x) → Alike s x window off (testable ends n)
  unfolding testable
  alike o true z =
      record {
        marks = λ k l. mark_rest (z refl) k;
        tests = λ k l. kept_rest (z refl) k;
        widths = λ k l. width_rest (z refl) k;
      }
  alike o false z =
      record {
        marks = λ k l. mark_inside o k (omega arith);
        tests = λ k l. kept_inside o k (omega arith);
        widths = λ k l. width_inside o k (omega arith);
      }
