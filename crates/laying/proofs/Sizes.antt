-- H of a header that is ready: each flag counts for the octet that it, or a length, takes; the rest are the octets lent.
-- Assumes nothing.
use Prim.Native.Nat.{ℕ, ◌+◌, ◌*◌, ◌≤◌}
use mathlib.Core.Path.{◌≡◌, refl, ap, sym}
use mathlib.Core.Bool.{Bool, true, false}
use mathlib.Core.List.{List, [], ◌∷◌}
use native.Mathlib.Omega.{arith}
use lib.ListN.{length, take, drop, length-append, length-take, length-drop}
use lib.Dec.{eqb}
use borrow.Author.Tests.{eq-eqb, ne_eqb, eqb-true}
use Rattle.octets.specs.Octets.{pick, octet_at as number_at}
use Rattle.varint.proofs.Forms.{write_small, size_most_lem}
use Rattle.walk.specs.declared.Settings.{Settings}
use Rattle.fields.specs.Form.{uinteger_octets, text_octets, part_octets, joined, domain_octets, split}
use Rattle.fields.proofs.Written.{length_split}
use Rattle.fields.proofs.Sized.{text_long}
use Rattle.packet.specs.Format.{header_octets}
use Rattle.write.specs.Given.{Lent, head_of, sum, exact_fits, lengths_fit}
use Rattle.write.specs.Inner.{present_octet}
use Rattle.write.proofs.Sizes.{header_length_lem}
use Rattle.flat.specs.Given.{header_of, present_of}
use Rattle.laying.specs.Short.{InLimits, Brief, Ready}
use Rattle.laying.proofs.Checks.{flagged, down}

-- with Varints, a small number is one octet
pub small_octets : (s : Settings) (n : ℕ) → s.profile ≡ 0 → n ≤ 127 → uinteger_octets s n ≡ n ∷ []
unfolding uinteger_octets
small_octets s n p h = rw (ne_eqb s.profile 1 (λ e. omega arith)) (write_small n (omega arith))

pub small_size : (s : Settings) (n : ℕ) → s.profile ≡ 0 → n ≤ 127 → length (uinteger_octets s n) ≡ 1
small_size s n p h = ap length (small_octets s n p h)

-- a number of 32 bits has at most five octets
pub number_size : (s : Settings) (n : ℕ) → s.profile ≡ 0 → n ≤ 4294967295 → length (uinteger_octets s n) ≤ 5
unfolding uinteger_octets
number_size s n p h = rw (ne_eqb s.profile 1 (λ e. omega arith)) (size_most_lem 4 n (omega arith))

pub flag_size : {f : ℕ} → f ≤ 1 → pick (eqb f 1) 1 0 ≡ f
flag_size {f} l = flagged f l (λ e. rw (eq-eqb f 1 e) (sym e)) (λ e. rw (down e) (sym e))

time_size : {f n : ℕ} (T : ℕ) → f ≤ 1 → exact_fits (eqb f 1) n T ≡ true → pick (eqb f 1) n 0 ≡ n
time_size {f} {n} T l e = go (eqb f 1) e
  where
    go : (b : Bool) → exact_fits b n T ≡ true → pick b n 0 ≡ n
    go true q = refl
    go false q = sym (eqb-true n 0 q)

blob_size : (s : Settings) {f n : ℕ} → s.profile ≡ 0 → f ≤ 1 → Brief f n → pick (eqb f 1) (length (uinteger_octets s n) + n) 0 ≡ f + n
blob_size s {f} {n} p l b =
    flagged f l
    (λ e. let k = small_size s n p b.most in rw (eq-eqb f 1 e) (omega arith))
    (λ e. let k = b.absent e in rw (down e) (omega arith))

part_size : (s : Settings) (x : List ℕ) → s.profile ≡ 0 → length x ≤ 127 → length (part_octets s x) ≡ 2 + length x
unfolding part_octets
part_size s x p h = omega (arith, length-append (1 ∷ []) (text_octets s x), text_long s x, small_size s (length x) p h)

parts_size :
    (s : Settings) (ns x : List ℕ) → s.profile ≡ 0 → sum ns ≡ length x → length x ≤ 127 →
    length (joined (part_octets s) (split ns x)) ≡ 2 * length ns + length x
unfolding joined split sum
parts_size s [] x p e h = omega arith
parts_size s (n ∷ ns) x p e h =
    let a = length-take n x in
    let b = length-drop n x in
    let c = part_size s (take n x) p (omega arith) in
    let d = parts_size s ns (drop n x) p (omega arith) (omega arith) in
    omega (arith, length-append (part_octets s (take n x)) (joined (part_octets s) (split ns (drop n x))))

domain_size :
    (s : Settings) {f : ℕ} (ns x : List ℕ) → s.profile ≡ 0 → f ≤ 1 → Brief f (length x) → length ns ≤ 16 → lengths_fit (eqb f 1) ns (length x) ≡ true →
    pick (eqb f 1) (length (domain_octets s (split ns x))) 0 ≡ f + (2 * length ns + length x)
unfolding domain_octets
domain_size s {f} ns x p l b m g =
    flagged f l
    (λ e.
    let t = eq-eqb f 1 e in
    let k = eqb-true (sum ns) (length x) (rw t at g) in
    let j = length_split ns x in
    let q = small_size s (length (split ns x)) p (omega arith) in
    rw t (omega (arith, length-append (uinteger_octets s (length (split ns x))) (joined (part_octets s) (split ns x)), parts_size s ns x p k b.most)))
    (λ e.
    let t = down e in
    let k = eqb-true (length ns) 0 (rw t at g) in
    rw t (omega (arith, b.absent e)))

-- H, as the code adds it up
pub header_size_lem :
    {s : Settings} {h : List ℕ} {t : Lent} → Ready s h t → {p r : ℕ} → p ≡ pick (eqb (number_at h 15) 1) (length (uinteger_octets s (number_at h 23))) 0 →
    r
    ≡ 21 + (number_at h 13 + number_at h 14 + number_at h 18 + number_at h 19 + number_at h 20) + p + length t.timestamp + length t.session_name + length t.domain
    + 2 * length t.lengths
    + length t.authentication →
    r ≡ length (header_octets s (head_of (header_of h) t))
unfolding head_of header_of present_of
header_size_lem {s} {h} {t} r e f =
    let n = r.numbers in
    let l = n.limited in
    let x = r.texts in
    omega (
      arith,
      f,
      e,
      header_length_lem s (head_of (header_of h) t),
      flag_size l.has_source,
      flag_size l.has_destination,
      time_size s.t l.has_timestamp x.timestamp,
      blob_size s {f = number_at h 17} n.profile (omega (arith, l.has_zone)) (record { absent = λ q. x.zone; most = omega (arith, x.zone) }),
      blob_size s n.profile l.has_name x.name,
      domain_size s t.lengths t.domain n.profile l.has_domain x.domain x.parts x.lengths,
      blob_size s n.profile l.has_authentication x.authentication,
      l.has_zone,
      x.zone,
    )

-- ---- the presence octet

pub present_is :
    {h : List ℕ} → InLimits h →
    128 * number_at h 13 + 64 * number_at h 14 + 32 * number_at h 15 + 16 * number_at h 16 + 8 * number_at h 17 + 4 * number_at h 18 + 2 * number_at h 19 + number_at h 20
    ≡ present_octet (present_of h)
unfolding present_octet present_of
present_is {h} l =
    omega (
      arith,
      flag_size l.has_source,
      flag_size l.has_destination,
      flag_size l.has_priority,
      flag_size l.has_timestamp,
      flag_size {f = number_at h 17} (omega (arith, l.has_zone)),
      flag_size l.has_name,
      flag_size l.has_domain,
      flag_size l.has_authentication,
    )
