-- Pieces laid where there is room, on plain values, and the numbers of a header as the short way puts them together.
-- Assumes nothing.
use Prim.Native.Nat.{ℕ, suc, ◌+◌, ◌-◌, ◌*◌, ◌/◌, ◌%◌, ◌≤◌, ◌<◌}
use mathlib.Core.Path.{◌≡◌, refl, ap, ap₂, sym, ◌∙◌}
use mathlib.Core.Logic.{⊎_elim}
use mathlib.Core.List.{List, [], ◌∷◌, ◌++◌, append_assoc}
use native.Mathlib.Omega.{arith}
use native.Mathlib.Numerals.{add-one}
use lib.Dec.{leb}
use borrow.Author.Tests.{le-leb, lt-leb}
use lib.ListN.{length, get_or, take, drop, set, length-append}
use lib.Seq.{sets}
use Rattle.octets.specs.Octets.{wide, octet_at, room_of}
use Rattle.octets.proofs.Has.{part_length}
use Rattle.octets.specs.Laying.{Laid, laid, lay_all, together, Lays}
use Rattle.octets.proofs.Lists.{sets_append}
use Rattle.octets.proofs.Lists.{below_or}
use Rattle.octets.proofs.Laying.{lay_all_lem, lay_fits, lay_not, lays_both, together_append}
use Rattle.walk.specs.declared.Settings.{Settings}
use Rattle.fields.specs.Form.{uinteger_octets, blob_octets, split}
use Rattle.fields.specs.Inner.{blob_pieces, text_pieces, part_pieces, parts_pieces, domain_pieces}
use Rattle.fields.proofs.Written.{Parting, parting_first, parting_inside, parting_turn, length_split}
use Rattle.write.specs.declared.HeaderValues.{HeaderValues}
use Rattle.write.specs.declared.PacketValues.{PacketValues}
use Rattle.write.specs.Inner.{primary_pieces, name_pieces, routing_pieces, present_octet}
use Rattle.write.proofs.Pieces.{blob_together}
use Rattle.flat.specs.Given.{header_of, packet_of, present_of}
use Rattle.laying.specs.Short.{fixed_pieces}
use Rattle.laying.proofs.Sizes.{small_octets}

-- ---- laying

pub lays_fit :
    (xs : List (List ℕ)) (l : List ℕ) (at : ℕ) {k : List ℕ} {r : ℕ} → at + length (together xs) ≤ length l → k ≡ sets l at (together xs) →
    r ≡ at + length (together xs) → Lays (laid l at) xs k r
lays_fit xs l at h e f =
    let m = lay_all_lem xs (laid l at) h in
    record { place = f ∙ ap (λ (y : Laid). y.at) (sym m); octets = e ∙ ap (λ (y : Laid). y.list) (sym m) }

pub lays_not : (x l : List ℕ) (at : ℕ) → length l < at + length x → Lays (laid l at) (x ∷ []) l at
unfolding lay_all
lays_not x l at h =
    let m = lay_not x (laid l at) h in
    record { place = ap (λ (y : Laid). y.at) (sym m); octets = ap (λ (y : Laid). y.list) (sym m) }

pub one_laid : (x l : List ℕ) (at : ℕ) → at + length x ≤ length l → Lays (laid l at) (x ∷ []) (sets l at x) (at + length x)
unfolding lay_all
one_laid x l at h =
    let m = lay_fits x (laid l at) h in
    record { place = ap (λ (y : Laid). y.at) (sym m); octets = ap (λ (y : Laid). y.list) (sym m) }

pub octet_laid : (l : List ℕ) (at v : ℕ) → at < length l → Lays (laid l at) (wide 1 v ∷ []) (set l at (v % 256)) (at + 1)
unfolding wide
octet_laid l at v h = one_laid (wide 1 v) l at (omega arith)

pub four_laid : (l : List ℕ) (at v : ℕ) → at + 4 ≤ length l → Lays (laid l at) (wide 4 v ∷ []) (sets l at (wide 4 v)) (at + 4)
unfolding wide
four_laid l at v h = one_laid (wide 4 v) l at h

-- room tested by a difference
pub room_same : (len at n : ℕ) → at ≤ len → leb n (len - at) ≡ leb (at + n) len
room_same len at n h =
    ⊎_elim
    (λ k. lt-leb n (len - at) k ∙ sym (lt-leb (at + n) len (omega arith)))
    (λ k. le-leb n (len - at) k ∙ sym (le-leb (at + n) len (omega arith)))
    (below_or (len - at) n)

-- ---- fields whose length is one octet

module _ (s : Settings) (x l : List ℕ) (at : ℕ) (p : s.profile ≡ 0) (m : length x ≤ 127) where
  blob_is : together (blob_pieces s x) ≡ length x ∷ x
  unfolding blob_octets
  blob_is = blob_together s x ∙ ap (λ (u : List ℕ). u ++ x) (small_octets s (length x) p m)

  pub blob_laid :
      at + (length x + 1) ≤ length l → Lays (laid l at) (blob_pieces s x) (sets (set l at (length x)) (at + 1) x) (at + (length x + 1))
  blob_laid h =
      let n : length (together (blob_pieces s x)) ≡ length x + 1 = ap length blob_is ∙ sym (add-one (length x)) in
      lays_fit (blob_pieces s x) l at (omega arith)
      (ap (λ (j : ℕ). sets (set l at (length x)) j x) (add-one at) ∙ ap (sets l at) (sym blob_is))
      (ap (λ (j : ℕ). at + j) (sym n))

  part_is : together (part_pieces s x) ≡ 1 ∷ length x ∷ x
  unfolding part_pieces text_pieces together
  part_is = ap (λ (u : List ℕ). 1 ∷ u) blob_is

  pub part_laid :
      at + (length x + 2) ≤ length l →
      Lays (laid l at) (part_pieces s x) (sets (set (set l at 1) (at + 1) (length x)) (at + 2) x) (at + (length x + 2))
  part_laid h =
      let e : suc (suc (length x)) ≡ length x + 2 = omega arith in
      let b : at + 2 ≡ suc (suc at) = omega arith in
      let n : length (together (part_pieces s x)) ≡ length x + 2 = ap length part_is ∙ e in
      lays_fit (part_pieces s x) l at (omega arith)
      (rw (add-one at, b) (ap (sets l at) (sym part_is)))
      (ap (λ (j : ℕ). at + j) (sym n))

-- a count of parts, and then the parts
pub domain_laid :
    (s : Settings) (x ns l : List ℕ) (at : ℕ) {m : List ℕ} {r : ℕ} → s.profile ≡ 0 → length ns ≤ 16 → at < length l →
    Lays (laid (set l at (length ns)) (at + 1)) (parts_pieces s (split ns x)) m r → Lays (laid l at) (domain_pieces s (split ns x)) m r
unfolding domain_pieces
domain_laid s x ns l at {m} {r} p k h b =
    let e : uinteger_octets s (length (split ns x)) ≡ length ns ∷ [] =
    ap (uinteger_octets s) (length_split ns x) ∙ small_octets s (length ns) p (omega arith) in
    rw e (lays_both (one_laid (length ns ∷ []) l at (omega arith)) b)

-- k parts are laid, and there is room for the rest
pub record Parts (s : Settings) (l : List ℕ) (at : ℕ) (x ns : List ℕ) (m : List ℕ) (next from k : ℕ) : Type 0 where
  pub parting : Parting s l at x ns m next from k
  pub room : next + (2 * (length ns - k) + (length x - from)) ≤ length l

pub parts_first :
    (s : Settings) (l : List ℕ) (at : ℕ) (x ns : List ℕ) → at + (2 * length ns + length x) ≤ length l → Parts s l at x ns l at 0 0
parts_first s l at x ns h = record { parting = parting_first s l at x ns; room = omega arith }

module _ {s : Settings} {l : List ℕ} {at : ℕ} {x ns m : List ℕ} {next from k end : ℕ} (p : Parts s l at x ns m next from k) (h : k < length ns)
    (e : end ≡ from + room_of (length x) from (get_or ns k 0)) where
  part_long : length (take (end - from) (drop from x)) ≡ end - from
  part_long =
      let i = parting_inside p.parting (get_or ns k 0) in
      part_length x from (end - from) (omega (arith, e))

  pub part_brief : length x ≤ 127 → length (take (end - from) (drop from x)) ≤ 127
  part_brief b = let i = parting_inside p.parting (get_or ns k 0) in omega (arith, part_long, e)

  pub part_room : next + (length (take (end - from) (drop from x)) + 2) ≤ length m
  part_room =
      let i = parting_inside p.parting (get_or ns k 0) in
      omega (arith, part_long, e, p.room, p.parting.long, p.parting.inside)

  pub parts_turn :
      {m' : List ℕ} {next' : ℕ} → length m' ≡ length m → Lays (laid m next) (part_pieces s (take (end - from) (drop from x))) m' next' →
      next' ≡ next + (length (take (end - from) (drop from x)) + 2) → Parts s l at x ns m' next' end (k + 1)
  parts_turn ln b f =
      let i = parting_inside p.parting (get_or ns k 0) in
      record { parting = parting_turn p.parting h e ln b; room = omega (arith, part_long, e, p.room, p.parting.inside, f) }

-- ---- numbers

pub wide_two : (l : List ℕ) (at v : ℕ) → set (set l at (v / 256 % 256)) (at + 1) (v % 256) ≡ sets l at (wide 2 v)
unfolding wide
wide_two l at v = rw (add-one at)

pub wide_four :
    (l : List ℕ) (at v : ℕ) →
    set (set (set (set l at (v / 256 / 256 / 256 % 256)) (at + 1) (v / 256 / 256 % 256)) (at + 2) (v / 256 % 256)) (at + 3) (v % 256)
    ≡ sets l at (wide 4 v)
unfolding wide
wide_four l at v =
    let b : at + 2 ≡ suc (suc at) = omega arith in
    let c : at + 3 ≡ suc (suc (suc at)) = omega arith in
    rw (add-one at, b, c)

-- two numbers of two octets as one of four
pub pair : (a b : ℕ) → b < 65536 → wide 4 (a * 65536 + b) ≡ wide 2 a ++ wide 2 b
unfolding wide
pair a b h =
    let p : (a * 65536 + b) / 256 / 256 / 256 % 256 ≡ a / 256 % 256 = omega arith in
    let q : (a * 65536 + b) / 256 / 256 % 256 ≡ a % 256 = omega arith in
    let r : (a * 65536 + b) / 256 % 256 ≡ b / 256 % 256 = omega arith in
    let s : (a * 65536 + b) % 256 ≡ b % 256 = omega arith in
    rw (p, q, r, s)

-- one of eight as two of four
pub halves : (v : ℕ) → wide 4 (v / 4294967296) ++ wide 4 (v % 4294967296) ≡ wide 8 v
unfolding wide
halves v =
    let a : v / 4294967296 / 256 / 256 / 256 % 256 ≡ v / 256 / 256 / 256 / 256 / 256 / 256 / 256 % 256 = omega arith in
    let b : v / 4294967296 / 256 / 256 % 256 ≡ v / 256 / 256 / 256 / 256 / 256 / 256 % 256 = omega arith in
    let c : v / 4294967296 / 256 % 256 ≡ v / 256 / 256 / 256 / 256 / 256 % 256 = omega arith in
    let d : v / 4294967296 % 256 ≡ v / 256 / 256 / 256 / 256 % 256 = omega arith in
    let e : v % 4294967296 / 256 / 256 / 256 % 256 ≡ v / 256 / 256 / 256 % 256 = omega arith in
    let f : v % 4294967296 / 256 / 256 % 256 ≡ v / 256 / 256 % 256 = omega arith in
    let g : v % 4294967296 / 256 % 256 ≡ v / 256 % 256 = omega arith in
    let h : v % 4294967296 % 256 ≡ v % 256 = omega arith in
    rw (a, b, c, d, e, f, g, h)

-- ---- all up to the presence octet

six : (l : List ℕ) (a b n : ℕ) → sets (sets l 0 (wide 2 a ++ wide 2 b)) 4 (wide 2 n) ≡ sets l 0 (wide 2 a ++ (wide 2 b ++ (wide 2 n ++ [])))
unfolding wide
six l a b n = refl

pub primary_laid :
    (h : List ℕ) (flags count n : ℕ) (l : List ℕ) → flags ≤ 3 → count ≤ 16383 →
    sets (sets l 0 (wide 4 ((octet_at h 0 * 4096 + 2048 + octet_at h 1) * 65536 + (flags * 16384 + count)))) 4 (wide 2 n)
    ≡ sets l 0 (together (primary_pieces (header_of h) (packet_of flags count 0) n))
unfolding primary_pieces header_of together
primary_laid h flags count n l f c =
    let id = octet_at h 0 * 4096 + 2048 + octet_at h 1 in
    let sequence = flags * 16384 + count in
    ap (λ (x : List ℕ). sets (sets l 0 x) 4 (wide 2 n)) (pair id sequence (omega arith)) ∙ six l id sequence n

eight :
    (l : List ℕ) (a b c d e : ℕ) →
    set (sets (sets (set l 6 (a % 256)) 7 (wide 2 b ++ wide 2 c)) 11 (wide 2 d)) 13 (e % 256)
    ≡ sets l 6 (wide 1 a ++ (wide 2 b ++ (wide 2 c ++ (wide 2 d ++ (wide 1 e ++ [])))))
unfolding wide
eight l a b c d e = refl

pub names_laid :
    (h l : List ℕ) → octet_at h 4 ≤ 65535 →
    set (sets (sets (set l 6 (octet_at h 2 % 256)) 7 (wide 4 (octet_at h 3 * 65536 + octet_at h 4))) 11 (wide 2 (octet_at h 5))) 13 (octet_at h 6 % 256)
    ≡ sets l 6 (together (name_pieces (header_of h)))
unfolding name_pieces header_of together
names_laid h l b =
    ap (λ (x : List ℕ). set (sets (sets (set l 6 (octet_at h 2 % 256)) 7 x) 11 (wide 2 (octet_at h 5))) 13 (octet_at h 6 % 256))
    (pair (octet_at h 3) (octet_at h 4) (omega arith))
    ∙ eight l (octet_at h 2) (octet_at h 3) (octet_at h 4) (octet_at h 5) (octet_at h 6)

thirteen :
    (l : List ℕ) (a b c d e : ℕ) →
    set (sets (sets (sets l 14 (wide 2 a ++ wide 2 b)) 18 (wide 4 c)) 22 (wide 4 d)) 26 (e % 256)
    ≡ sets l 14 (wide 2 a ++ (wide 2 b ++ ((wide 4 c ++ wide 4 d) ++ (wide 1 e ++ []))))
unfolding wide
thirteen l a b c d e = refl

pub routing_laid :
    (h l : List ℕ) {mixed present : ℕ} → octet_at h 11 ≤ 65535 →
    mixed ≡ octet_at h 7 * 32768 + octet_at h 8 * 8192 + octet_at h 9 * 2048 + octet_at h 10 → present ≡ present_octet (present_of h) →
    set (sets (sets (sets l 14 (wide 4 (mixed * 65536 + octet_at h 11))) 18 (wide 4 (octet_at h 12 / 4294967296))) 22 (wide 4 (octet_at h 12 % 4294967296))) 26
    (present % 256)
    ≡ sets l 14 (together (routing_pieces (header_of h)))
unfolding routing_pieces header_of together
routing_laid h l {mixed} {present} b e f =
    let v = octet_at h 12 in
    ap (λ (x : List ℕ). set (sets (sets (sets l 14 x) 18 (wide 4 (v / 4294967296))) 22 (wide 4 (v % 4294967296))) 26 (present % 256))
    (pair mixed (octet_at h 11) (omega arith))
    ∙ thirteen l mixed (octet_at h 11) (v / 4294967296) (v % 4294967296) present
    ∙ ap (λ (x : List ℕ). sets l 14 (wide 2 mixed ++ (wide 2 (octet_at h 11) ++ (x ++ (wide 1 present ++ []))))) (halves v)
    ∙ ap₂ (λ (x y : ℕ). sets l 14 (wide 2 x ++ (wide 2 (octet_at h 11) ++ (wide 8 v ++ (wide 1 y ++ []))))) e f

module _ (v : HeaderValues) (o : PacketValues) (n : ℕ) where
  six_long : length (together (primary_pieces v o n)) ≡ 6
  unfolding primary_pieces together wide
  six_long = refl

  eight_long : length (together (name_pieces v)) ≡ 8
  unfolding name_pieces together wide
  eight_long = refl

  thirteen_long : length (together (routing_pieces v)) ≡ 13
  unfolding routing_pieces together wide
  thirteen_long = refl

  pub front_laid :
      (l : List ℕ) {m1 m2 m3 : List ℕ} → 27 ≤ length l → m1 ≡ sets l 0 (together (primary_pieces v o n)) → m2 ≡ sets m1 6 (together (name_pieces v)) →
      m3 ≡ sets m2 14 (together (routing_pieces v)) → Lays (laid l 0) (fixed_pieces v o n) m3 27
  front_laid l {m1} {m2} {m3} h e f g =
      let P = together (primary_pieces v o n) in
      let N = together (name_pieces v) in
      let R = together (routing_pieces v) in
      let t : together (fixed_pieces v o n) ≡ P ++ (N ++ R) =
      together_append (primary_pieces v o n) (name_pieces v ++ routing_pieces v) ∙ ap (λ (x : List ℕ). P ++ x) (together_append (name_pieces v) (routing_pieces v)) in
      let j : length (P ++ (N ++ R)) ≡ 27 = omega (arith, length-append P (N ++ R), length-append N R, six_long, eight_long, thirteen_long) in
      let a : m2 ≡ sets (sets l 0 P) (0 + length P) N = rw (six_long) (f ∙ ap (λ (x : List ℕ). sets x 6 N) e) in
      let k : length (P ++ N) ≡ 14 = omega (arith, length-append P N, six_long, eight_long) in
      let b : m3 ≡ sets (sets l 0 (P ++ N)) (0 + length (P ++ N)) R = rw k (g ∙ ap (λ (x : List ℕ). sets x 14 R) (a ∙ sets_append l 0 P N)) in
      lays_fit (fixed_pieces v o n) l 0 (omega (arith, ap length t))
      (b ∙ (sets_append l 0 (P ++ N) R ∙ ap (sets l 0) (append_assoc P N R ∙ sym t)))
      (omega (arith, ap length t, j))
