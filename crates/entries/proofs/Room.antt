-- The room of a line: no line is longer than 126 octets, so with 128 free it is laid whole; and no line is laid past the end.
-- Assumes nothing.
use Prim.Native.Nat.{ℕ, zero, suc, ◌+◌, ◌/◌, ◌%◌, ◌≤◌, ◌<◌}
use mathlib.Core.Path.{◌≡◌, refl, ap, ◌∙◌}
use mathlib.Core.Logic.{⊎_elim}
use mathlib.Core.Bool.{Bool, true, false}
use mathlib.Core.List.{List, [], ◌∷◌, ◌++◌}
use native.Mathlib.Omega.{arith}
use lib.ListN.{length, length-append}
use lib.Seq.{sets}
use lib.Dec.{eqb, ltb}
use Rattle.octets.specs.Octets.{pick}
use Rattle.octets.specs.Laying.{Laid, laid, lay, lay_all, together, Lays}
use Rattle.octets.proofs.Laying.{lay_fits, lay_not, lay_length, together_append, lays_all}
use Rattle.octets.proofs.Lists.{below_or}
use Rattle.packet.specs.Format.{flags_whole}
use Rattle.entries.specs.declared.Identity.{Identity}
use Rattle.entries.specs.Lines.{kept_kind, decimal_in, decimal, comma, newline, kept_word, skipped_word, flags_word}
use Rattle.entries.specs.Lines.{next_pieces, counter_pieces, flags_pieces, entry_pieces, kept_pieces, skipped_pieces, line_pieces}

-- ---- how long a line is

either : {A : Type 0} (f : A → ℕ) (m : ℕ) (b : Bool) (x y : A) → f x ≤ m → f y ≤ m → f (pick b x y) ≤ m
either f m true x y h k = h
either f m false x y h k = k

-- f digits at most
digits_most : (f n : ℕ) → length (decimal_in f n) ≤ f
unfolding decimal_in
digits_most zero n = omega arith
digits_most (suc f) n =
    let h = digits_most f (n / 10) in
    let l = length-append (decimal_in f (n / 10)) ((48 + n % 10) ∷ []) in
    either (λ (x : List ℕ). length x) (suc f) (ltb n 10) _ _ (omega arith) (omega (arith, h, l))

abbrev long : List (List ℕ) → ℕ
long xs = length (together xs)

both_long : (xs ys : List (List ℕ)) → long (xs ++ ys) ≡ long xs + long ys
both_long xs ys = ap length (together_append xs ys) ∙ length-append (together xs) (together ys)

cons_long : (x : List ℕ) (xs : List (List ℕ)) → long (x ∷ xs) ≡ length x + long xs
unfolding together
cons_long x xs = length-append x (together xs)

none_long : long [] ≡ 0
unfolding together
none_long = refl

next_most : (n : ℕ) → long (next_pieces n) ≤ 21
next_most n =
    omega (arith, cons_long comma (decimal n ∷ []), cons_long (decimal n) [], none_long, digits_most 20 n)

word_most : (f : ℕ) → length (flags_word f) ≤ 12
unfolding flags_word
word_most f =
    either (λ (x : List ℕ). length x) 12 (eqb f 1) _ _ (omega arith)
    (either (λ (x : List ℕ). length x) 12 (eqb f 2) _ _ (omega arith)
    (either (λ (x : List ℕ). length x) 12 (eqb f 3) _ _ (omega arith) (omega arith)))

counter_most : (f n : ℕ) → long (counter_pieces f n) ≤ 21
unfolding counter_pieces
counter_most f n =
    either long 21 (eqb f flags_whole) _ _ (omega (arith, cons_long comma [], none_long)) (next_most n)

flags_most_lem : (f n : ℕ) → long (flags_pieces f n) ≤ 34
flags_most_lem f n =
    omega (
      arith,
      both_long (comma ∷ flags_word f ∷ []) (counter_pieces f n),
      cons_long comma (flags_word f ∷ []),
      cons_long (flags_word f) [],
      none_long,
      word_most f,
      counter_most f n,
    )

entry_most : (w : List ℕ) (at n : ℕ) → length w ≤ 7 → long (entry_pieces w at n) ≤ 49
entry_most w at n h =
    omega (
      arith,
      both_long (w ∷ []) (next_pieces at ++ next_pieces n),
      both_long (next_pieces at) (next_pieces n),
      cons_long w [],
      none_long,
      next_most at,
      next_most n,
    )

kept_most : (at n : ℕ) (i : Identity) → long (kept_pieces at n i) ≤ 126
unfolding kept_pieces
kept_most at n i =
    let f = flags_pieces i.flags i.counter in
    omega (
      arith,
      both_long (entry_pieces kept_word at n) (next_pieces i.apid ++ (next_pieces i.transaction ++ (f ++ (newline ∷ [])))),
      both_long (next_pieces i.apid) (next_pieces i.transaction ++ (f ++ (newline ∷ []))),
      both_long (next_pieces i.transaction) (f ++ (newline ∷ [])),
      both_long f (newline ∷ []),
      cons_long newline [],
      none_long,
      entry_most kept_word at n (omega arith),
      next_most i.apid,
      next_most i.transaction,
      flags_most_lem i.flags i.counter,
    )

skipped_most : (at n : ℕ) → long (skipped_pieces at n) ≤ 126
unfolding skipped_pieces
skipped_most at n =
    let e : List ℕ = 0x2c ∷ 0x2c ∷ 0x2c ∷ 0x2c ∷ 0x0a ∷ [] in
    omega (arith, both_long (entry_pieces skipped_word at n) (e ∷ []), cons_long e [], none_long, entry_most skipped_word at n (omega arith))

pub line_most : (y : List ℕ) (off kind at n : ℕ) → long (line_pieces y off kind at n) ≤ 126
unfolding line_pieces
line_most y off kind at n = either long 126 (eqb kind kept_kind) _ _ (kept_most at n _) (skipped_most at n)

-- with the room of a line it is laid whole
pub line_whole :
    {l k : List ℕ} {at r : ℕ} (y : List ℕ) (off kind place n : ℕ) → Lays (laid l at) (line_pieces y off kind place n) k r → at + 128 ≤ length l →
    (r ≡ at + long (line_pieces y off kind place n)) × (k ≡ sets l at (together (line_pieces y off kind place n)))
line_whole y off kind place n a h = lays_all a (omega (arith, line_most y off kind place n))

-- ---- nothing is laid past the end

lay_inside : (x : List ℕ) (m : Laid) → m.at ≤ length m.list → (lay x m).at ≤ length (lay x m).list
lay_inside x m h =
    let l = lay_length x m in
    ⊎_elim
    (λ (k : length m.list < m.at + length x). omega (arith, l, ap (λ (j : Laid). j.at) (lay_not x m k)))
    (λ (k : m.at + length x ≤ length m.list). omega (arith, l, ap (λ (j : Laid). j.at) (lay_fits x m k)))
    (below_or (length m.list) (m.at + length x))

all_inside : (xs : List (List ℕ)) (m : Laid) → m.at ≤ length m.list → (lay_all xs m).at ≤ length (lay_all xs m).list
unfolding lay_all
all_inside [] m h = h
all_inside (x ∷ xs) m h = all_inside xs (lay x m) (lay_inside x m h)

pub lays_inside : {l k : List ℕ} {at r : ℕ} {xs : List (List ℕ)} → Lays (laid l at) xs k r → at ≤ length l → r ≤ length k
lays_inside {l} {k} {at} {r} {xs} a h = omega (arith, a.place, ap length a.octets, all_inside xs (laid l at) h)
