-- The steps of a reading, by what holds where they stand; and what a step that was not refused tells.
-- Assumes nothing.
use Prim.Native.Nat.{ℕ, suc, ◌+◌, ◌≤◌, ◌<◌, ◌-◌, min}
use mathlib.Core.Path.{◌≡◌, refl, ap, sym, ◌∙◌}
use mathlib.Core.List.{List}
use mathlib.Core.Bool.{Bool, true, false}
use native.Mathlib.Omega.{arith}
use mathlib.Core.Logic.{⊎_elim}
use lib.ListN.{length, take, drop, length-take}
use lib.Seq.{take_all}
use lib.Dec.{leb, eqb}
use borrow.Author.Tests.{eqb-true, leb-true, le-leb, lt-leb, eq-eqb}
use Rattle.octets.specs.Octets.{pick, Octets}
use Rattle.octets.proofs.Has.{has_inside, octets_take}
use Rattle.varint.specs.Varint.{Got, value, read_at, write}
use Rattle.octets.proofs.Lists.{below_or}
use Rattle.std.specs.Prelude.{Result}
use Rattle.varint.specs.declared.ReadError.{ReadError}
use Rattle.varint.specs.Answer.{found}
use Rattle.varint.proofs.Told.{got, told}
use Rattle.varint.proofs.Laws.{within, only_written}
use Rattle.walk.specs.declared.Bound.{Bound}
use Rattle.walk.specs.Walk.{Reading, goes, refused, going, past, octets, check, field_from, varint_step, varint_field}

-- ---- by cases

module _ (b : Bound) (p : List ℕ) (n : ℕ) (w : Reading) where
  pub octets_refused : going w ≡ false → octets b p n w ≡ w
  unfolding octets
  octets_refused h = simp h

  pub octets_past : going w ≡ true → b.end < w.at + n → octets b p n w ≡ refused w.at (past b)
  unfolding octets
  octets_past h l = simp (h, lt-leb (w.at + n) b.end l)

  pub octets_ends : going w ≡ true → w.at + n ≤ b.end → length p < w.at + n → octets b p n w ≡ refused w.at 6
  unfolding octets
  octets_ends h l e = simp (h, le-leb (w.at + n) b.end l, lt-leb (w.at + n) (length p) e)

  pub octets_goes : going w ≡ true → w.at + n ≤ b.end → w.at + n ≤ length p → octets b p n w ≡ goes (w.at + n)
  unfolding octets
  octets_goes h l e = simp (h, le-leb (w.at + n) b.end l, le-leb (w.at + n) (length p) e)

module _ (ok : Bool) (k : ℕ) (w : Reading) where
  pub check_refused : going w ≡ false → check ok k w ≡ w
  unfolding check
  check_refused h = simp h

  pub check_ok : ok ≡ true → check ok k w ≡ w
  unfolding check
  check_ok h = rw h (same (going w))
    where
      same : (b : Bool) → pick b w w ≡ w
      same true = refl
      same false = refl

  pub check_fails : going w ≡ true → ok ≡ false → check ok k w ≡ refused w.at k
  unfolding check
  check_fails h f = simp (h, f)

module _ (b : Bound) (p : List ℕ) (w : Reading) where
  pub number_refused : going w ≡ false → varint_field b p w ≡ record { walk = w; value = 0 }
  unfolding varint_field
  number_refused h = simp h

  pub number_found : going w ≡ true → {g : Got} → read_at 32 (take b.end p) w.at ≡ g → varint_field b p w ≡ varint_step b p w.at g
  unfolding varint_field
  number_found h e = simp (h, e)

-- ---- what a step that goes on tells

pub record There (b : Bound) (p : List ℕ) (n : ℕ) (w : Reading) : Type 0 where
  pub went : going w ≡ true
  pub limit : w.at + n ≤ b.end
  pub inside : w.at + n ≤ length p
  pub ended : octets b p n w ≡ goes (w.at + n)

-- a reading refused past a bound does not go on
pub past_stops : (at : ℕ) (b : Bool) → going (refused at (pick b 12 6)) ≡ true → ⊥
past_stops at true h = let z : ◌≡◌ {A = ℕ} 0 1 = cc in omega arith
past_stops at false h = let z : ◌≡◌ {A = ℕ} 0 1 = cc in omega arith

passed :
    (g l e k : Bool) (w : Reading) (m : ℕ) → going w ≡ g →
    going (pick g (pick l (pick e (goes m) (refused w.at 6)) (refused w.at (pick k 12 6))) w) ≡ true →
    (g ≡ true) × (l ≡ true) × (e ≡ true)
passed true true true k w m q h = (refl, refl, refl)
passed true true false k w m q h = let z : ◌≡◌ {A = ℕ} 0 1 = cc in absurd (omega arith)
passed true false e k w m q h = absurd (past_stops w.at k h)
passed false l e k w m q h = let z : ◌≡◌ {A = ℕ} 0 1 = cc in absurd (omega arith)

pub octets_there : (b : Bound) (p : List ℕ) (n : ℕ) (w : Reading) → going (octets b p n w) ≡ true → There b p n w
unfolding octets
octets_there b p n w h =
    let a = passed (going w) (leb (w.at + n) b.end) (leb (w.at + n) (length p)) b.limit w (w.at + n) refl h in
    let l = leb-true (w.at + n) b.end a.1 in
    let e = leb-true (w.at + n) (length p) a.2 in
    record { went = a.0; limit = l; inside = e; ended = octets_goes b p n w a.0 l e }

pub record Checked (ok : Bool) (k : ℕ) (w : Reading) : Type 0 where
  pub went : going w ≡ true
  pub held : ok ≡ true
  pub same : check ok k w ≡ w

-- the refusal's number is never 0
pub check_held : (ok : Bool) (k : ℕ) (w : Reading) → going (check ok (suc k) w) ≡ true → Checked ok (suc k) w
unfolding check
check_held ok k w g = go (going w) ok refl refl g
  where
    go :
        (b o : Bool) → going w ≡ b → ok ≡ o → going (pick b (pick o w (refused w.at (suc k))) w) ≡ true →
        Checked ok (suc k) w
    go true true e f h = record { went = e; held = f; same = check_ok ok (suc k) w f }
    go true false e f h = let z : suc k ≡ 0 = eqb-true (suc k) 0 h in absurd (omega arith)
    go false o e f h = let z : ◌≡◌ {A = ℕ} 0 1 = cc in absurd (omega arith)

-- ---- a field of several steps

module _ (w r : Reading) where
  pub field_goes : going r ≡ true → field_from w r ≡ r
  unfolding field_from
  field_goes h = simp h

  pub field_refused : going r ≡ false → field_from w r ≡ refused w.at r.refused
  unfolding field_from
  field_refused h = simp h

  pub field_number : (field_from w r).refused ≡ r.refused
  unfolding field_from
  field_number = same (going r)
    where
      same : (b : Bool) → (pick b r (refused w.at r.refused)).refused ≡ r.refused
      same true = refl
      same false = refl

  -- one that goes on went through all its steps
  pub field_went : going (field_from w r) ≡ true → going r ≡ true
  field_went h = ap (λ (k : ℕ). eqb k 0) (sym field_number) ∙ h

-- ---- a number

-- the value of a number is small, and the place after it within the bound
pub record Small (top v next : ℕ) : Type 0 where
  pub value_top : v < 4294967296
  pub next_top : next ≤ top

pub number_small :
    (top : ℕ) (p : List ℕ) (at v next : ℕ) → Octets p → read_at 32 (take top p) at ≡ value v next → Small top v next
number_small top p at v next o e =
    let q = octets_take top p o in
    let r = only_written 32 (take top p) at v next q e in
    record {
      value_top = omega (arith, within 32 (take top p) at v next q e);
      next_top = omega (arith, r.next_is, has_inside (write v) r.has, length-take top p);
    }

-- the octets up to the bound
limited : (top : ℕ) (p : List ℕ) (n : ℕ) → n ≡ min top (length p) → take (n - 0) (drop 0 p) ≡ take top p
limited top p n e = ⊎_elim short long (below_or (length p) top)
  where
    short : length p < top → take (n - 0) (drop 0 p) ≡ take top p
    short h =
        let k : length p ≤ n - 0 = omega arith in
        let l : length p ≤ top = omega arith in
        take_all (n - 0) p k ∙ sym (take_all top p l)

    long : top ≤ length p → take (n - 0) (drop 0 p) ≡ take top p
    long h = let k : n - 0 ≡ top = omega arith in ap (λ (j : ℕ). take j p) k

-- from the answer of the Varint's reader, over the octets up to the bound, to the reader's step
module _ (b : Bound) (p : List ℕ) (at : ℕ) {end : ℕ} {r q : Result (ℕ × ℕ) ReadError}
    (e : end ≡ min (length p) b.end) (h : r ≡ found (read_at 32 (take end p) at)) (d : r ≡ q) where
  upto : take end p ≡ take b.end p
  upto = ⊎_elim short long (below_or (length p) b.end)
    where
      short : length p < b.end → take end p ≡ take b.end p
      short l = take_all end p (omega arith) ∙ sym (take_all b.end p (omega arith))

      long : b.end ≤ length p → take end p ≡ take b.end p
      long l = let k : end ≡ b.end = omega arith in ap (λ (j : ℕ). take j p) k

  pub varint_got : read_at 32 (take b.end p) at ≡ got q
  varint_got = rw upto at (told (read_at 32 (take end p) at) h d)

  pub varint_told : varint_field b p (goes at) ≡ varint_step b p at (got q)
  varint_told = number_found b p (goes at) refl varint_got

-- from the answer of the Varint's reader, over the octets up to the bound, to the definition
module _ (b : Bound) (p : List ℕ) (w : Reading) {end : ℕ} {r q : Result (ℕ × ℕ) ReadError}
    (e : end ≡ min b.end (length p)) (h : r ≡ found (read_at 32 (take (end - 0) (drop 0 p)) w.at)) (d : r ≡ q) where
  pub number_got : read_at 32 (take b.end p) w.at ≡ got q
  number_got = rw (limited b.end p end e) at (told (read_at 32 (take (end - 0) (drop 0 p)) w.at) h d)

  pub number_told : w.refused ≡ 0 → varint_field b p w ≡ varint_step b p w.at (got q)
  number_told g = number_found b p w (eq-eqb w.refused 0 g) number_got
