-- Entries as numbers, three each, laid one after another over a list; and the stretch that is open at a stop.
-- Assumes nothing.
use Prim.Native.Nat.{ℕ, suc, ◌+◌, ◌-◌, ◌*◌, ◌≤◌, ◌<◌}
use mathlib.Core.Path.{◌≡◌, refl, ap, sym, ◌∙◌}
use mathlib.Core.Logic.{⊎_elim}
use mathlib.Core.List.{List, [], ◌∷◌, ◌++◌}
use native.Mathlib.Omega.{arith}
use lib.ListN.{length, set, length-append}
use lib.Seq.{sets, length-sets}
use borrow.Author.Tests.{lt-ltb, le-ltb}
use Rattle.octets.proofs.Lists.{below_or, sets_append}
use Rattle.salvage.specs.Listing.{Entry, kept_entry, skipped_entry, Stop, stop, stretch}
use Rattle.salvage.specs.Calling.{kind_number, flat}
use Rattle.salvage.specs.Inner.{Puts}

pub flat_append : (a b : List Entry) → flat (a ++ b) ≡ flat a ++ flat b
unfolding flat
flat_append [] b = refl
flat_append (e ∷ a) b = ap (λ (l : List ℕ). kind_number e.kind ∷ e.place ∷ e.long ∷ l) (flat_append a b)

pub flat_long : (a : List Entry) → length (flat a) ≡ length a * 3
unfolding flat
flat_long [] = refl
flat_long (e ∷ a) = omega (arith, flat_long a)

-- laid after what was laid
pub laid_after :
    (l : List ℕ) (n : ℕ) (a b : List Entry) →
    sets (sets l (n * 3) (flat a)) ((n + length a) * 3) (flat b) ≡ sets l (n * 3) (flat (a ++ b))
laid_after l n a b =
    let e : (n + length a) * 3 ≡ n * 3 + length (flat a) = omega (arith, flat_long a) in
    rw (e, flat_append) (sets_append l (n * 3) (flat a) (flat b))

pub laid_first : (l : List ℕ) (a b : List Entry) → sets (sets l 0 (flat a)) (length a * 3) (flat b) ≡ sets l 0 (flat (a ++ b))
laid_first l a b =
    let e : 0 + length a ≡ length a = omega arith in
    ap (λ (i : ℕ). sets (sets l 0 (flat a)) (i * 3) (flat b)) (sym e) ∙ laid_after l 0 a b

pub puts_after :
    {l : List ℕ} {n : ℕ} {a b : List Entry} {m k : List ℕ} {r q : ℕ} → Puts l n a m r → Puts m r b k q → Puts l n (a ++ b) k q
puts_after {l} {n} {a} {b} p q =
    record {
      count = omega (arith, p.count, q.count, length-append a b);
      numbers = q.numbers ∙ rw (p.numbers, p.count) (laid_after l n a b);
    }

-- three numbers of an entry, one after another
pub three_set : (l : List ℕ) (i a b c : ℕ) → set (set (set l i a) (i + 1) b) (i + 2) c ≡ sets l i (a ∷ b ∷ c ∷ [])
three_set l i a b c =
    let e : i + 1 ≡ suc i = omega arith in
    let f : i + 2 ≡ suc (suc i) = omega arith in
    rw (e, f)

-- ---- the open stretch

pub stretch_open : (b at : ℕ) → b < at → stretch (stop b at) ≡ skipped_entry b at ∷ []
unfolding stretch
stretch_open b at h = rw (lt-ltb b at h)

pub stretch_none : (b at : ℕ) → at ≤ b → stretch (stop b at) ≡ []
unfolding stretch
stretch_none b at h = rw (le-ltb b at h)

pub stretch_most : (w : Stop) → length (stretch w) ≤ 1
stretch_most w =
    ⊎_elim
    (λ h. omega (arith, ap (length {A = Entry}) (stretch_open w.begin w.place h)))
    (λ h. omega (arith, ap (length {A = Entry}) (stretch_none w.begin w.place h)))
    (below_or w.begin w.place)

pub puts_open :
    {l m : List ℕ} {n b at : ℕ} → b < at → m ≡ sets l (n * 3) (0 ∷ b ∷ (at - b) ∷ []) → Puts l n (stretch (stop b at)) m (n + 1)
unfolding flat kind_number
puts_open {b = b} {at = at} h e = rw (stretch_open b at h) (record { count = refl; numbers = e })

pub puts_none : {l : List ℕ} {n b at : ℕ} → at ≤ b → Puts l n (stretch (stop b at)) l n
unfolding flat
puts_none {n = n} {b = b} {at = at} h = rw (stretch_none b at h) (record { count = omega arith; numbers = refl })

pub puts_kept :
    {l m : List ℕ} {n at w : ℕ} → m ≡ sets l (n * 3) (1 ∷ at ∷ w ∷ []) → Puts l n (kept_entry at w ∷ []) m (n + 1)
unfolding flat kind_number
puts_kept e = record { count = refl; numbers = e }

pub puts_long : {l : List ℕ} {n : ℕ} {a : List Entry} {m : List ℕ} {r : ℕ} → Puts l n a m r → length m ≡ length l
puts_long {l} {n} {a} p = ap length p.numbers ∙ length-sets l (n * 3) (flat a)

-- after the stretch there is room for one more
pub puts_room :
    (w : Stop) {l : List ℕ} {n : ℕ} {m : List ℕ} {r : ℕ} → Puts l n (stretch w) m r → n * 3 + 6 ≤ length l → r * 3 + 3 ≤ length m
puts_room w p h = omega (arith, puts_long p, p.count, stretch_most w)
