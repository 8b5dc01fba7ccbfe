-- The parts of a domain, each laid where it belongs; after the last, zeros.
-- Assumes nothing.
use Prim.Native.Nat.{ℕ, zero, suc, ◌+◌, ◌*◌, ◌≤◌, ◌<◌}
use mathlib.Core.Path.{◌≡◌, refl, ap, sym, ◌∙◌}
use mathlib.Core.Logic.{⊎_elim}
use mathlib.Core.List.{List, ◌++◌}
use native.Mathlib.Omega.{arith}
use native.Mathlib.Numerals.{add-one}
use lib.ListN.{take, drop, length-take, length-drop, length, get_or, set, replicate, length-set, length-replicate, get_or-replicate, get_or-eq_default}
use lib.Seq.{sets, get_or-set_same, get_or-set_other}
use borrow.Author.Tests.{le-leb}
use Rattle.octets.proofs.Lists.{sets_append, below_or}
use Rattle.walk.specs.declared.Settings.{Settings}
use Rattle.walk.specs.Walk.{Step, goes, header_bound, uinteger}
use Rattle.fields.specs.declared.Place.{Place}
use Rattle.fields.specs.Fields.{Parts, nowhere, no_parts, part, part_at, parts_to, domain}
use Rattle.flat.specs.Told.{place_numbers, places_to}
use Rattle.flat.proofs.Placing.{Placed, placed_next, places_length}
use Rattle.filling.specs.Filling.{Within, Found, Into, NoneFrom, parts_numbers}

-- a place set after the first j of them changes none of these
places_set : (j k : ℕ) (ps : List Place) (v : Place) → j ≤ k → places_to j (set ps k v) ≡ places_to j ps
unfolding places_to
places_set zero k ps v h = refl
places_set (suc j) k ps v h =
    let a = places_set j k ps v (omega arith) in
    let b : get_or (set ps k v) j nowhere ≡ get_or ps j nowhere = get_or-set_other ps k j v nowhere (λ e. omega arith) in
    rw (a, b)

nowhere_from : NoneFrom (replicate 16 nowhere) 0
nowhere_from j h =
    ⊎_elim (λ q. get_or-replicate 16 j nowhere nowhere q)
    (λ q.
    let z : length (replicate {A = Place} 16 nowhere) ≤ j = omega (arith, length-replicate {A = Place} 16 nowhere, q) in
    get_or-eq_default (replicate 16 nowhere) nowhere z)
    (below_or j 16)

abbrev begin : ℕ → ℕ → Step Parts
begin n from = record { walk = goes from; value = no_parts n }

module _ (s : Settings) (p : List ℕ) (n from : ℕ) where
  abbrev to : ℕ → Step Parts
  to k = parts_to s header_bound p k (begin n from)

  abbrev places : ℕ → List Place
  places k = (to k).value.places

  parts_sixteen : (k : ℕ) → length (places k) ≡ 16
  unfolding parts_to part_at
  parts_sixteen zero = length-replicate {A = Place} 16 nowhere
  parts_sixteen (suc k) = length-set (places k) k _ ∙ parts_sixteen k

  parts_count : (k : ℕ) → (to k).value.count ≡ n
  unfolding parts_to part_at
  parts_count zero = refl
  parts_count (suc k) = parts_count k

  pub parts_none : (k : ℕ) → NoneFrom (places k) k
  unfolding parts_to part_at
  parts_none zero j h = nowhere_from j h
  parts_none (suc k) j h = get_or-set_other (places k) k j _ nowhere (λ e. omega arith) ∙ parts_none k j (omega arith)

  -- k parts are laid; at is the place after them
  pub record Parted (lim : ℕ) (l m : List ℕ) (at k : ℕ) : Type 0 where
    pub within : k ≤ n
    pub here : Within p lim at
    pub walk : (to k).walk ≡ goes at
    pub same : m ≡ sets l 35 (places_to k (places k))

  pub parted_none : {lim : ℕ} (l : List ℕ) → Within p lim from → Parted lim l l from 0
  unfolding parts_to places_to
  parted_none l t = record { within = omega arith; here = t; walk = refl; same = refl }

  pub parted_next :
      {lim : ℕ} {l m o : List ℕ} {at r k : ℕ} → n ≤ 16 → Parted lim l m at k → k < n →
      Into p (part s header_bound p (goes at)) place_numbers (35 + 2 * k) lim m o r → Parted lim l o r (k + 1)
  unfolding parts_to part_at places_to
  parted_next {lim} {l} {m} {o} {at} {r} {k} f d h i =
      rw add-one
      record {
        within = omega arith;
        here = i.within;
        walk = rw d.walk i.walk;
        same =
            let v = (part s header_bound p (goes at)).value in
            let x = places_to k (places k) in
            let a : places_to k (set (places k) k v) ≡ x = places_set k k (places k) v (omega arith) in
            let b : get_or (set (places k) k v) k nowhere ≡ v =
            get_or-set_same (places k) k v nowhere (omega (arith, parts_sixteen k)) in
            let c : sets m (35 + 2 * k) (place_numbers v) ≡ sets (sets l 35 x) (35 + length x) (place_numbers v) =
            rw (d.same, places_length k (places k)) in
            let q : o ≡ sets l 35 (x ++ place_numbers v) = i.same ∙ c ∙ sets_append l 35 x (place_numbers v) in
            rw (d.walk, a, b) q;
      }

  pub parted_done :
      {lim : ℕ} {l m : List ℕ} {at k : ℕ} → Parted lim l m at k → n ≤ k → Into p (to n) (λ d. places_to n d.places) 35 lim l m at
  parted_done {lim} {l} {m} {at} {k} d h =
      let e : k ≡ n = omega (arith, d.within) in
      record { within = d.here; walk = rw e at d.walk; same = rw e at d.same }

-- zeros after the last part
pub record Emptied (from : ℕ) (l m : List ℕ) (k : ℕ) : Type 0 where
  pub least : from ≤ k
  pub laid : (ps : List Place) (o : List ℕ) → NoneFrom ps from → l ≡ sets o 35 (places_to from ps) → Placed o 35 ps m k

pub emptied_none : (from : ℕ) (l : List ℕ) → from ≤ 16 → Emptied from l l from
emptied_none from l h = record { least = omega arith; laid = λ ps o z e. record { within = h; same = e } }

pub emptied_next :
    {from : ℕ} {l m o : List ℕ} {k : ℕ} → Emptied from l m k → k < 16 → o ≡ sets m (35 + 2 * k) (place_numbers nowhere) → Emptied from l o (k + 1)
emptied_next {from} {l} {m} {o} {k} d h e =
    record {
      least = omega (arith, d.least);
      laid =
          λ ps q z g.
          placed_next q 35 ps m o k (d.laid ps q z g) (omega arith)
          (e ∙ ap (λ (x : Place). sets m (35 + 2 * k) (place_numbers x)) (sym (z k d.least)));
    }

-- no domain at all
nothing : (l : List ℕ) (ps : List Place) → l ≡ sets l 35 (places_to 0 ps)
unfolding places_to
nothing l ps = refl

pub nothing_there :
    (l : List ℕ) {o : List ℕ} →
    ((ps : List Place) (q : List ℕ) → NoneFrom ps 0 → set l 34 0 ≡ sets q 35 (places_to 0 ps) → o ≡ sets q 35 (places_to 16 ps)) →
    o ≡ sets l 34 (parts_numbers (no_parts 0))
nothing_there l {o} z =
    z (replicate 16 nowhere) (set l 34 0) nowhere_from (nothing (set l 34 0) (replicate 16 nowhere))

-- the whole domain, from its count on
module _ (s : Settings) (p : List ℕ) (at : ℕ) {lim next n : ℕ} (c : Found p (uinteger s header_bound p (goes at)) lim next n) (f : n ≤ 16) where
  domain_is : domain s header_bound p (goes at) ≡ parts_to s header_bound p n (begin n next)
  unfolding domain
  domain_is = rw (c.same, le-leb n 16 f)

  pub domain_there :
      {l m o : List ℕ} {r : ℕ} →
      Into p (parts_to s header_bound p n (begin n next)) (λ d. places_to n d.places) 35 lim (set l 34 n) m r →
      ((ps : List Place) (q : List ℕ) → NoneFrom ps n → m ≡ sets q 35 (places_to n ps) → o ≡ sets q 35 (places_to 16 ps)) →
      Into p (domain s header_bound p (goes at)) parts_numbers 34 lim l o r
  domain_there {l} {m} {o} {r} i y =
      let ps = (parts_to s header_bound p n (begin n next)).value.places in
      record {
        within = i.within;
        walk = rw domain_is i.walk;
        same =
            let a : o ≡ sets (set l 34 n) 35 (places_to 16 ps) = y ps (set l 34 n) (parts_none s p n next n) i.same in
            rw (domain_is, parts_count s p n next n) a;
      }

-- the places of the texts
pub texts_long : (l : List ℕ) → length l ≡ 75 → length (take 41 (drop 28 l)) ≡ 41
texts_long l e = omega (arith, length-take 41 (drop 28 l), length-drop 28 l)
