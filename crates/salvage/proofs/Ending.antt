-- The end of a call, as the code makes it: on plain values.
-- Assumes nothing.
use Prim.Native.Nat.{ℕ, ◌+◌, ◌*◌, ◌≤◌, ◌<◌}
use mathlib.Core.Path.{◌≡◌, refl, ap, ◌∙◌}
use mathlib.Core.Logic.{⊎_elim}
use mathlib.Core.Bool.{Bool, true, false}
use mathlib.Core.List.{List, [], ◌∷◌}
use native.Mathlib.Omega.{arith}
use lib.Seq.{sets}
use lib.Dec.{eqb, leb}
use borrow.Author.Tests.{eq-eqb, ne_eqb, le-leb, lt-leb, eqb-true}
use Rattle.octets.specs.Octets.{pick}
use Rattle.octets.proofs.Lists.{below_or, pick_false}
use lib.ListN.{length}
use Rattle.salvage.specs.Answer.{Salvaged}
use Rattle.salvage.specs.Listing.{skipped_entry, Stop, stop, stretch}
use Rattle.salvage.specs.Calling.{Called, ending, flat, is_done, as_told}
use Rattle.salvage.specs.Inner.{told_after, Puts}
use Rattle.salvage.proofs.Numbering.{stretch_open, stretch_none, stretch_most}

-- handed over as it is, and listed
abbrev pub handed : Stop → Called
handed w = record { tested = 0; entries = []; stop = w }

abbrev pub closed : ℕ → ℕ → Called
closed b at = record { tested = 0; entries = skipped_entry b at ∷ []; stop = stop at at }

abbrev pub listed_end : ℕ → Stop → Called
listed_end n w = record { tested = 0; entries = stretch w; stop = stop n n }

same_both : (q : Bool) (c : Called) → pick q c c ≡ c
same_both true c = refl
same_both false c = refl

module _ (n free b at : ℕ) where
  pub ending_on : (at ≡ n → ⊥) → ending n free (stop b at) ≡ handed (stop b at)
  unfolding ending
  ending_on h = rw (ne_eqb at n h)

  pub ending_empty : b ≡ at → ending n free (stop b at) ≡ handed (stop b at)
  unfolding ending
  ending_empty h = rw (stretch_none b at (omega arith), h) (same_both (pick (eqb at n) (leb 0 free) false) (handed (stop at at)))

  pub ending_full : b < at → free ≡ 0 → ending n free (stop b at) ≡ handed (stop b at)
  unfolding ending
  ending_full h k = rw (stretch_open b at h, lt-leb 1 free (omega arith), pick_false (eqb at n))

  pub ending_none : free ≡ 0 → b ≤ at → ending n free (stop b at) ≡ handed (stop b at)
  ending_none k h = ⊎_elim (λ j. ending_full j k) (λ j. ending_empty (omega arith)) (below_or b at)

  pub ending_open : at ≡ n → b < at → 1 ≤ free → ending n free (stop b at) ≡ closed b at
  unfolding ending
  ending_open e h k = rw (stretch_open b at h, eq-eqb at n e, le-leb 1 free k)

  pub ending_listed : at ≡ n → 1 ≤ free → ending n free (stop b at) ≡ listed_end n (stop b at)
  unfolding ending
  ending_listed e k =
      let m : length (stretch (stop b at)) ≤ free = omega (arith, stretch_most (stop b at)) in
      rw (eq-eqb at n e, le-leb _ free m) (ap (λ (i : ℕ). record { tested = 0; entries = stretch (stop b at); stop = stop i i }) e)

module _ (n free tested entries : ℕ) (w : Stop) {r : Salvaged} where
  pub finish_on :
      {l : List ℕ} → ending n free w ≡ handed w → r ≡ as_told n tested entries w →
      (r ≡ told_after n tested entries (ending n free w)) × (l ≡ sets l (entries * 3) (flat (ending n free w).entries))
  unfolding flat
  finish_on e t =
      let p : tested + 0 ≡ tested = omega arith in
      let q : entries + 0 ≡ entries = omega arith in
      (t ∙ rw (e, p, q), rw e)

  pub finish_open :
      {l m : List ℕ} {k : ℕ} → ending n free w ≡ listed_end n w → r ≡ as_told n tested k (stop n n) → Puts l entries (stretch w) m k →
      (r ≡ told_after n tested entries (ending n free w)) × (m ≡ sets l (entries * 3) (flat (ending n free w).entries))
  finish_open e t p =
      let z : tested + 0 ≡ tested = omega arith in
      (t ∙ rw (e, z, p.count), p.numbers ∙ rw e)

-- ---- done

pub no_true : false ≡ true → ⊥
no_true e = let z : ◌≡◌ {A = ℕ} 0 1 = cc in omega arith

both_true : (a b : Bool) → pick a b false ≡ true → (a ≡ true) × (b ≡ true)
both_true true b e = (refl, e)
both_true false b e = absurd (no_true e)

pub done_stop : (n : ℕ) (w : Stop) → is_done n w ≡ true → w ≡ stop n n
done_stop n w e =
    let t = both_true (eqb w.begin n) (eqb w.place n) e in
    let b = eqb-true w.begin n t.0 in
    let p = eqb-true w.place n t.1 in
    λ i. stop (b i) (p i)
