-- The writing of fields, on plain values: a number whole or not at all, and the invariant of the loop that writes a domain's parts.
-- Assumes nothing.
use Prim.Native.Nat.{ℕ, suc, ◌+◌, ◌-◌, ◌≤◌, ◌<◌}
use mathlib.Core.Path.{◌≡◌, refl, ap, ap₂, sym, ◌∙◌}
use mathlib.Core.Logic.{⊎_elim}
use mathlib.Core.List.{List, [], ◌∷◌, ◌++◌, append_assoc, append-nil}
use native.Mathlib.Numerals.{add-one}
use native.Mathlib.Omega.{arith}
use lib.ListN.{length, get_or, take, drop, drop_of_length-le}
use lib.Seq.{drop-cons, sets}
use borrow.Author.Tests.{le-leb, lt-leb}
use Rattle.octets.specs.Octets.{room_of}
use Rattle.octets.specs.Laying.{Laid, laid, lay_all, Lays}
use Rattle.octets.proofs.Lists.{below_or}
use Rattle.octets.proofs.Places.{next_part, rest_part}
use Rattle.octets.proofs.Laying.{lays_both, lays_none, lay_fits, lay_not}
use Rattle.std.specs.Prelude.{Option, Some, None, unwrap_or}
use Rattle.varint.specs.Varint.{write, written}
use Rattle.varint.specs.Answer.{put_of}
use Rattle.walk.specs.declared.Settings.{Settings}
use Rattle.fields.specs.Form.{split}
use Rattle.fields.specs.Inner.{part_pieces, parts_pieces}

-- ---- a number

module _ (l k : List ℕ) (at n : ℕ) {r : Option ℕ} (e : r ≡ put_of l at n) (f : k ≡ written l at n) where
  fits_done : at + length (write n) ≤ length l → (r ≡ Some (at + length (write n))) × (k ≡ sets l at (write n))
  unfolding put_of written
  fits_done h =
      let t = le-leb _ _ h in
      (e ∙ rw (t, put_of), f ∙ rw (t, written))

  not_full : length l < at + length (write n) → (r ≡ None) × (k ≡ l)
  unfolding put_of written
  not_full h =
      let t = lt-leb _ _ h in
      (e ∙ rw (t, put_of), f ∙ rw (t, written))

  -- the place after it, or where it was to begin if it does not fit
  pub number_laid : Lays (laid l at) (write n ∷ []) k (unwrap_or r at)
  unfolding lay_all
  number_laid =
      ⊎_elim
      (λ h.
      let g = not_full h in
      let m = lay_not (write n) _ h in
      record { place = rw (g.0) (ap (λ (x : Laid). x.at) (sym m)); octets = g.1 ∙ ap (λ (x : Laid). x.list) (sym m) })
      (λ h.
      let g = fits_done h in
      let m = lay_fits (write n) (laid l at) h in
      record { place = rw (g.0) (ap (λ (x : Laid). x.at) (sym m)); octets = g.1 ∙ ap (λ (x : Laid). x.list) (sym m) })
      (below_or _ _)

-- ---- the parts of a domain

-- the next part and the rest
pub split_more :
    (x ns : List ℕ) (from k : ℕ) → from ≤ length x → k < length ns → {end : ℕ} → end ≡ from + room_of (length x) from (get_or ns k 0) →
    split (drop k ns) (drop from x) ≡ take (end - from) (drop from x) ∷ split (drop (suc k) ns) (drop end x)
unfolding split
split_more x ns from k i h {end} e =
    let t : take (end - from) (drop from x) ≡ take (get_or ns k 0) (drop from x) =
    ap (λ (j : ℕ). take (j - from) (drop from x)) e ∙ next_part x from (get_or ns k 0) i in
    let d : drop end x ≡ drop (get_or ns k 0) (drop from x) = ap (λ (j : ℕ). drop j x) e ∙ rest_part x from _ i in
    ap (λ (y : List ℕ). split y (drop from x)) (drop-cons ns k 0 h)
    ∙ ap₂ (λ (a b : List ℕ). a ∷ split (drop (suc k) ns) b) (sym t) (sym d)

-- k parts are written, up to `from` of the text: what is done and what is left are all the pieces
pub record Parting (s : Settings) (l : List ℕ) (at : ℕ) (x ns : List ℕ) (m : List ℕ) (next from k : ℕ) : Type 0 where
  pub inside : from ≤ length x
  pub most : k ≤ length ns
  pub long : length m ≡ length l
  pub done : List (List ℕ)
  pub lays : Lays (laid l at) done m next
  pub all : parts_pieces s (split ns x) ≡ done ++ parts_pieces s (split (drop k ns) (drop from x))

pub parting_first : (s : Settings) (l : List ℕ) (at : ℕ) (x ns : List ℕ) → Parting s l at x ns l at 0 0
parting_first s l at x ns =
    record { inside = omega arith; most = omega arith; long = refl; done = []; lays = lays_none l at; all = refl }

module _ {s : Settings} {l : List ℕ} {at : ℕ} {x ns m : List ℕ} {next from k : ℕ} (p : Parting s l at x ns m next from k) where
  pub parting_inside : (n : ℕ) → from + room_of (length x) from n ≤ length x
  parting_inside n = omega (arith, p.inside)

  pub parting_turn :
      k < length ns → {m' : List ℕ} {next' end : ℕ} → end ≡ from + room_of (length x) from (get_or ns k 0) → length m' ≡ length m →
      Lays (laid m next) (part_pieces s (take (end - from) (drop from x))) m' next' → Parting s l at x ns m' next' end (k + 1)
  unfolding parts_pieces
  parting_turn h {m'} {next'} {end} e ln b =
      let sp = split_more x ns from k p.inside h e in
      record {
        inside = omega (arith, e, parting_inside (get_or ns k 0));
        most = omega arith;
        long = ln ∙ p.long;
        done = p.done ++ part_pieces s _;
        lays = lays_both p.lays b;
        all =
            rw (add-one k)
            (p.all
            ∙ ap (λ (y : List (List ℕ)). p.done ++ parts_pieces s y) sp
            ∙ sym
            (append_assoc p.done _
            _));
      }

  pub parting_done : length ns ≤ k → Lays (laid l at) (parts_pieces s (split ns x)) m next
  unfolding split parts_pieces
  parting_done h =
      let e : parts_pieces s (split ns x) ≡ p.done =
      p.all ∙ ap (λ (y : List ℕ). p.done ++ parts_pieces s (split y (drop from x))) (drop_of_length-le ns h) ∙ append-nil p.done in
      rw e p.lays

pub length_split : (ns x : List ℕ) → length (split ns x) ≡ length ns
unfolding split
length_split [] x = refl
length_split (n ∷ ns) x = ap suc (length_split ns _)
