-- The list from a place on, step by step: what testing the place lists, and then the list from where that leads; and so for the places
-- tested.
-- Assumes nothing.
use Prim.Native.Nat.{ℕ, zero, suc, ◌+◌, ◌-◌, ◌≤◌, ◌<◌}
use mathlib.Core.Path.{◌≡◌, refl, ap, sym, ◌∙◌}
use mathlib.Core.Logic.{⊎_elim}
use mathlib.Core.List.{List, ◌++◌}
use native.Mathlib.Omega.{arith}
use lib.ListN.{length}
use borrow.Author.Tests.{lt-ltb, le-ltb}
use Rattle.octets.proofs.Lists.{below_or, bool}
use Rattle.walk.specs.declared.Settings.{Settings}
use Rattle.salvage.specs.Listing.{kept, Entry, Stop, stretch, listed, onward, list_from, tests_from, list_at, tests_at}
use Rattle.salvage.proofs.Testing.{kept_has, onward_kept, onward_none}

module _ (s : Settings) (x : List ℕ) where
  pub list_more :
      (f : ℕ) (w : Stop) → w.place < length x → list_from s x (suc f) w ≡ listed s x w ++ list_from s x f (onward s x w)
  unfolding list_from
  list_more f w h = rw (lt-ltb _ _ h)

  pub list_end : (f : ℕ) (w : Stop) → length x ≤ w.place → list_from s x f w ≡ stretch w
  unfolding list_from
  list_end zero w h = refl
  list_end (suc f) w h = rw (le-ltb _ _ h)

  pub tests_more : (f : ℕ) (w : Stop) → w.place < length x → tests_from s x (suc f) w ≡ 1 + tests_from s x f (onward s x w)
  unfolding tests_from
  tests_more f w h = rw (lt-ltb _ _ h)

  pub tests_end : (f : ℕ) (w : Stop) → length x ≤ w.place → tests_from s x f w ≡ 0
  unfolding tests_from
  tests_end zero w h = refl
  tests_end (suc f) w h = rw (le-ltb _ _ h)

  -- a place tested leads on, and not out of the file
  pub record Leads (w v : Stop) : Type 0 where
    pub on : w.place < v.place
    pub inside : v.place ≤ length x
    pub order : v.begin ≤ v.place

  pub leads : (w : Stop) → w.begin ≤ w.place → w.place < length x → Leads w (onward s x w)
  leads w o h =
      ⊎_elim
      (λ k. rw (onward_kept s x w.begin w.place k)
      (record { on = omega arith; inside = (kept_has s x w.place k).inside; order = omega arith }))
      (λ k. rw (onward_none s x w.begin w.place k) (record { on = omega arith; inside = omega arith; order = omega arith }))
      (bool (kept s x w.place))

  -- fuel that lasts is as good as any other that does
  list_fuel :
      (f g : ℕ) (w : Stop) → w.begin ≤ w.place → length x ≤ w.place + f → length x ≤ w.place + g →
      list_from s x f w ≡ list_from s x g w
  list_fuel zero g w o h k = list_end 0 w (omega arith) ∙ sym (list_end g w (omega arith))
  list_fuel (suc f) zero w o h k = list_end (suc f) w (omega arith) ∙ sym (list_end 0 w (omega arith))
  list_fuel (suc f) (suc g) w o h k =
      ⊎_elim
      (λ p.
      let l = leads w o p in
      list_more f w p
      ∙ ap (λ (r : List Entry). listed s x w ++ r)
      (list_fuel f g (onward s x w) l.order (omega (arith, l.on)) (omega (arith, l.on)))
      ∙ sym (list_more g w p))
      (λ p. list_end (suc f) w p ∙ sym (list_end (suc g) w p))
      (below_or w.place (length x))

  -- the list from a place on is what testing it lists, and the list from there on
  pub list_next :
      (w : Stop) → w.begin ≤ w.place → w.place < length x → list_at s x w ≡ listed s x w ++ list_at s x (onward s x w)
  list_next w o h =
      let l = leads w o h in
      let e : length x - w.place ≡ suc (length x - w.place - 1) = omega arith in
      ap (λ (f : ℕ). list_from s x f w) e
      ∙ list_more (length x - w.place - 1) w h
      ∙ ap (λ (r : List Entry). listed s x w ++ r)
      (list_fuel (length x - w.place - 1) (length x - (onward s x w).place) (onward s x w) l.order (omega (arith, l.on)) (omega (arith, l.inside)))

  tests_fuel :
      (f g : ℕ) (w : Stop) → w.begin ≤ w.place → length x ≤ w.place + f → length x ≤ w.place + g →
      tests_from s x f w ≡ tests_from s x g w
  tests_fuel zero g w o h k = tests_end 0 w (omega arith) ∙ sym (tests_end g w (omega arith))
  tests_fuel (suc f) zero w o h k = tests_end (suc f) w (omega arith) ∙ sym (tests_end 0 w (omega arith))
  tests_fuel (suc f) (suc g) w o h k =
      ⊎_elim
      (λ p.
      let l = leads w o p in
      tests_more f w p
      ∙ ap (λ (r : ℕ). 1 + r) (tests_fuel f g (onward s x w) l.order (omega (arith, l.on)) (omega (arith, l.on)))
      ∙ sym (tests_more g w p))
      (λ p. tests_end (suc f) w p ∙ sym (tests_end (suc g) w p))
      (below_or w.place (length x))

  pub tests_next : (w : Stop) → w.begin ≤ w.place → w.place < length x → tests_at s x w ≡ 1 + tests_at s x (onward s x w)
  tests_next w o h =
      let l = leads w o h in
      let e : length x - w.place ≡ suc (length x - w.place - 1) = omega arith in
      ap (λ (f : ℕ). tests_from s x f w) e
      ∙ tests_more (length x - w.place - 1) w h
      ∙ ap (λ (r : ℕ). 1 + r)
      (tests_fuel (length x - w.place - 1) (length x - (onward s x w).place) (onward s x w) l.order (omega (arith, l.on)) (omega (arith, l.inside)))
