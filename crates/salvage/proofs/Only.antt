-- No other list covers a file: one that does is the file's list.
-- Assumes nothing.
use Prim.Native.Nat.{ℕ, zero, suc, ◌+◌, ◌-◌, ◌≤◌}
use mathlib.Core.Path.{◌≡◌, refl, ap, sym, ◌∙◌, subst}
use mathlib.Core.Logic.{◌⊎◌, inl, inr, ⊎_elim}
use mathlib.Core.Bool.{true}
use mathlib.Core.List.{List, [], ◌∷◌, ◌++◌, append_assoc, append-nil}
use native.Mathlib.Omega.{arith}
use lib.ListN.{length}
use Rattle.walk.specs.declared.Settings.{Settings}
use Rattle.salvage.specs.Listing.{kept, width_at, Kind, Skipped, Kept, Entry, kept_entry, stop, stretch, listed, list_at, list_of}
use Rattle.salvage.specs.Covering.{Follow, Says, AllSay, begins, Apart, Covers}
use Rattle.salvage.proofs.Numbering.{stretch_open, stretch_none}
use Rattle.salvage.proofs.Testing.{kept_has, listed_kept, listed_none, onward_kept, onward_none}
use Rattle.salvage.proofs.Resuming.{list_end, list_next}
use Rattle.salvage.proofs.Covering.{NoneKept}

follow_order : (es : List Entry) (from end : ℕ) → Follow from end es → from ≤ end
unfolding Follow
follow_order [] from end f = omega arith
follow_order (e ∷ es) from end f = omega (arith, follow_order es (from + e.long) end f.1)

module _ (s : Settings) (x : List ℕ) where
  -- places that are not kept are passed over
  list_skips : (m b at : ℕ) → b ≤ at → at + m ≤ length x → NoneKept s x at (at + m) → list_at s x (stop b at) ≡ list_at s x (stop b (at + m))
  list_skips zero b at o h n = let e : at ≡ at + 0 = omega arith in ap (λ (k : ℕ). list_at s x (stop b k)) e
  list_skips (suc m) b at o h n =
      let e : at + 1 + m ≡ at + suc m = omega arith in
      let k = n at (omega arith) (omega arith) in
      list_next s x (stop b at) o (omega arith)
      ∙ rw (listed_none s x b at k, onward_none s x b at k)
      (list_skips m b (at + 1) (omega arith) (omega arith) (λ j p q. n j (omega arith) (omega arith)))
      ∙ ap (λ (i : ℕ). list_at s x (stop b i)) e

  -- what is to be shown of the entries from a place on, after a stretch that is open up to it
  abbrev Alone : List Entry → Type 0
  Alone es =
      (b at : ℕ) → b ≤ at → NoneKept s x b at → (b ≡ at) ⊎ (begins Skipped es ≡ true) → Covers s x at (length x) es →
      stretch (stop b at) ++ es ≡ list_at s x (stop b at)

  alone_kept : (p l : ℕ) (es : List Entry) → Alone es → Alone (record { kind = Kept; place = p; long = l } ∷ es)
  unfolding Follow AllSay Says Apart
  alone_kept p l es ih b at o n g c =
      let q = c.follow.0 in
      let k : kept s x at ≡ true = subst (λ (m : ℕ). kept s x m ≡ true) q c.say.0.0 in
      let w : l ≡ width_at x at = c.say.0.1 ∙ ap (width_at x) q in
      let m = at + width_at x at in
      let rest : Covers s x m (length x) es =
      record { follow = subst (λ (i : ℕ). Follow (at + i) (length x) es) w c.follow.1; say = c.say.1; apart = c.apart.1 } in
      let same : es ≡ list_at s x (stop m m) =
      ap (λ (y : List Entry). y ++ es) (sym (stretch_none m m (omega arith)))
      ∙ ih m m (omega arith) (λ i j h. absurd (omega arith)) (inl refl) rest in
      (λ i. stretch (stop b at) ++ (record { kind = Kept; place = q i; long = w i } ∷ es))
      ∙ sym (append_assoc (stretch (stop b at)) (kept_entry at (width_at x at) ∷ []) es)
      ∙ ap (λ (y : List Entry). y ++ es) (sym (listed_kept s x b at k))
      ∙ ap (λ (y : List Entry). listed s x (stop b at) ++ y) (same ∙ ap (list_at s x) (sym (onward_kept s x b at k)))
      ∙ sym (list_next s x (stop b at) o (omega (arith, (kept_has s x at k).inside)))

  alone_skipped : (p l : ℕ) (es : List Entry) → Alone es → Alone (record { kind = Skipped; place = p; long = l } ∷ es)
  unfolding Follow AllSay Says Apart begins
  alone_skipped p l es ih b at o n g c =
      ⊎_elim
      (λ (e : b ≡ at).
      let q : p ≡ b = c.follow.0 ∙ sym e in
      let w : l ≡ at + l - b = omega arith in
      let h : at + l ≤ length x = follow_order es (at + l) (length x) c.follow.1 in
      let none : NoneKept s x b (at + l) = λ k i j. c.say.0.1 k (omega arith) (omega (arith, c.follow.0)) in
      rw (stretch_none b at (omega arith))
      ((λ i. record { kind = Skipped; place = q i; long = w i } ∷ es)
      ∙ ap (λ (y : List Entry). y ++ es) (sym (stretch_open b (at + l) (omega (arith, c.say.0.0))))
      ∙ ih b (at + l) (omega arith) none (inr c.apart.0) (record { follow = c.follow.1; say = c.say.1; apart = c.apart.1 })
      ∙ sym (list_skips l b at o h (λ k i j. none k (omega arith) j))))
      (λ f. let z : ◌≡◌ {A = ℕ} 0 1 = cc in absurd (omega arith))
      g

  alone_entry : (k : Kind) (p l : ℕ) (es : List Entry) → Alone es → Alone (record { kind = k; place = p; long = l } ∷ es)
  alone_entry Kept p l es = alone_kept p l es
  alone_entry Skipped p l es = alone_skipped p l es

  alone : (es : List Entry) → Alone es
  unfolding Follow
  alone [] b at o n g c =
      append-nil (stretch (stop b at)) ∙ sym (list_end s x (length x - at) (stop b at) (omega (arith, c.follow)))
  alone (e ∷ es) b at o n g c = alone_entry e.kind e.place e.long es (alone es) b at o n g c

  pub only : (es : List Entry) → Covers s x 0 (length x) es → es ≡ list_of s x
  only es c =
      ap (λ (y : List Entry). y ++ es) (sym (stretch_none 0 0 (omega arith)))
      ∙ alone es 0 0 (omega arith) (λ k i j. absurd (omega arith)) (inl refl) c
