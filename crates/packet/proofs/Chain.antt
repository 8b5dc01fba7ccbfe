-- A chain of steps as a reader takes them: what each found is what the definition's steps found from the first one on.
-- Assumes nothing.
use Prim.Native.Nat.{ℕ}
use mathlib.Core.Path.{◌≡◌, refl, ap, sym, ◌∙◌, subst}
use mathlib.Core.List.{List}
use mathlib.Core.Bool.{Bool, true, false}
use Rattle.std.specs.Prelude.{Result, Ok}
use Rattle.std.specs.Fn.{Once, FnOnceReturnsAtMut}
use denote.Ref.{MutBor}
use Rattle.walk.specs.declared.Settings.{Settings}
use Rattle.walk.specs.declared.Bound.{Bound}
use Rattle.walk.specs.declared.Reader.{Reader}
use Rattle.walk.specs.declared.Refused.{Refused}
use Rattle.walk.specs.Walk.{Reading, Step, goes}
use Rattle.walk.specs.Read.{Reads, Stopped, Went}
use Rattle.walk.proofs.Keeps.{then_stops}
use Rattle.fields.specs.Fields.{opt}

-- a definition's step, for any reader's settings, bound and octets
abbrev pub at_reader : {A : Type 0} → (Settings → Bound → List ℕ → Reading → Step A) → Reader → Reading → Step A
at_reader f r = f r.settings r.bound r.octets.now

-- the next step, from where the one before ended
module _ {A B : Type 0} (g : Settings → Bound → List ℕ → Reading → Step B) {w : Step A} {r q : Reader} {x : A} (h : Went w r q x) where
  next : at_reader g q (goes q.at) ≡ at_reader g r w.walk
  next = rw (h.settings, h.bound, h.octets, h.walk) refl

  pub then_went : {t : Reader} {y : B} → Went (at_reader g q (goes q.at)) q t y → Went (at_reader g r w.walk) r t y
  then_went {t} {y} k =
      record {
        walk = ap (λ (s : Step B). s.walk) (sym next) ∙ k.walk;
        value = ap (λ (s : Step B). s.value) (sym next) ∙ k.value;
        octets = k.octets ∙ h.octets;
        settings = k.settings ∙ h.settings;
        bound = k.bound ∙ h.bound;
      }

  pub then_stopped : {t : Reader} {e : Refused} → Stopped e (at_reader g q (goes q.at)).walk q t → Stopped e (at_reader g r w.walk).walk r t
  then_stopped {t} {e} k = subst (λ (s : Step B). Stopped e s.walk r t) next (then_stops h k)

-- a step that may be absent, by what `optional` says of it: what is said of the step, of the reader before it and the one after it
module _ {A : Type 0} (f : Settings → Bound → List ℕ → Reading → Step A) (there : Bool) (none : A) (r q : Reader) (x : Result A Refused) where
  pub opted_by :
      (R : (Reading → Step A) → Reader → Reader → Type 0) {F : Type 0}
      (g : Once F (MutBor Reader × Unit {0}) (Result A Refused × (MutBor Reader × Unit {0}))) (c : F) →
      ((s l : MutBor Reader) → g.post c (s, tt) (x, (l, tt)) → R (at_reader f s.now) s.now l.now) →
      (there ≡ true → FnOnceReturnsAtMut g c r x q) → (there ≡ false → R (opt false none (at_reader f r)) r q) →
      R (opt there none (at_reader f r)) r q
  opted_by R g c met there_met absent = go there refl
    where
      go : (b : Bool) → there ≡ b → R (opt b none (at_reader f r)) r q
      go true e =
          let k = there_met e in
          subst (λ (s : Reader). R (at_reader f s) s q) k.shows
          (subst (λ (l : Reader). R (at_reader f k.shown.now) k.shown.now l) k.leaves (met k.shown k.left k.met))
      go false e = absent e

  pub opted :
      {F : Type 0} (g : Once F (MutBor Reader × Unit {0}) (Result A Refused × (MutBor Reader × Unit {0}))) (c : F) →
      ((s l : MutBor Reader) → g.post c (s, tt) (x, (l, tt)) → Reads (at_reader f s.now) s.now l.now x) →
      (there ≡ true → FnOnceReturnsAtMut g c r x q) → (there ≡ false → (x ≡ Ok none) × (q ≡ r)) →
      Reads (opt there none (at_reader f r)) r q x
  opted g c met there_met absent = opted_by (λ (h : Reading → Step A) (s l : Reader). Reads h s l x) g c met there_met out
    where
      out : there ≡ false → Reads (opt false none (at_reader f r)) r q x
      out e =
          let k = absent e in
          subst (λ (s : Reader). Reads (opt false none (at_reader f r)) r s x) (sym k.1)
          (subst (Reads (opt false none (at_reader f r)) r r) (sym k.0)
          (record { walk = refl; value = refl; octets = refl; settings = refl; bound = refl }))
