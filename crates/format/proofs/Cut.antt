-- A packet that ends inside a field: reading is refused by 6, and tells where that field began. Here what it is to end inside octets,
-- where the fields begin that are put together of others, and the law for each way to put them together.
-- Assumes nothing.
use Prim.Native.Nat.{ℕ, ◌+◌, ◌-◌, ◌≤◌, ◌<◌}
use mathlib.Core.Path.{◌≡◌, refl, ap, sym, ◌∙◌, subst}
use mathlib.Core.Logic.{⊎_elim}
use mathlib.Core.List.{List, [], ◌∷◌, ◌++◌, append_assoc, append-nil}
use mathlib.Core.Bool.{false}
use native.Mathlib.Omega.{arith}
use native.Mathlib.Nat.{add-zero, zero-add, add_assoc}
use lib.ListN.{length, take, length-append}
use lib.Seq.{take-append-le, take-append-add}
use borrow.Author.Tests.{lt-ltb, le-ltb}
use Rattle.octets.proofs.Lists.{below_or}
use Rattle.octets.proofs.Has.{Has, has_first, has_second}
use Rattle.walk.specs.declared.Bound.{Bound}
use Rattle.walk.specs.Walk.{Reading, goes, refused, going}
use Rattle.fields.specs.Form.{joined}
use Rattle.packet.specs.Began.{began}
use Rattle.format.proofs.Field.{Room, room_first, room_second, Field}

-- ---- lists of fields

-- the octets of fields, one after another
abbrev pub all : List (List ℕ) → List ℕ
all fs = joined (λ f. f) fs

pub all_append : (a b : List (List ℕ)) → all (a ++ b) ≡ all a ++ all b
unfolding joined
all_append [] b = refl
all_append (f ∷ a) b = ap (λ (l : List ℕ). f ++ l) (all_append a b) ∙ sym (append_assoc f (all a) (all b))

pub all_none : all [] ≡ []
unfolding joined
all_none = refl

pub began_one : (f : List ℕ) (k : ℕ) → k < length f → began (f ∷ []) k ≡ 0
unfolding began
began_one f k l = rw (lt-ltb k (length f) l) refl

pub began_first : (a b : List (List ℕ)) (k : ℕ) → k < length (all a) → began (a ++ b) k ≡ began a k
unfolding began joined
began_first [] b k l = absurd (omega arith)
began_first (f ∷ a) b k l = ⊎_elim here (later (began_first a b (k - length f))) (below_or k (length f))
  where
    here : k < length f → began (f ∷ a ++ b) k ≡ began (f ∷ a) k
    here h = rw (lt-ltb k (length f) h) refl

    later :
        (k - length f < length (all a) → began (a ++ b) (k - length f) ≡ began a (k - length f)) → length f ≤ k →
        began (f ∷ a ++ b) k ≡ began (f ∷ a) k
    later r h =
        let e = simp length-append at l in
        rw (le-ltb k (length f) h) (ap (λ (n : ℕ). length f + n) (r (omega arith)))

pub began_second : (a b : List (List ℕ)) (k : ℕ) → length (all a) ≤ k → began (a ++ b) k ≡ length (all a) + began b (k - length (all a))
unfolding began joined
began_second [] b k l = let e : k ≡ k - 0 = omega arith in ap (began b) e ∙ sym (zero-add (began b (k - 0)))
began_second (f ∷ a) b k l =
    let e = simp length-append at l in
    let h : length f ≤ k = omega arith in
    let r = began_second a b (k - length f) (omega arith) in
    let m : k - length f - length (all a) ≡ k - length (f ++ all a) = simp length-append (omega arith) in
    rw (le-ltb k (length f) h)
    (ap (λ (n : ℕ). length f + n) r
    ∙ sym (add_assoc (length f) (length (all a)) (began b (k - length f - length (all a))))
    ∙ ap (λ (n : ℕ). n + began b (k - length f - length (all a))) (sym (length-append f (all a)))
    ∙ ap (λ (n : ℕ). length (f ++ all a) + began b n) m)

module _ (bound : Bound) (p : List ℕ) where
  -- p ends inside the octets l at place i: it has the first of them, and not all
  pub record Ends (i : ℕ) (l : List ℕ) : Type 0 where
    pub from : i ≤ length p
    pub short : length p < i + length l
    pub has : Has p i (take (length p - i) l)

  -- in the first octets, or in those after them
  pub ends_first : {i : ℕ} (a b : List ℕ) → Ends i (a ++ b) → length p - i < length a → Ends i a
  ends_first {i} a b e l =
      let f = e.from in
      record {
        from = e.from;
        short = omega arith;
        has = subst (λ (x : List ℕ). Has p i x) (take-append-le (length p - i) a b (omega arith)) e.has;
      }

  module _ {i : ℕ} (a b : List ℕ) (e : Ends i (a ++ b)) (l : length a ≤ length p - i) where
    both : Has p i (a ++ take (length p - (i + length a)) b)
    both =
        let f = e.from in
        let k : length p - i ≡ length a + (length p - (i + length a)) = omega arith in
        subst (λ (x : List ℕ). Has p i x) (ap (λ (n : ℕ). take n (a ++ b)) k ∙ take-append-add a b (length p - (i + length a))) e.has

    pub first_has : Has p i a
    first_has = has_first a (take (length p - (i + length a)) b) both

    pub ends_second : Ends (i + length a) b
    ends_second =
        let f = e.from in
        let s = simp length-append at e.short in
        record {
          from = omega arith;
          short = omega arith;
          has = has_second a (take (length p - (i + length a)) b) both;
        }

  -- ---- a field at which a packet may end: `fields` are the ones that it is made of, or it alone

  pub record Cuts {A : Type 0} (step : Reading → Reading) (form : A → List ℕ) (Fit : A → Type 0) (fields : A → List (List ℕ)) : Type 0 where
    pub stays : (w : Reading) → going w ≡ false → step w ≡ w
    pub octets : (x : A) → all (fields x) ≡ form x
    pub ends :
        (i : ℕ) (x : A) → Fit x → Room bound i (form x) → Ends i (form x) →
        step (goes i) ≡ refused (i + began (fields x) (length p - i)) 6

  abbrev pub Cut : {A : Type 0} → Field bound p A → (A → List (List ℕ)) → Type 0
  Cut F fields = Cuts F.step F.form F.Fit fields

  pub one_octets : (f : List ℕ) → all (f ∷ []) ≡ f
  unfolding joined
  one_octets f = append-nil f

  -- a field by itself begins where it begins
  pub at_start : (i : ℕ) (f : List ℕ) → Ends i f → refused i 6 ≡ refused (i + began (f ∷ []) (length p - i)) 6
  at_start i f e =
      let g = e.from in
      let s = e.short in
      ap (λ (n : ℕ). refused n 6) (sym (ap (λ (n : ℕ). i + n) (began_one f (length p - i) (omega arith)) ∙ add-zero i))

  -- the same fields under another name
  pub cut_as :
      {A : Type 0} {step : Reading → Reading} {form : A → List ℕ} {Fit : A → Type 0} {f : A → List (List ℕ)} (g : A → List (List ℕ)) →
      ((x : A) → f x ≡ g x) → Cuts step form Fit f → Cuts step form Fit g
  cut_as g same c =
      record {
        stays = c.stays;
        octets = λ x. ap all (sym (same x)) ∙ c.octets x;
        ends = λ i x t l e. c.ends i x t l e ∙ ap (λ (y : List (List ℕ)). refused (i + began y (length p - i)) 6) (same x);
      }

  -- ---- a field, and one that its value decides

  module _ {A B : Type 0} (F : Field bound p A) {f : A → List (List ℕ)} {next : A → Reading → Reading} {form : A → B → List ℕ} {Fit : A → B → Type 0}
      {g : A → B → List (List ℕ)} (c : Cut F f) (d : (x : A) → Cuts (next x) (form x) (Fit x) (g x)) where
    module _ (i : ℕ) (x : A × B) (t : F.Fit x.0 × Fit x.0 x.1)
        (l : Room bound i (F.form x.0 ++ form x.0 x.1)) (e : Ends i (F.form x.0 ++ form x.0 x.1)) where
      size : length (all (f x.0)) ≡ length (F.form x.0)
      size = ap length (c.octets x.0)

      in_first :
          length p - i < length (F.form x.0) →
          next (F.value (goes i)) (F.step (goes i)) ≡ refused (i + began (f x.0 ++ g x.0 x.1) (length p - i)) 6
      in_first h =
          let r = c.ends i x.0 t.0 (room_first bound i (F.form x.0) (form x.0 x.1) l) (ends_first (F.form x.0) (form x.0 x.1) e h) in
          let k : length p - i < length (all (f x.0)) = omega (arith, size) in
          ap (next (F.value (goes i))) r
          ∙ (d (F.value (goes i))).stays _ refl
          ∙ ap (λ (n : ℕ). refused (i + n) 6) (sym (began_first (f x.0) (g x.0 x.1) (length p - i) k))

      in_second :
          length (F.form x.0) ≤ length p - i →
          next (F.value (goes i)) (F.step (goes i)) ≡ refused (i + began (f x.0 ++ g x.0 x.1) (length p - i)) 6
      in_second h =
          let q = e.from in
          let a =
          F.back i x.0 t.0 (first_has (F.form x.0) (form x.0 x.1) e h)
          (room_first bound i (F.form x.0) (form x.0 x.1) l) in
          let r =
          (d x.0).ends (i + length (F.form x.0)) x.1 t.1 (room_second bound i (F.form x.0) (form x.0 x.1) l)
          (ends_second (F.form x.0) (form x.0 x.1) e h) in
          let k : length (all (f x.0)) ≤ length p - i = omega (arith, size) in
          let n : length p - i - length (all (f x.0)) ≡ length p - (i + length (F.form x.0)) = omega (arith, size) in
          let u : i + length (F.form x.0) + began (g x.0 x.1) (length p - (i + length (F.form x.0)))
          ≡ i + began (f x.0 ++ g x.0 x.1) (length p - i) =
          add_assoc i (length (F.form x.0)) (began (g x.0 x.1) (length p - (i + length (F.form x.0))))
          ∙ ap (λ (y : ℕ). i + (y + began (g x.0 x.1) (length p - (i + length (F.form x.0))))) (sym size)
          ∙ ap (λ (y : ℕ). i + (length (all (f x.0)) + began (g x.0 x.1) y)) (sym n)
          ∙ ap (λ (y : ℕ). i + y) (sym (began_second (f x.0) (g x.0 x.1) (length p - i) k)) in
          rw (a.1, a.0) (r ∙ ap (λ (y : ℕ). refused y 6) u)

    pub then_cut :
        Cuts (λ w. next (F.value w) (F.step w)) (λ (x : A × B). F.form x.0 ++ form x.0 x.1) (λ x. F.Fit x.0 × Fit x.0 x.1)
        (λ x. f x.0 ++ g x.0 x.1)
    then_cut =
        record {
          stays = λ w h. ap (next (F.value w)) (c.stays w h) ∙ (d (F.value w)).stays w h;
          octets =
              λ x. all_append (f x.0) (g x.0 x.1) ∙ ap (λ (y : List ℕ). y ++ all (g x.0 x.1)) (c.octets x.0)
              ∙ ap (λ (y : List ℕ). F.form x.0 ++ y) ((d x.0).octets x.1);
          ends = λ i x t l e. ⊎_elim (in_first i x t l e) (in_second i x t l e) (below_or (length p - i) (length (F.form x.0)));
        }
