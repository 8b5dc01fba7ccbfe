-- A field of a reading: its step, the value that it tells, the octets of a value, which values fit, where its contents stand; and
-- its laws. `back`: what is written reads back. `plain`: what is written is octets. `only`: what is accepted was written, and fits.
-- `order`: its contents stand in order inside what was read. Here the record, one field after another, one that may be absent, the same field told by equal steps.
-- Assumes nothing.
use Prim.Native.Nat.{ℕ, ◌+◌, ◌≤◌, ◌<◌}
use mathlib.Core.Path.{◌≡◌, refl, ap, sym, ◌∙◌}
use mathlib.Core.List.{List, [], ◌∷◌, ◌++◌}
use mathlib.Core.Bool.{Bool, true, false}
use native.Mathlib.Omega.{arith}
use native.Mathlib.Nat.{add-zero, add_assoc, le_refl}
use lib.ListN.{length, length-append}
use borrow.Author.Tests.{eqb-true}
use Rattle.octets.specs.Octets.{pick, Octets}
use Rattle.octets.proofs.Has.{Has, has_first, has_second, has_both, has_nil, has_inside, octets_nil, octets_append}
use Rattle.walk.specs.declared.Bound.{Bound}
use Rattle.walk.specs.Walk.{Reading, goes, going}
use Rattle.fields.specs.declared.Place.{Place}
use Rattle.packet.specs.Format.{Opt}
use Rattle.format.specs.Told.{InOrder}

-- ---- places in order

pub order_none : {lo hi : ℕ} → lo ≤ hi → InOrder lo [] hi
unfolding InOrder
order_none l = l

pub order_one : (a : Place) {lo hi : ℕ} → lo ≤ a.at → a.at + a.length ≤ hi → InOrder lo (a ∷ []) hi
unfolding InOrder
order_one a l h = (l, h)

-- an earlier start
pub order_lower : (lo low hi : ℕ) (x : List Place) → low ≤ lo → InOrder lo x hi → InOrder low x hi
unfolding InOrder
order_lower lo low hi [] l o = omega arith
order_lower lo low hi (a ∷ x) l o = (omega (arith, o.0), o.1)

-- one list of places after another
pub order_both : (lo mid hi : ℕ) (x y : List Place) → InOrder lo x mid → InOrder mid y hi → InOrder lo (x ++ y) hi
unfolding InOrder
order_both lo mid hi [] y o q = order_lower mid lo hi y o q
order_both lo mid hi (a ∷ x) y o q = (o.0, order_both (a.at + a.length) mid hi x y o.1 q)

-- octets at a place that end within the bound, and are few enough for a length of 32 bits
abbrev pub Room : Bound → ℕ → List ℕ → Type 0
Room b i l = (i + length l ≤ b.end) × (length l < 4294967296)

pub room_first : (b : Bound) (i : ℕ) (x y : List ℕ) → Room b i (x ++ y) → Room b i x
room_first b i x y r =
    let e = length-append x y in
    (omega (arith, r.0), omega (arith, r.1))

pub room_second : (b : Bound) (i : ℕ) (x y : List ℕ) → Room b i (x ++ y) → Room b (i + length x) y
room_second b i x y r =
    let e = length-append x y in
    (omega (arith, r.0), omega (arith, r.1))

module _ (bound : Bound) (p : List ℕ) where
  -- where a reading goes on, it stands inside the octets and the bound
  abbrev pub Sound : Reading → Type 0
  Sound w = going w ≡ true → (w.at ≤ length p) × (w.at ≤ bound.end)

  -- a step from w to v over the octets l
  pub record Took (w v : Reading) (l : List ℕ) : Type 0 where
    pub went : going w ≡ true
    pub has : Has p w.at l
    pub limit : w.at + length l ≤ bound.end
    pub ended : v ≡ goes (w.at + length l)

  pub record Field (A : Type 0) : Type 1 where
    pub step : Reading → Reading
    pub value : Reading → A
    pub form : A → List ℕ
    pub Fit : A → Type 0
    pub spots : Reading → List Place
    pub back :
        (i : ℕ) (x : A) → Fit x → Has p i (form x) → Room bound i (form x) →
        (step (goes i) ≡ goes (i + length (form x))) × (value (goes i) ≡ x)
    pub plain : (x : A) → Fit x → length (form x) < 4294967296 → Octets (form x)
    pub only : Octets p → (w : Reading) → Sound w → going (step w) ≡ true → Took w (step w) (form (value w)) × Fit (value w)
    pub order : Octets p → (w : Reading) → Sound w → going (step w) ≡ true → InOrder w.at (spots w) (step w).at

  pub took_sound : {w v : Reading} (l : List ℕ) → Took w v l → Sound v
  took_sound l t g = rw t.ended (has_inside l t.has, t.limit)

  pub took_at : {w v : Reading} (l : List ℕ) → Took w v l → v.at ≡ w.at + length l
  took_at l t = ap (λ (x : Reading). x.at) t.ended

  -- a step that tells no place
  pub took_order : {w v : Reading} (l : List ℕ) → Took w v l → InOrder w.at [] v.at
  took_order l t = order_none (omega (arith, took_at l t))

  pub took_both : {w v u : Reading} (a b : List ℕ) → Took w v a → Took v u b → Took w u (a ++ b)
  took_both {w} {v} {u} a b t r =
      let e : v.at ≡ w.at + length a = took_at a t in
      let h : Has p (w.at + length a) b = rw e at r.has in
      let m = r.limit in
      record {
        went = t.went;
        has = has_both a b t.has h;
        limit = simp length-append (omega arith);
        ended = r.ended ∙ ap goes (ap (λ (x : ℕ). x + length b) e ∙ simp (length-append, add_assoc));
      }

  -- ---- a field, and one that its value decides

  module _ {A B : Type 0} (F : Field A) (G : A → Field B) where
    pub then_back :
        (i : ℕ) (x : A × B) → F.Fit x.0 × (G x.0).Fit x.1 → Has p i (F.form x.0 ++ (G x.0).form x.1) →
        Room bound i (F.form x.0 ++ (G x.0).form x.1) →
        ((G (F.value (goes i))).step (F.step (goes i)) ≡ goes (i + length (F.form x.0 ++ (G x.0).form x.1)))
        × (◌≡◌ {A = A × B} (F.value (goes i), (G (F.value (goes i))).value (F.step (goes i))) x)
    then_back i x f h l =
        let a =
        F.back i x.0 f.0 (has_first (F.form x.0) ((G x.0).form x.1) h)
        (room_first bound i (F.form x.0) ((G x.0).form x.1) l) in
        let b =
        (G x.0).back (i + length (F.form x.0)) x.1 f.1 (has_second (F.form x.0) ((G x.0).form x.1) h)
        (room_second bound i (F.form x.0) ((G x.0).form x.1) l) in
        (simp (a.0, a.1, b.0, length-append, add_assoc), simp (a.0, a.1, b.1))

    pub then_plain :
        (x : A × B) → F.Fit x.0 × (G x.0).Fit x.1 → length (F.form x.0 ++ (G x.0).form x.1) < 4294967296 →
        Octets (F.form x.0 ++ (G x.0).form x.1)
    then_plain x f l =
        let e = simp length-append at l in
        octets_append (F.form x.0) ((G x.0).form x.1) (F.plain x.0 f.0 (omega arith))
        ((G x.0).plain x.1 f.1 (omega arith))

    then_sound : Octets p → (w : Reading) → Sound w → Sound (F.step w)
    then_sound o w s e = took_sound _ (F.only o w s e).0 e

    pub then_only :
        Octets p → (w : Reading) → Sound w → going ((G (F.value w)).step (F.step w)) ≡ true →
        Took w ((G (F.value w)).step (F.step w)) (F.form (F.value w) ++ (G (F.value w)).form ((G (F.value w)).value (F.step w)))
        × (F.Fit (F.value w) × (G (F.value w)).Fit ((G (F.value w)).value (F.step w)))
    then_only o w s g =
        let b = (G (F.value w)).only o (F.step w) (then_sound o w s) g in
        let a = F.only o w s b.0.went in
        (took_both _ _ a.0 b.0, (a.1, b.1))

    pub then_order :
        Octets p → (w : Reading) → Sound w → going ((G (F.value w)).step (F.step w)) ≡ true →
        InOrder w.at (F.spots w ++ (G (F.value w)).spots (F.step w)) ((G (F.value w)).step (F.step w)).at
    then_order o w s g =
        let b = (G (F.value w)).only o (F.step w) (then_sound o w s) g in
        order_both _ _ _ (F.spots w) ((G (F.value w)).spots (F.step w)) (F.order o w s b.0.went)
        ((G (F.value w)).order o (F.step w) (then_sound o w s) g)

    abbrev pub then : Field (A × B)
    then =
        record {
          step = λ w. (G (F.value w)).step (F.step w);
          value = λ w. (F.value w, (G (F.value w)).value (F.step w));
          form = λ x. F.form x.0 ++ (G x.0).form x.1;
          Fit = λ x. F.Fit x.0 × (G x.0).Fit x.1;
          spots = λ w. F.spots w ++ (G (F.value w)).spots (F.step w);
          back = then_back;
          plain = then_plain;
          only = then_only;
          order = then_order;
        }

  -- one field after another, whatever the first one tells
  abbrev pub seq : {A B : Type 0} → Field A → Field B → Field (A × B)
  seq F G = then F (λ x. G)

  -- ---- a field that may be absent

  pub skip_took : (w : Reading) → Sound w → going w ≡ true → Took w w []
  skip_took w s g =
      let z = s g in
      let e : w ≡ goes w.at = ap (λ (k : ℕ). record { at = w.at; refused = k }) (eqb-true _ _ g) in
      record { went = g; has = has_nil p w.at z.0; limit = omega arith; ended = e ∙ ap goes (sym (add-zero w.at)) }

  module _ {A : Type 0} where
    pub opt_back :
        (b : Bool) (a : A) (F : Field A) (i : ℕ) (x : A) → Opt b F.Fit a x → Has p i (pick b (F.form x) []) →
        Room bound i (pick b (F.form x) []) →
        (pick b (F.step (goes i)) (goes i) ≡ goes (i + length (pick b (F.form x) []))) × (pick b (F.value (goes i)) a ≡ x)
    opt_back true a F i x f h l = F.back i x f h l
    opt_back false a F i x f h l = (ap goes (sym (add-zero i)), sym f)

    pub opt_plain :
        (b : Bool) (a : A) (F : Field A) (x : A) → Opt b F.Fit a x → length (pick b (F.form x) []) < 4294967296 →
        Octets (pick b (F.form x) [])
    opt_plain true a F x f l = F.plain x f l
    opt_plain false a F x f l = octets_nil

    pub opt_only :
        (b : Bool) (a : A) (F : Field A) → Octets p → (w : Reading) → Sound w → going (pick b (F.step w) w) ≡ true →
        Took w (pick b (F.step w) w) (pick b (F.form (pick b (F.value w) a)) []) × Opt b F.Fit a (pick b (F.value w) a)
    opt_only true a F o w s g = F.only o w s g
    opt_only false a F o w s g = (skip_took w s g, refl)

    pub opt_order :
        (b : Bool) (F : Field A) → Octets p → (w : Reading) → Sound w → going (pick b (F.step w) w) ≡ true →
        InOrder w.at (pick b (F.spots w) []) (pick b (F.step w) w).at
    opt_order true F o w s g = F.order o w s g
    opt_order false F o w s g = order_none (le_refl w.at)

    -- there only if b, and else it tells a
    abbrev pub maybe : Bool → A → Field A → Field A
    maybe b a F =
        record {
          step = λ w. pick b (F.step w) w;
          value = λ w. pick b (F.value w) a;
          form = λ x. pick b (F.form x) [];
          Fit = Opt b F.Fit a;
          spots = λ w. pick b (F.spots w) [];
          back = opt_back b a F;
          plain = opt_plain b a F;
          only = opt_only b a F;
          order = opt_order b F;
        }

    -- the same field, told by equal steps, values and places
    abbrev pub told :
        (F : Field A) (step : Reading → Reading) (value : Reading → A) (spots : Reading → List Place) →
        ((w : Reading) → step w ≡ F.step w) → ((w : Reading) → value w ≡ F.value w) → ((w : Reading) → spots w ≡ F.spots w) → Field A
    told F t v q st vt qt =
        record {
          step = t;
          value = v;
          form = F.form;
          Fit = F.Fit;
          spots = q;
          back = λ i x f h l. let a = F.back i x f h l in (st (goes i) ∙ a.0, vt (goes i) ∙ a.1);
          plain = F.plain;
          only = λ o w s g. rw (st w, vt w) (F.only o w s (rw (st w) at g));
          order = λ o w s g. rw (st w, qt w) (F.order o w s (rw (st w) at g));
        }
