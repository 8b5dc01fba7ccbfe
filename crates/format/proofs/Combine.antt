-- Fields made of fields: one that is refused unless a test holds, one whose value is tested, one of several steps, one that a number
-- decides, the same octets told as another value or in another form. Each carries the laws of its parts.
-- Assumes nothing.
use Prim.Native.Nat.{ℕ, suc, ◌+◌, ◌<◌}
use mathlib.Core.Path.{◌≡◌, refl, ap, ◌∙◌}
use mathlib.Core.List.{List, []}
use mathlib.Core.Bool.{Bool, true, false}
use native.Mathlib.Omega.{arith}
use lib.ListN.{length}
use Rattle.octets.specs.Octets.{pick, Octets}
use Rattle.octets.proofs.Has.{Has}
use Rattle.walk.specs.declared.Bound.{Bound}
use Rattle.walk.specs.Walk.{Reading, goes, going, check, field_from}
use Rattle.walk.proofs.Steps.{check_held, check_ok, field_goes, field_went}
use Rattle.format.specs.Told.{InOrder}
use Rattle.format.proofs.Field.{Room, Sound, Took, Field, then}

fail_only : (k : ℕ) (w : Reading) → going (check false (suc k) w) ≡ true → ⊥
fail_only k w g =
    let h = (check_held false k w g).held in
    let z : ◌≡◌ {A = ℕ} 0 1 = cc in
    omega arith

module _ (bound : Bound) (p : List ℕ) where
  -- ---- tests

  module _ {A : Type 0} where
    pub guard_back :
        (b : Bool) (k : ℕ) (a : A) (F : Field bound p A) (i : ℕ) (x : A) → F.Fit x × (b ≡ true) → Has p i (F.form x) →
        Room bound i (F.form x) →
        (pick b (F.step (goes i)) (check false (suc k) (goes i)) ≡ goes (i + length (F.form x))) × (pick b (F.value (goes i)) a ≡ x)
    guard_back true k a F i x f h l = F.back i x f.0 h l
    guard_back false k a F i x f h l = let z : ◌≡◌ {A = ℕ} 0 1 = cc f.1 in absurd (omega arith)

    pub guard_only :
        (b : Bool) (k : ℕ) (a : A) (F : Field bound p A) → Octets p → (w : Reading) → Sound bound p w →
        going (pick b (F.step w) (check false (suc k) w)) ≡ true →
        Took bound p w (pick b (F.step w) (check false (suc k) w)) (F.form (pick b (F.value w) a))
        × (F.Fit (pick b (F.value w) a) × (b ≡ true))
    guard_only true k a F o w s g = let r = F.only o w s g in (r.0, (r.1, refl))
    guard_only false k a F o w s g = absurd (fail_only k w g)

    pub guard_order :
        (b : Bool) (k : ℕ) (F : Field bound p A) → Octets p → (w : Reading) → Sound bound p w →
        going (pick b (F.step w) (check false (suc k) w)) ≡ true →
        InOrder w.at (pick b (F.spots w) []) (pick b (F.step w) (check false (suc k) w)).at
    guard_order true k F o w s g = F.order o w s g
    guard_order false k F o w s g = absurd (fail_only k w g)

    -- refused by k + 1 unless b
    abbrev pub guard : Bool → ℕ → A → Field bound p A → Field bound p A
    guard b k a F =
        record {
          step = λ w. pick b (F.step w) (check false (suc k) w);
          value = λ w. pick b (F.value w) a;
          form = F.form;
          Fit = λ x. F.Fit x × (b ≡ true);
          spots = λ w. pick b (F.spots w) [];
          back = guard_back b k a F;
          plain = λ x f l. F.plain x f.0 l;
          only = guard_only b k a F;
          order = guard_order b k F;
        }

    pub tested_back :
        (ok : A → Bool) (k : ℕ) (F : Field bound p A) (i : ℕ) (x : A) → F.Fit x × (ok x ≡ true) → Has p i (F.form x) →
        Room bound i (F.form x) →
        (check (ok (F.value (goes i))) (suc k) (F.step (goes i)) ≡ goes (i + length (F.form x))) × (F.value (goes i) ≡ x)
    tested_back ok k F i x f h l =
        let a = F.back i x f.0 h l in
        (check_ok (ok (F.value (goes i))) (suc k) (F.step (goes i)) (ap ok a.1 ∙ f.1) ∙ a.0, a.1)

    pub tested_only :
        (ok : A → Bool) (k : ℕ) (F : Field bound p A) → Octets p → (w : Reading) → Sound bound p w →
        going (check (ok (F.value w)) (suc k) (F.step w)) ≡ true →
        Took bound p w (check (ok (F.value w)) (suc k) (F.step w)) (F.form (F.value w)) × (F.Fit (F.value w) × (ok (F.value w) ≡ true))
    tested_only ok k F o w s g =
        let c = check_held (ok (F.value w)) k (F.step w) g in
        let a = F.only o w s c.went in
        rw c.same (a.0, (a.1, c.held))

    pub tested_order :
        (ok : A → Bool) (k : ℕ) (F : Field bound p A) → Octets p → (w : Reading) → Sound bound p w →
        going (check (ok (F.value w)) (suc k) (F.step w)) ≡ true →
        InOrder w.at (F.spots w) (check (ok (F.value w)) (suc k) (F.step w)).at
    tested_order ok k F o w s g =
        let c = check_held (ok (F.value w)) k (F.step w) g in
        rw c.same (F.order o w s c.went)

    -- its value is tested, else the refusal k + 1
    abbrev pub tested : (A → Bool) → ℕ → Field bound p A → Field bound p A
    tested ok k F =
        record {
          step = λ w. check (ok (F.value w)) (suc k) (F.step w);
          value = F.value;
          form = F.form;
          Fit = λ x. F.Fit x × (ok x ≡ true);
          spots = F.spots;
          back = tested_back ok k F;
          plain = λ x f l. F.plain x f.0 l;
          only = tested_only ok k F;
          order = tested_order ok k F;
        }

  -- ---- several steps as one field: where it is refused in any of them, it began at the first

  module _ {A : Type 0} (F : Field bound p A) where
    whole_same : (w : Reading) → going (field_from w (F.step w)) ≡ true → field_from w (F.step w) ≡ F.step w
    whole_same w g = field_goes w (F.step w) (field_went w (F.step w) g)

    pub whole_back :
        (i : ℕ) (x : A) → F.Fit x → Has p i (F.form x) → Room bound i (F.form x) →
        (field_from (goes i) (F.step (goes i)) ≡ goes (i + length (F.form x))) × (F.value (goes i) ≡ x)
    whole_back i x f h l =
        let a = F.back i x f h l in
        (field_goes (goes i) (F.step (goes i)) (rw a.0 refl) ∙ a.0, a.1)

    pub whole_only :
        Octets p → (w : Reading) → Sound bound p w → going (field_from w (F.step w)) ≡ true →
        Took bound p w (field_from w (F.step w)) (F.form (F.value w)) × F.Fit (F.value w)
    whole_only o w s g = rw (whole_same w g) (F.only o w s (field_went w (F.step w) g))

    pub whole_order :
        Octets p → (w : Reading) → Sound bound p w → going (field_from w (F.step w)) ≡ true →
        InOrder w.at (F.spots w) (field_from w (F.step w)).at
    whole_order o w s g = rw (whole_same w g) (F.order o w s (field_went w (F.step w) g))

    abbrev pub whole : Field bound p A
    whole =
        record {
          step = λ w. field_from w (F.step w);
          value = F.value;
          form = F.form;
          Fit = F.Fit;
          spots = F.spots;
          back = whole_back;
          plain = F.plain;
          only = whole_only;
          order = whole_order;
        }

  -- ---- the same octets, told as another value: `from` undoes `to`

  module _ {A B : Type 0} (F : Field bound p A) (to : A → B) (from : B → A) (undo : (a : A) → F.Fit a → from (to a) ≡ a) where
    pub via_only :
        Octets p → (w : Reading) → Sound bound p w → going (F.step w) ≡ true →
        Took bound p w (F.step w) (F.form (from (to (F.value w))))
        × (F.Fit (from (to (F.value w))) × (to (from (to (F.value w))) ≡ to (F.value w)))
    via_only o w s g =
        let a = F.only o w s g in
        let e = undo (F.value w) a.1 in
        rw e (a.0, (a.1, refl))

    abbrev pub via : Field bound p B
    via =
        record {
          step = F.step;
          value = λ w. to (F.value w);
          form = λ x. F.form (from x);
          Fit = λ x. F.Fit (from x) × (to (from x) ≡ x);
          spots = F.spots;
          back = λ i x f h l. let a = F.back i (from x) f.0 h l in (a.0, ap to a.1 ∙ f.1);
          plain = λ x f l. F.plain (from x) f.0 l;
          only = via_only;
          order = F.order;
        }

  -- ---- a number, and a field that it decides: the number is told by the field's value

  abbrev pub dep :
      {A : Type 0} (N : Field bound p ℕ) (F : ℕ → Field bound p A) (size : A → ℕ) → ((n : ℕ) (x : A) → (F n).Fit x → size x ≡ n) → Field bound p A
  dep {A} N F size sized =
      via (then bound p N F) (λ (x : ℕ × A). x.1) (λ (x : A). (size x, x)) (λ a f. ap (λ (n : ℕ). (n, a.1)) (sized a.0 a.1 f.1))

  -- ---- the same octets, written in an equal form, and values that fit just as well

  abbrev pub formed :
      {A : Type 0} (F : Field bound p A) (form : A → List ℕ) (Fit : A → Type 0) → ((x : A) → form x ≡ F.form x) →
      ((x : A) → Fit x → length (form x) < 4294967296 → F.Fit x) → ((x : A) → F.Fit x → Fit x) → Field bound p A
  formed F form Fit same to from =
      record {
        step = F.step;
        value = F.value;
        form = form;
        Fit = Fit;
        spots = F.spots;
        back =
            λ i x f h l.
            let a = F.back i x (to x f l.1) (rw (same x) at h) (rw (same x) at l) in
            rw (same x) a;
        plain = λ x f l. rw (same x) (F.plain x (to x f l) (rw (same x) at l));
        only = λ o w s g. let a = F.only o w s g in rw (same (F.value w)) (a.0, from (F.value w) a.1);
        order = F.order;
      }
