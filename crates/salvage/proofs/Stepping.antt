-- A call, place by place: what testing one place, passing over several and stopping come to.
-- Assumes nothing.
use Prim.Native.Nat.{ℕ, zero, suc, ◌+◌, ◌-◌, ◌≤◌, ◌<◌, min}
use mathlib.Core.Path.{◌≡◌, refl, ap, sym, ◌∙◌}
use mathlib.Core.Logic.{⊎_elim}
use mathlib.Core.Bool.{false}
use mathlib.Core.List.{List, [], ◌++◌, append_assoc}
use native.Mathlib.Omega.{arith}
use native.Mathlib.Nat.{zero-add}
use lib.ListN.{length}
use lib.Dec.{ltb}
use borrow.Author.Tests.{lt-ltb, le-ltb, le-leb, lt-leb}
use Rattle.octets.proofs.Lists.{below_or, pick_false}
use Rattle.walk.specs.declared.Settings.{Settings}
use Rattle.salvage.specs.Listing.{kept, Entry, Stop, stop, listed, onward}
use Rattle.salvage.specs.Calling.{Called, ahead, ending, calling}
use Rattle.salvage.specs.Inner.{end_at}
use Rattle.salvage.proofs.Testing.{listed_none, onward_none}

pub ahead_none : (c : Called) → ahead 0 [] c ≡ c
ahead_none c = λ i. record { tested = zero-add c.tested i; entries = c.entries; stop = c.stop }

pub ahead_ahead : (n m : ℕ) (a b : List Entry) (c : Called) → ahead n a (ahead m b c) ≡ ahead (n + m) (a ++ b) c
ahead_ahead n m a b c =
    let e : n + (m + c.tested) ≡ n + m + c.tested = omega arith in
    let f : a ++ (b ++ c.entries) ≡ a ++ b ++ c.entries = sym (append_assoc a b c.entries) in
    λ i. record { tested = e i; entries = f i; stop = c.stop }

pub end_most : (at till g free : ℕ) → 2 ≤ free → end_at at till g free ≡ at + min g (till - at)
unfolding end_at
end_most at till g free h = rw (le-leb _ _ h)

end_full : (at till g free : ℕ) → free < 2 → end_at at till g free ≡ at
unfolding end_at
end_full at till g free h = rw (lt-leb _ _ h)

module _ (s : Settings) (x : List ℕ) (till : ℕ) where
  pub calling_tests :
      (g free : ℕ) (w : Stop) → w.place < till → 2 ≤ free →
      calling s x till (suc g) free w ≡ ahead 1 (listed s x w) (calling s x till g (free - length (listed s x w)) (onward s x w))
  unfolding calling
  calling_tests g free w h k = rw (lt-ltb _ _ h, le-leb _ _ k)

  pub calling_none : (free : ℕ) (w : Stop) → calling s x till 0 free w ≡ ending (length x) free w
  unfolding calling
  calling_none free w = refl

  pub calling_over : (g free : ℕ) (w : Stop) → till ≤ w.place → calling s x till g free w ≡ ending (length x) free w
  unfolding calling
  calling_over zero free w h = refl
  calling_over (suc g) free w h = rw (le-ltb _ _ h)

  pub calling_full : (g free : ℕ) (w : Stop) → free < 2 → calling s x till g free w ≡ ending (length x) free w
  unfolding calling
  calling_full zero free w h = refl
  calling_full (suc g) free w h = rw (lt-leb _ _ h, pick_false (ltb w.place till))

  -- a place that is not kept
  pub calling_passes :
      (g free b at : ℕ) → at < till → 2 ≤ free → kept s x at ≡ false →
      calling s x till (suc g) free (stop b at) ≡ ahead 1 [] (calling s x till g free (stop b (at + 1)))
  calling_passes g free b at h k e =
      let n : free - length {A = Entry} [] ≡ free = omega arith in
      calling_tests g free (stop b at) h k
      ∙ rw (listed_none s x b at e, onward_none s x b at e) (ap (λ (f : ℕ). ahead 1 [] (calling s x till g f (stop b (at + 1)))) n)

  -- several
  pub calling_skips :
      (m g free b at : ℕ) → at + m ≤ till → 2 ≤ free → ((k : ℕ) → k < m → kept s x (at + k) ≡ false) →
      calling s x till (m + g) free (stop b at) ≡ ahead m [] (calling s x till g free (stop b (at + m)))
  calling_skips zero g free b at h k e =
      let n : 0 + g ≡ g = omega arith in
      let p : at + 0 ≡ at = omega arith in
      rw (n, p) (sym (ahead_none (calling s x till g free (stop b at))))
  calling_skips (suc m) g free b at h k e =
      let n : suc m + g ≡ suc (m + g) = omega arith in
      let p : at + 1 + m ≡ at + suc m = omega arith in
      let z : at + 0 ≡ at = omega arith in
      let q : 1 + m ≡ suc m = omega arith in
      let first : kept s x at ≡ false = rw z at (e 0 (omega arith)) in
      let later : (j : ℕ) → j < m → kept s x (at + 1 + j) ≡ false =
      λ (j : ℕ) (i : j < m). let y : at + 1 + j ≡ at + suc j = omega arith in rw y (e (suc j) (omega arith)) in
      rw n
      (calling_passes (m + g) free b at (omega arith) k first
      ∙ ap (ahead 1 []) (calling_skips m g free b (at + 1) (omega arith) k later)
      ∙ ahead_ahead 1 m [] [] _
      ∙ rw (p, q))

  -- the call ends where nothing lasts on
  pub calling_ends :
      (g free b at : ℕ) → end_at at till g free ≤ at → calling s x till g free (stop b at) ≡ ending (length x) free (stop b at)
  calling_ends g free b at h =
      ⊎_elim
      (λ k. calling_full g free (stop b at) k)
      (λ k. ⊎_elim
      (λ j. let z : g ≡ 0 = omega (arith, end_most at till g free k) in rw z (calling_none free (stop b at)))
      (λ j. calling_over g free (stop b at) j)
      (below_or at till))
      (below_or free 2)

-- what lasts on before that
pub record Lasts (at till g free end : ℕ) : Type 0 where
  pub room : 2 ≤ free
  pub inside : end ≤ till
  pub granted : end ≤ at + g

pub lasts : (at till g free : ℕ) → at < end_at at till g free → Lasts at till g free (end_at at till g free)
lasts at till g free h =
    ⊎_elim
    (λ k. absurd (omega (arith, end_full at till g free k)))
    (λ k. record {
      room = k;
      inside = omega (arith, end_most at till g free k);
      granted = omega (arith, end_most at till g free k);
    })
    (below_or free 2)

-- ---- where that is, as the code finds it

module _ (at till g free : ℕ) where
  pub end_low : free < 2 → at ≡ end_at at till g free
  end_low h = sym (end_full at till g free h)
