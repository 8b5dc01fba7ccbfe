-- What characters write passes the test.
-- Assumes nothing.
use Prim.Native.Nat.{ℕ, ◌+◌, ◌/◌, ◌≤◌, ◌<◌}
use mathlib.Core.Path.{◌≡◌, sym, ◌∙◌}
use mathlib.Core.Logic.{inl, inr, ⊎_elim}
use mathlib.Core.Bool.{true}
use mathlib.Core.List.{List, [], ◌∷◌, ◌++◌}
use native.Mathlib.Omega.{arith}
use Rattle.utf8.specs.Text.{Scalar, Scalars, none, one, low6, utf8, encoded}
use Rattle.utf8.specs.Test.{follows, accepts}
use Rattle.utf8.proofs.Tests.{both_true, Ended, ended_yes, ended_true, ended_not, Begins, begins_yes, begins_true, Continues, continues_yes, continues_true, follows_first, follows_next}
use Rattle.utf8.proofs.Forms.{scalar_top, by_range_lem}

-- ---- one octet

-- the test holds from here on
pub record Passes (a b c : ℕ) (o : List ℕ) : Type 0 where
  pub passes : accepts a b c o ≡ true

module _ {a b c : ℕ} where
  pass_nil : Ended a b c → Passes a b c []
  unfolding accepts
  pass_nil h = record { passes = ended_yes h }

  pub nil_pass : Passes a b c [] → Ended a b c
  unfolding accepts
  nil_pass e = ended_true a b c e.passes

module _ {a b c d : ℕ} {o : List ℕ} where
  pass_first : Ended a b c → Begins d → Passes b c d o → Passes a b c (d ∷ o)
  unfolding accepts
  pass_first h k p = record { passes = simp (follows_first a b c d (ended_yes h), begins_yes d k) p.passes }

  pass_next : (Ended a b c → ⊥) → Continues c d → Passes b c d o → Passes a b c (d ∷ o)
  unfolding accepts
  pass_next h k p = record { passes = simp (follows_next a b c d (ended_not a b c h), continues_yes c k) p.passes }

  pub first_pass : Ended a b c → Passes a b c (d ∷ o) → Begins d × Passes b c d o
  unfolding accepts
  first_pass h e =
      let p = both_true (follows a b c d) (accepts b c d o) e.passes in
      (begins_true d (sym (follows_first a b c d (ended_yes h)) ∙ p.0), record { passes = p.1 })

  pub next_pass : (Ended a b c → ⊥) → Passes a b c (d ∷ o) → Continues c d × Passes b c d o
  unfolding accepts
  next_pass h e =
      let p = both_true (follows a b c d) (accepts b c d o) e.passes in
      (continues_true c d (sym (follows_next a b c d (ended_not a b c h)) ∙ p.0), record { passes = p.1 })

-- ---- what characters write passes

pub now_ended : {a b c : ℕ} → a < 0xF0 → b < 0xE0 → c < 0xC0 → Ended a b c
now_ended h k l = record { third = h; second = k; first = l }

-- after an octet with no narrower range
any_tail : {c d : ℕ} → c < 0xE0 → 0x80 ≤ d → d ≤ 0xBF → Continues c d
any_tail h k l =
    record {
      least = k;
      most = l;
      after_e0 = λ e. omega arith;
      after_f0 = λ e. omega arith;
      after_ed = λ e. omega arith;
      after_f4 = λ e. omega arith;
    }

module _ (s : ℕ) where
  second_of_three : Scalar s → 0x800 ≤ s → s < 0x10000 → Continues (0xE0 + s / 4096) (low6 (s / 64))
  second_of_three v h k =
      record {
        least = omega arith;
        most = omega arith;
        after_e0 = λ e. omega arith;
        after_f0 = λ e. omega arith;
        after_ed = λ e. ⊎_elim (λ x. omega arith) (λ x. omega (arith, x.0)) v;
        after_f4 = λ e. omega arith;
      }

  second_of_four : s ≤ 0x10FFFF → 0x10000 ≤ s → Continues (0xF0 + s / 262144) (low6 (s / 4096))
  second_of_four k h =
      record {
        least = omega arith;
        most = omega arith;
        after_e0 = λ e. omega arith;
        after_f0 = λ e. omega arith;
        after_ed = λ e. omega arith;
        after_f4 = λ e. omega arith;
      }

pass_one :
    (s a b c : ℕ) (r : List ℕ) → ((a b c : ℕ) → Ended a b c → Passes a b c r) → Scalar s → Ended a b c → Passes a b c (utf8 s ++ r)
pass_one s a b c r next v h =
    by_range_lem s (λ u. Passes a b c (u ++ r))
    (λ k. pass_first h (inl k) (next _ _ _ (now_ended (omega arith) (omega arith) (omega arith))))
    (λ k l.
    pass_first h (inr (omega arith, omega arith))
    (pass_next (λ x. omega (arith, x.first)) (any_tail (omega arith) (omega arith) (omega arith))
    (next _ _ _ (now_ended (omega arith) (omega arith) (omega arith)))))
    (λ k l.
    pass_first h (inr (omega arith, omega arith))
    (pass_next (λ x. omega (arith, x.first)) (second_of_three s v k l)
    (pass_next (λ x. omega (arith, x.second)) (any_tail (omega arith) (omega arith) (omega arith))
    (next _ _ _ (now_ended (omega arith) (omega arith) (omega arith))))))
    (λ k.
    let l = scalar_top s v in
    pass_first h (inr (omega arith, omega arith))
    (pass_next (λ x. omega (arith, x.first)) (second_of_four s l k)
    (pass_next (λ x. omega (arith, x.second)) (any_tail (omega arith) (omega arith) (omega arith))
    (pass_next (λ x. omega (arith, x.third)) (any_tail (omega arith) (omega arith) (omega arith))
    (next _ _ _ (now_ended (omega arith) (omega arith) (omega arith)))))))

pub pass_all : {cs : List ℕ} → Scalars cs → (x y z : ℕ) → Ended x y z → Passes x y z (encoded cs)
unfolding encoded
pass_all none x y z h = pass_nil h
pass_all (one {c} {cs} v vs) x y z h = pass_one c x y z (encoded cs) (pass_all vs) v h
