-- One field that may be absent, as the writer tests it and as the format has it in range: the same, each way.
-- Assumes nothing.
use Prim.Native.Nat.{ℕ, suc, ◌≤◌, ◌<◌}
use mathlib.Core.Path.{◌≡◌, refl, ap, sym, ◌∙◌}
use mathlib.Core.Bool.{Bool, true, false}
use mathlib.Core.List.{List, [], ◌∷◌}
use native.Mathlib.Omega.{arith}
use lib.ListN.{length}
use borrow.Author.Tests.{leb-true, eqb-true, le-leb, eq-eqb}
use Rattle.octets.specs.Octets.{Octets}
use Rattle.octets.proofs.Laying.{empty}
use Rattle.utf8.specs.Text.{Text}
use Rattle.utf8.specs.Test.{both, ended, accepts, is_text}
use Rattle.utf8.proofs.Laws.{is_text_lem}
use Rattle.fields.specs.Fields.{parts_most}
use Rattle.fields.specs.Form.{split, all_text}
use Rattle.fields.proofs.Written.{length_split}
use Rattle.packet.specs.Format.{Opt, Each, text_most}
use Rattle.write.specs.Given.{number_fits, text_fits, exact_fits, lengths_fit, sum}
use Rattle.two_way.proofs.Lists.{sum_none}

both_held : (p q : Bool) → both p q ≡ true → (p ≡ true) × (q ≡ true)
both_held true q h = (refl, h)
both_held false q h = let z : ◌≡◌ {A = ℕ} 0 1 = cc in absurd (omega arith)

-- ---- from the test to the range

pub number_opt : (b : Bool) (x most top : ℕ) → top ≡ suc most → number_fits b x most ≡ true → Opt b (λ y. y < top) 0 x
number_opt true x most top e h = let a = leb-true x most h in omega arith
number_opt false x most top e h = eqb-true x 0 h

pub text_opt :
    (P : List ℕ → Type 0) (b : Bool) (x : List ℕ) → (b ≡ true → P x) → text_fits b (length x) ≡ true → Opt b P [] x
text_opt P true x o h = o refl
text_opt P false x o h = empty x (eqb-true (length x) 0 h)

pub exact_opt :
    (b : Bool) (x : List ℕ) (n : ℕ) → (b ≡ true → Octets x) → exact_fits b (length x) n ≡ true →
    Opt b (λ y. (length y ≡ n) × Octets y) [] x
exact_opt true x n o h = (eqb-true (length x) n h, o refl)
exact_opt false x n o h = empty x (eqb-true (length x) 0 h)

pub domain_opt :
    (b : Bool) (ns x : List ℕ) → Each Text (split ns x) → length ns ≤ parts_most → lengths_fit b ns (length x) ≡ true →
    Opt b (λ y. (length y ≤ parts_most) × Each Text y) [] (split ns x)
domain_opt true ns x o l h = (omega (arith, length_split ns x), o)
domain_opt false ns x o l h = empty (split ns x) (length_split ns x ∙ eqb-true (length ns) 0 h)

-- the domain's lengths add up, also where there is none
pub fits_sum : (b : Bool) (ns x : List ℕ) → text_fits b (length x) ≡ true → lengths_fit b ns (length x) ≡ true → sum ns ≡ length x
fits_sum true ns x g h = eqb-true (sum ns) (length x) h
fits_sum false ns x g h = sum_none ns (eqb-true (length ns) 0 h) ∙ sym (eqb-true (length x) 0 g)

-- parts are all text by the test
pub each_text : (ts : List (List ℕ)) → all_text ts ≡ true → Each Text ts
unfolding all_text Each
each_text [] h = tt
each_text (t ∷ ts) h = let a = both_held (is_text t) (all_text ts) h in ((is_text_lem t).0 a.0, each_text ts a.1)

-- ---- and back

pub opt_number_lem : (b : Bool) (x most top : ℕ) → top ≡ suc most → Opt b (λ y. y < top) 0 x → number_fits b x most ≡ true
opt_number_lem true x most top e h = le-leb x most (omega arith)
opt_number_lem false x most top e h = eq-eqb x 0 h

pub opt_text :
    (P : List ℕ → Type 0) (b : Bool) (x : List ℕ) → Opt b P [] x → (b ≡ true → length x ≤ text_most) → text_fits b (length x) ≡ true
opt_text P true x h l = le-leb (length x) text_most (l refl)
opt_text P false x h l = eq-eqb (length x) 0 (ap length h)

pub opt_exact : (b : Bool) (x : List ℕ) (n : ℕ) → Opt b (λ y. (length y ≡ n) × Octets y) [] x → exact_fits b (length x) n ≡ true
opt_exact true x n h = eq-eqb (length x) n h.0
opt_exact false x n h = eq-eqb (length x) 0 (ap length h)

module _ (ns x : List ℕ) (e : sum ns ≡ length x) where
  pub opt_parts : (b : Bool) → Opt b (λ y. (length y ≤ parts_most) × Each Text y) [] (split ns x) → length ns ≤ parts_most
  opt_parts true h = let a = h.0 in omega (arith, length_split ns x)
  opt_parts false h = let a : length (split ns x) ≡ 0 = ap length h in omega (arith, length_split ns x)

  none : split ns x ≡ [] → length ns ≡ 0
  none h = sym (length_split ns x) ∙ ap length h

  pub opt_lengths : (b : Bool) → Opt b (λ y. (length y ≤ parts_most) × Each Text y) [] (split ns x) → lengths_fit b ns (length x) ≡ true
  opt_lengths true h = eq-eqb (sum ns) (length x) e
  opt_lengths false h = eq-eqb (length ns) 0 (none h)

  pub opt_domain :
      (b : Bool) → Opt b (λ y. (length y ≤ parts_most) × Each Text y) [] (split ns x) → (b ≡ true → length x ≤ text_most) →
      text_fits b (length x) ≡ true
  opt_domain true h l = le-leb (length x) text_most (l refl)
  opt_domain false h l = eq-eqb (length x) 0 (sym e ∙ sum_none ns (none h))

-- the texts that are there are text by the test, and so are those that are absent, which are empty
none_text : is_text [] ≡ true
unfolding is_text accepts ended
none_text = refl

pub opt_utf8 : (b : Bool) (x : List ℕ) → Opt b Text [] x → is_text x ≡ true
opt_utf8 true x h = (is_text_lem x).1 h
opt_utf8 false x h = ap is_text h ∙ none_text

pub text_each : (ts : List (List ℕ)) → Each Text ts → all_text ts ≡ true
unfolding all_text Each
text_each [] h = refl
text_each (t ∷ ts) h = rw ((is_text_lem t).1 h.0) (text_each ts h.1)

pub opt_each : (b : Bool) (ts : List (List ℕ)) → Opt b (λ y. (length y ≤ parts_most) × Each Text y) [] ts → all_text ts ≡ true
unfolding all_text
opt_each true ts h = text_each ts h.1
opt_each false ts h = ap all_text h
