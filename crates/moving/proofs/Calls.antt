-- The laws over the generated contracts of `moving::there` and `moving::back`: a store that was moved and moved on to where it came from is what
-- it was, octet by octet, both ways; which numbers an answer may have; and two outcomes that a contract allows for the same arguments have the same answer and target. That what is
-- given is octets is the contract's own last clause.
-- Assumes nothing.
use Prim.Native.Nat.{ℕ, ◌*◌, ◌≤◌}
use mathlib.Core.Path.{◌≡◌, refl, ap, ap₂, sym, ◌∙◌, subst}
use mathlib.Core.Logic.{⊎_elim}
use mathlib.Core.List.{List, [], ◌∷◌, Memᴰ}
use native.Mathlib.Omega.{arith}
use contract.Lifetimes as L
use lib.ListN.{length}
use lib.Dec.{leb, eqb}
use Rattle.octets.specs.Octets.{Octets}
use Rattle.walk.specs.declared.Settings.{Settings}
use Rattle.walk.specs.Walk.{begun, no_refusal}
use Rattle.format.proofs.Refusals.{picked}
use Rattle.cells.specs.Order.{cell_size, wide_size, count_in, in_order, gate}
use Rattle.moving.specs.declared.Unmoved.{Unmoved}
use Rattle.std.specs.Prelude.{Result, Ok, Err}
use Rattle.walk.specs.declared.Refused.{Refused}
use Rattle.walk.proofs.Refuses.{has_number}
use Rattle.walk.proofs.Apart.{told_one}
use Rattle.moving.specs.Answer.{Moved, moved}
use Rattle.moving.specs.Moving.{first_too_long, moved_in, moved_by, target_by}
use Rattle.moving.specs.Told.{moved_of}
use Rattle.moving.proofs.SameCells.{record_most}
use Rattle.moving.proofs.Answers.{answer_shut, told_0, number_told}
use Rattle.moving.proofs.Returns.{wider_answers, back_moves, back_same}
use Rattle.moving.proofs.there.Reads as theres
use Rattle.moving.proofs.back.Reads as backs

-- ---- over plain values

plain_journey :
    (s : Settings) (Y Z : ℕ) → record_most ≤ Y → record_most ≤ Z → (st t : List ℕ) → Octets st →
    (r : Moved) (x : List ℕ) → r ≡ moved_of s Y Z st (length t) → x ≡ target_by s Y Z st t → r.refusal.number ≡ 0 →
    (p u : List ℕ) → p ≡ x → length u ≡ length st → (q : Moved) (y : List ℕ) → q ≡ moved_of s Z Y p (length u) → y ≡ target_by s Z Y p u →
    (q ≡ record { refusal = no_refusal; cell = 0 }) × (y ≡ st)
plain_journey s Y Z y z st t o r x er ex n p u ep l q w eq ew =
    let e : moved_by s Y Z st (length t) ≡ 0 = number_told s Y Z st (length t) er ∙ n in
    let f = ep ∙ ex in
    let k = back_moves s Y Z y z st o t e u l in (
      eq ∙ ap (λ (v : List ℕ). moved_of s Z Y v (length u)) f ∙ sym (told_0 s Z Y (target_by s Y Z st t) (length u) k),
      ew ∙ ap (λ (v : List ℕ). target_by s Z Y v u) f ∙ back_same s Y Z y z st o t e u l,
    )

-- ---- there and back

pub there_and_back :
    (κs : L.Lfts 2) (a : _) (r : _) (x : _) (λs : L.Lfts 2) (b : _) (q : _) (y : _) → theres.Post κs a r x → backs.Post λs b q y →
    (moved r).refusal.number ≡ 0 → b.0 ≡ a.0 → b.1.0.now ≡ x.1.1.0.now → length b.1.1.0.now ≡ length a.1.0.now →
    (moved q ≡ record { refusal = no_refusal; cell = 0 }) × (y.1.1.0.now ≡ a.1.0.now)
there_and_back κs a r x λs b q y k j n es ep l =
    plain_journey a.0 cell_size wide_size (omega arith) (omega arith) a.1.0.now a.1.1.0.now k.1.1 (moved r) x.1.1.0.now k.0 k.1.0 n
    b.1.0.now b.1.1.0.now ep l (moved q) y.1.1.0.now
    (j.0 ∙ ap (λ (s : Settings). moved_of s wide_size cell_size b.1.0.now (length b.1.1.0.now)) es)
    (j.1.0 ∙ ap (λ (s : Settings). target_by s wide_size cell_size b.1.0.now b.1.1.0.now) es)

-- and the other way, if the first move was not refused
pub back_and_there :
    (κs : L.Lfts 2) (a : _) (r : _) (x : _) (λs : L.Lfts 2) (b : _) (q : _) (y : _) → backs.Post κs a r x → theres.Post λs b q y →
    (moved r).refusal.number ≡ 0 → b.0 ≡ a.0 → b.1.0.now ≡ x.1.1.0.now → length b.1.1.0.now ≡ length a.1.0.now →
    (moved q ≡ record { refusal = no_refusal; cell = 0 }) × (y.1.1.0.now ≡ a.1.0.now)
back_and_there κs a r x λs b q y k j n es ep l =
    plain_journey a.0 wide_size cell_size (omega arith) (omega arith) a.1.0.now a.1.1.0.now k.1.1 (moved r) x.1.1.0.now k.0 k.1.0 n
    b.1.0.now b.1.1.0.now ep l (moved q) y.1.1.0.now
    (j.0 ∙ ap (λ (s : Settings). moved_of s cell_size wide_size b.1.0.now (length b.1.1.0.now)) es)
    (j.1.0 ∙ ap (λ (s : Settings). target_by s cell_size wide_size b.1.0.now b.1.1.0.now) es)

-- ---- the numbers

gated : (P : ℕ → Type 0) → P 0 → P 15 → P 16 → (s : Settings) (Y : ℕ) (st : List ℕ) → P (gate s Y st)
unfolding gate
gated P a b c s Y st = picked P (eqb (begun s).refused 0) _ 15 (picked P (in_order s Y st) 0 16 a c) b

moved_by_lem : (P : ℕ → Type 0) → P 0 → P 15 → P 16 → P 32 → (s : Settings) (Y Z : ℕ) (st : List ℕ) (m : ℕ) → P (moved_by s Y Z st m)
unfolding moved_by moved_in
moved_by_lem P a b c d s Y Z st m =
    picked P (eqb (gate s Y st) 0) _ (gate s Y st)
    (picked P (eqb m (count_in Y st * Z)) _ 16 (picked P (leb (count_in Y st) (first_too_long s Y Z st (count_in Y st))) 0 32 a d) c)
    (gated P a b c s Y st)

-- to cells at least as large there is no 32
wider_by : (P : ℕ → Type 0) → P 0 → P 15 → P 16 → (s : Settings) (Y Z : ℕ) → Y ≤ Z → (st : List ℕ) (m : ℕ) → P (moved_by s Y Z st m)
wider_by P a b c s Y Z l st m =
    ⊎_elim
    (λ h. subst P (sym (answer_shut s Y Z st m h)) (gated P a b c s Y st))
    (λ h. ⊎_elim (λ e. subst P (sym e) c) (λ e. subst P (sym e) a) h)
    (wider_answers s Y Z st m l)

-- 0, or a number of a list
abbrev pub OneOf : List ℕ → ℕ → Type 0
OneOf l k = Memᴰ k (0 ∷ l)

abbrev pub of_there : List ℕ
of_there = 15 ∷ 16 ∷ []

abbrev pub of_back : List ℕ
of_back = 15 ∷ 16 ∷ 32 ∷ []

here : {l : List ℕ} (k : ℕ) → Memᴰ k (k ∷ l)
here k = Memᴰ.head refl

later : {l : List ℕ} {x k : ℕ} → Memᴰ k l → Memᴰ k (x ∷ l)
later m = Memᴰ.tail m

pub there_numbered : (κs : L.Lfts 2) (a : _) (r : _) (x : _) → theres.Post κs a r x → OneOf of_there (moved r).refusal.number
there_numbered κs a r x k =
    subst (OneOf of_there) (number_told a.0 cell_size wide_size a.1.0.now (length a.1.1.0.now) k.0)
    (wider_by (OneOf of_there) (here 0) (later (here 15)) (later (later (here 16))) a.0 cell_size wide_size (omega arith) a.1.0.now
    (length a.1.1.0.now))

pub back_numbered : (κs : L.Lfts 2) (a : _) (r : _) (x : _) → backs.Post κs a r x → OneOf of_back (moved r).refusal.number
back_numbered κs a r x k =
    subst (OneOf of_back) (number_told a.0 wide_size cell_size a.1.0.now (length a.1.1.0.now) k.0)
    (moved_by_lem (OneOf of_back) (here 0) (later (here 15)) (later (later (here 16))) (later (later (later (here 32)))) a.0 wide_size cell_size a.1.0.now
    (length a.1.1.0.now))

-- ---- the same arguments, the same answer and target

moved_one : (x y : Result (Unit {0}) Unmoved) → moved x ≡ moved y → x ≡ y
moved_one (Ok u) (Ok v) e = refl
moved_one (Ok u) (Err v) e = absurd (has_number v.refused (sym (ap (λ (x : Moved). x.refusal.number) e)))
moved_one (Err u) (Ok v) e = absurd (has_number u.refused (ap (λ (x : Moved). x.refusal.number) e))
moved_one (Err u) (Err v) e =
    ap₂ (λ (x : Refused) (n : ℕ). Err (record { refused = x; cell = n })) (told_one (ap (λ (x : Moved). x.refusal) e))
    (ap (λ (x : Moved). x.cell) e)

pub there_same_answer : (κs : L.Lfts 2) (a : _) (r q : _) (s t : _) → theres.Post κs a r s → theres.Post κs a q t → r ≡ q
there_same_answer κs a r q s t k j = moved_one r q (k.0 ∙ sym j.0)

pub back_same_answer : (κs : L.Lfts 2) (a : _) (r q : _) (s t : _) → backs.Post κs a r s → backs.Post κs a q t → r ≡ q
back_same_answer κs a r q s t k j = moved_one r q (k.0 ∙ sym j.0)

pub there_same_lent : (κs : L.Lfts 2) (a : _) (r q : _) (s t : _) → theres.Post κs a r s → theres.Post κs a q t → s.1.1.0.now ≡ t.1.1.0.now
there_same_lent κs a r q s t k j = k.1.0 ∙ sym j.1.0

pub back_same_lent : (κs : L.Lfts 2) (a : _) (r q : _) (s t : _) → backs.Post κs a r s → backs.Post κs a q t → s.1.1.0.now ≡ t.1.1.0.now
back_same_lent κs a r q s t k j = k.1.0 ∙ sym j.1.0
