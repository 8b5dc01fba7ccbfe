-- A packet that is joined once more. One that is refused by 19 has changed neither the store nor the output, so the record in the lowest cell
-- that has one is forgotten in the store as it was, and what counts is the second joining alone.
-- Assumes nothing.
use Prim.Native.Nat.{ℕ, ◌+◌, ◌*◌, ◌≤◌}
use mathlib.Core.Path.{◌≡◌, refl, ap, ap₂, sym, ◌∙◌}
use mathlib.Core.Bool.{Bool, true, false}
use mathlib.Core.List.{List, []}
use mathlib.Core.Option.{Option, none, some}
use native.Mathlib.Omega.{arith}
use lib.ListN.{length}
use lib.Seq.{sets}
use lib.Dec.{leb, eqb}
use borrow.Author.Tests.{eq-eqb, ne_eqb}
use Rattle.octets.specs.Octets.{pick}
use Rattle.walk.specs.declared.Settings.{Settings}
use Rattle.std.specs.Prelude.{Result, Ok, Err, is_err}
use Rattle.walk.specs.declared.Refused.{Refused as Refusing}
use Rattle.walk.specs.Told.{said}
use Rattle.walk.proofs.Refuses.{has_number}
use Rattle.walk.specs.Walk.{begun}
use Rattle.packet.specs.Numbers.{next_counter, steps_most}
use Rattle.cells.specs.Rows.{zero_row}
use Rattle.cells.specs.Order.{count_in, in_order, gate, through}
use Rattle.cells.specs.Messages.{Run, cells_of, picked}
use Rattle.arrival.specs.Arriving.{Arrived, whole, stored, again, late, refused, arrived, store_with}
use Rattle.taking.specs.Taking.{message, unable, writing, drawn, took_in, took}
use Rattle.taking.specs.Forgetting.{lowest_record, forgot_in, forgot, store_unless}
use Rattle.taking.proofs.Forgets.{forgot_open}
use Rattle.join.specs.Answer.{Joined, joined_answer}
use Rattle.join.specs.declared.Came.{Came}
use Rattle.join.specs.Joining.{Joining, in_packet, in_output, unjoined, took_as, joined_by, store_by, joining, store_joined}
use Rattle.join.specs.Told.{joined_of}
use Rattle.join.specs.Inner.{is_late}
use Rattle.steps.specs.Stepping.{room, is_full, unrecorded, roomed}
use Rattle.steps.specs.Inner.{taken_in}
use Rattle.steps.proofs.Kept.{unrecorded_gate, unrecorded_count}

-- ---- refused by 19

-- taking is not
drawn_full : (o : Option Run) (long : ℕ) → is_full (took_as (drawn o long)) ≡ false
drawn_full none long = refl
drawn_full (some r) long = told (leb (length (writing r)) long)
  where
    told : (b : Bool) → is_full (took_as (pick b (message r) (unable 21))) ≡ false
    told true = refl
    told false = refl

pub took_full : (s : Settings) (Z : ℕ) (x : List ℕ) (long : ℕ) → is_full (took_as (took s Z x long)) ≡ false
unfolding took took_in gate
took_full s Z x long = told (eqb (begun s).refused 0) (in_order s Z x)
  where
    told :
        (a b : Bool) →
        is_full (took_as (through (pick a (pick b 0 16) 15) (drawn (picked next_counter steps_most (cells_of s Z x (count_in Z x))) long) unable)) ≡ false
    told true true = drawn_full (picked next_counter steps_most (cells_of s Z x (count_in Z x))) long
    told true false = refl
    told false b = refl

-- by the answer
full_is : (j : Joining) {a : Joined} → a ≡ joined_of j → a.refusal.number ≡ 19 → is_full j ≡ true
full_is (in_packet place long) e h = absurd (omega (arith, ap (λ (b : Joined). b.refusal.number) e))
full_is (in_output r) e h = absurd (omega (arith, ap (λ (b : Joined). b.refusal.number) e))
full_is (unjoined r) e h = eq-eqb r.number 19 (sym (ap (λ (b : Joined). b.refusal.number) e) ∙ h)

full_not : (j : Joining) {a : Joined} → a ≡ joined_of j → (a.refusal.number ≡ 19 → ⊥) → is_full j ≡ false
full_not (in_packet place long) e h = refl
full_not (in_output r) e h = refl
full_not (unjoined r) e h = ne_eqb r.number 19 (λ d. h (ap (λ (b : Joined). b.refusal.number) e ∙ d))

-- nothing is written
full_writes : (j : Joining) → is_full j ≡ true → taken_in j ≡ []
full_writes (in_packet place long) e = refl
full_writes (in_output r) e = let z : ◌≡◌ {A = ℕ} 0 1 = cc in absurd (omega arith)
full_writes (unjoined r) e = refl

-- ---- the lowest record is forgotten

-- an answer that is an error has a number
pub said_err : {A : Type 0} (r : Result A Refusing) → is_err r ≡ true → (said r).number ≡ 0 → ⊥
said_err (Ok x) e h = let z : ◌≡◌ {A = ℕ} 0 1 = cc in omega arith
said_err (Err r) e h = has_number r h

pub forgets :
    (s : Settings) (Z : ℕ) (st : List ℕ) {n i k : ℕ} {y : List ℕ} → gate s Z st ≡ 0 → n ≡ count_in Z st → i ≡ lowest_record s Z st n →
    k ≡ forgot_in s Z st n i → y ≡ store_unless (forgot_in s Z st n i) Z st i →
    (k ≡ forgot s Z st (lowest_record s Z st (count_in Z st))) × (y ≡ unrecorded s Z st)
forgets s Z st {n} {i} g en ei ek ey =
    let l = lowest_record s Z st (count_in Z st) in
    let a : i ≡ l = ei ∙ ap (lowest_record s Z st) en in
    let f : forgot_in s Z st n i ≡ forgot s Z st l = ap₂ (forgot_in s Z st) en a ∙ forgot_open s Z st l g in
    (ek ∙ f, ey ∙ ap₂ (λ (k m : ℕ). store_unless k Z st m) f a)

-- if there is none, the store is as it was
pub unrecorded_none :
    (s : Settings) (Z : ℕ) (st : List ℕ) → (forgot s Z st (lowest_record s Z st (count_in Z st)) ≡ 0 → ⊥) → unrecorded s Z st ≡ st
unrecorded_none s Z st h =
    let l = lowest_record s Z st (count_in Z st) in
    ap (λ (b : Bool). pick b (sets st (l * Z) (zero_row Z)) st) (ne_eqb (forgot s Z st l) 0 h)

module _ (s : Settings) (Z : ℕ) (st p : List ℕ) where
  -- ---- after a refusal by 19 the store is as it was

  full_by : (b : Arrived) → is_full (joined_by s Z st p room b) ≡ true → store_by s Z st p room b ≡ st
  unfolding store_with
  full_by whole e = refl
  full_by (stored i) e = let d = took_full s Z (store_with Z st p (stored i)) room in let z : ◌≡◌ {A = ℕ} 0 1 = cc in absurd (omega arith)
  full_by again e = let d = took_full s Z (store_with Z st p again) room in let z : ◌≡◌ {A = ℕ} 0 1 = cc in absurd (omega arith)
  full_by late e = let d = took_full s Z (store_with Z st p late) room in let z : ◌≡◌ {A = ℕ} 0 1 = cc in absurd (omega arith)
  full_by (refused r) e = refl

  pub full_leaves : is_full (joining s Z st p room) ≡ true → store_joined s Z st p room ≡ st
  unfolding joining store_joined
  full_leaves e = full_by (arrived s Z st p) e

  -- ---- the store that a packet is joined to in the end

  pub roomed_as : is_full (joining s Z st p room) ≡ false → roomed s Z st p ≡ st
  unfolding roomed
  roomed_as e = ap (λ (b : Bool). pick b (unrecorded s Z st) st) e

  pub roomed_full : is_full (joining s Z st p room) ≡ true → roomed s Z st p ≡ unrecorded s Z st
  unfolding roomed
  roomed_full e = ap (λ (b : Bool). pick b (unrecorded s Z st) st) e

  -- the answer, the store and the output are those of a joining to the store x
  abbrev pub Meets : List ℕ → List ℕ → Came → List ℕ → List ℕ → Type 0
  Meets x out c y z =
      (joined_answer c.joined ≡ joined_of (joining s Z x p room))
      × ((c.late ≡ is_late (arrived s Z x p)) × ((y ≡ store_joined s Z x p room) × (z ≡ sets out 6 (taken_in (joining s Z x p room)))))

  meets_at : {x w out l : List ℕ} (c : Came) {y z : List ℕ} → x ≡ w → out ≡ l → Meets x out c y z → Meets w l c y z
  meets_at c ex eo m = (
    m.0 ∙ ap (λ (v : List ℕ). joined_of (joining s Z v p room)) ex,
    (
      m.1.0 ∙ ap (λ (v : List ℕ). is_late (arrived s Z v p)) ex,
      (
        m.1.1.0 ∙ ap (λ (v : List ℕ). store_joined s Z v p room) ex,
        m.1.1.1 ∙ ap₂ (λ (o v : List ℕ). sets o 6 (taken_in (joining s Z v p room))) eo ex,
      ),
    ),
  )

  module _ (out : List ℕ) (c : Came) {y z : List ℕ} (m : Meets st out c y z) where
    -- not refused by 19: once is enough
    pub meets_once : ((joined_answer c.joined).refusal.number ≡ 19 → ⊥) → Meets (roomed s Z st p) out c y z
    meets_once h = meets_at c (sym (roomed_as (full_not (joining s Z st p room) m.0 h))) refl m

    module _ (h : (joined_answer c.joined).refusal.number ≡ 19) where
      full : is_full (joining s Z st p room) ≡ true
      full = full_is (joining s Z st p room) m.0 h

      store_left : y ≡ st
      store_left = m.1.1.0 ∙ full_leaves full

      out_left : z ≡ out
      out_left = m.1.1.1 ∙ ap (λ (l : List ℕ). sets out 6 l) (full_writes (joining s Z st p room) full)

      -- so it may be asked for its records
      pub left_gate : gate s Z st ≡ 0 → gate s Z y ≡ 0
      left_gate g = ap (gate s Z) store_left ∙ g

      pub left_count : {n : ℕ} → n ≡ count_in Z st → n ≡ count_in Z y
      left_count e = e ∙ ap (count_in Z) (sym store_left)

      module _ {v : List ℕ} (ev : v ≡ unrecorded s Z y) where
        -- and the packet may be joined to what is left
        pub again_gate : gate s Z st ≡ 0 → gate s Z v ≡ 0
        again_gate g = ap (gate s Z) ev ∙ unrecorded_gate s Z y (left_gate g)

        pub again_count : {n : ℕ} → n ≡ count_in Z st → n ≡ count_in Z v
        again_count e = unrecorded_count s Z y (left_count e) ∙ ap (count_in Z) (sym ev)

        pub again_out : 6 + room ≤ length out → 6 + room ≤ length z
        again_out l = omega (arith, ap length out_left)

        roomed_is : v ≡ roomed s Z st p
        roomed_is = ev ∙ ap (unrecorded s Z) store_left ∙ sym (roomed_full full)

        -- there is no record
        pub meets_none : {k : ℕ} → k ≡ forgot s Z y (lowest_record s Z y (count_in Z y)) → (k ≡ 0 → ⊥) → Meets (roomed s Z st p) out c v z
        meets_none {k} ek d =
            let b : v ≡ st = ev ∙ unrecorded_none s Z y (λ q. d (ek ∙ q)) ∙ store_left in
            let w : Meets st out c v z = (m.0, (m.1.0, (b ∙ sym store_left ∙ m.1.1.0, m.1.1.1))) in
            meets_at c (sym b ∙ roomed_is) refl w

        -- there is one
        pub meets_again : (d : Came) {u l : List ℕ} → Meets v z d u l → Meets (roomed s Z st p) out d u l
        meets_again d w = meets_at d roomed_is out_left w
