-- A joining by what its arrival comes to: refused, whole, or else what taking gives.
-- Assumes nothing.
use Prim.Native.Nat.{ℕ, ◌-◌}
use mathlib.Core.Path.{◌≡◌, refl, ap, ap₂, sym, ◌∙◌}
use mathlib.Core.Bool.{Bool, false}
use mathlib.Core.Logic.{inl, inr}
use mathlib.Core.List.{List, [], ◌∷◌}
use native.Mathlib.Omega.{arith}
use denote.Enum.Declared.{tag_of}
use types.Run.{OneOf}
use lib.ListN.{length}
use Rattle.octets.specs.Octets.{Octets}
use Rattle.walk.specs.declared.Settings.{Settings}
use Rattle.walk.specs.declared.Refusal.{Refusal}
use Rattle.walk.specs.Walk.{refusal}
use Rattle.packet.specs.Reading.{read_packet}
use Rattle.arrival.specs.declared.Kind.{Kind}
use Rattle.arrival.specs.declared.Kind.TheVariants.{Whole, Stored, Held, Taken as Late}
use Rattle.std.specs.Prelude.{Result}
use Rattle.walk.specs.declared.Refused.{Refused as Refusing}
use Rattle.arrival.specs.Answer.{Arrival, Answer, Refused}
use Rattle.taking.specs.Answer.{Taken}
use Rattle.arrival.specs.contracts.Kind.{the_type}
use Rattle.arrival.specs.Arriving.{Arrived, whole, stored, again, late, refused, arrived_in, store_with}
use Rattle.taking.specs.Taking.{took_in, out_with}
use Rattle.arrival.specs.Told.{arrival_of}
use Rattle.taking.specs.Told.{taken_of}
use Rattle.cells.specs.Order.{gate}
use Rattle.arrival.proofs.Checked.{arrived_shut}
use Rattle.join.specs.Answer.{Joined, joined_answer}
use Rattle.join.specs.declared.Joined.{Joined as Body}
use Rattle.join.specs.declared.Came.{Came}
use Rattle.join.specs.Joining.{in_packet, unjoined, body_from, took_as, joined_by, store_by, out_by, joining, store_joined, out_joined}
use Rattle.join.specs.Told.{joined_of}
use Rattle.join.specs.Inner.{body_in, taken_as, is_late, late_as, joined_in_by, less_taken_in, store_in_by, out_in_by, joining_in, store_joined_in, out_joined_in}
use Rattle.join.proofs.Coming.{whole_in, whole_place, took_as_lem}

-- one kind is no other
pub late_not_whole : (k : Kind) → k ≡ Late → k ≡ Whole → ⊥
late_not_whole k e h = let d : Whole ≡ Late = sym h ∙ e in let z : ◌≡◌ {A = ℕ} 0 1 = cc in omega arith

pub other_not_late : (k : Kind) → (k ≡ Late → ⊥) → false ≡ late_as k
other_not_late Whole h = refl
other_not_late Stored h = refl
other_not_late Held h = refl
other_not_late Late h = absurd (h refl)

-- the kind that was answered tells whether the message was taken
kind_late : {g : Arrival} (a : Kind) {k : Kind} {l : Bool} → g ≡ Answer a → g ≡ Answer k → l ≡ late_as k → l ≡ late_as a
kind_late a {k} e h el = let q : Answer k ≡ Answer a = sym h ∙ e in let same : k ≡ a = cc q in el ∙ ap late_as same

-- ---- with the tests of settings and order

module _ (s : Settings) (Z : ℕ) (st p out : List ℕ) where
  -- the answer, the store and the output are those of the joining
  abbrev pub Joins : Joined → List ℕ → List ℕ → Type 0
  Joins j x y =
      (j ≡ joined_of (joining s Z st p (length out)))
      × ((x ≡ store_joined s Z st p (length out)) × (y ≡ out_joined s Z st p out))

  -- T or the store's order refuses it
  pub join_shut : (gate s Z st ≡ 0 → ⊥) → {r : Refusal} {j : Joined} → r ≡ refusal (gate s Z st) → j ≡ joined_of (unjoined r) → Joins j st out
  unfolding joining store_joined out_joined store_with
  join_shut h ek ej =
      let e = sym (arrived_shut s Z st p h) in (
        ej ∙ ap (λ (x : Refusal). joined_of (unjoined x)) ek ∙ ap (λ (b : Arrived). joined_of (joined_by s Z st p (length out) b)) e,
        (ap (store_by s Z st p (length out)) e, ap (out_by s Z st p out) e),
      )

-- ---- without them

module _ (s : Settings) (Z : ℕ) (st p out : List ℕ) (n : ℕ) where
  -- the answer, the store and the output are those of an arrival that comes to b
  abbrev By : Arrived → Joined → Bool → List ℕ → List ℕ → Type 0
  By b j l x y =
      (j ≡ joined_of (joined_in_by s Z st n p (length out) b))
      × ((l ≡ is_late b) × ((x ≡ store_in_by s Z st n p (length out) b) × (y ≡ out_in_by s Z st n p out b)))

  -- and those of the joining
  abbrev pub JoinsIn : Came → List ℕ → List ℕ → Type 0
  JoinsIn c x y =
      (joined_answer c.joined ≡ joined_of (joining_in s Z st n p (length out)))
      × ((c.late ≡ is_late (arrived_in s Z st n p)) × ((x ≡ store_joined_in s Z st n p (length out)) × (y ≡ out_joined_in s Z st n p out)))

  -- a taking from the store after the arrival
  pub record Takes (x : List ℕ) (j : Joined) (after left : List ℕ) : Type 0 where
    pub taken : Taken
    pub told : taken ≡ taken_of (took_in s Z x n (length out))
    pub answer : j ≡ taken_as taken
    pub store : after ≡ less_taken_in s Z x n (length out)
    pub output : left ≡ out_with out (took_in s Z x n (length out))

  drawn_by :
      {x y : List ℕ} {j : Joined} {after left : List ℕ} → x ≡ y → Takes x j after left →
      (j ≡ joined_of (took_as (took_in s Z y n (length out)))) × ((after ≡ less_taken_in s Z y n (length out)) × (left ≡ out_with out (took_in s Z y n (length out))))
  drawn_by {x} ex t = (
    t.answer
        ∙ ap taken_as t.told
        ∙ took_as_lem (length out) s Z x n
        ∙ ap (λ (w : List ℕ). joined_of (took_as (took_in s Z w n (length out)))) ex,
    (
      t.store ∙ ap (λ (w : List ℕ). less_taken_in s Z w n (length out)) ex,
      t.output ∙ ap (λ (w : List ℕ). out_with out (took_in s Z w n (length out))) ex,
    ),
  )

  module _ {g : Arrival} {x : List ℕ} where
    -- ---- refused

    refused_by_lem :
        (b : Arrived) {r : Refusal} {j : Joined} → g ≡ arrival_of b → x ≡ store_with Z st p b → g ≡ Refused r →
        j ≡ joined_of (unjoined r) → By b j false x out
    refused_by_lem whole e ex h ej = let z : ◌≡◌ {A = ℕ} 0 1 = cc in absurd (omega arith)
    refused_by_lem (stored i) e ex h ej = let z : ◌≡◌ {A = ℕ} 0 1 = cc in absurd (omega arith)
    refused_by_lem again e ex h ej = let z : ◌≡◌ {A = ℕ} 0 1 = cc in absurd (omega arith)
    refused_by_lem late e ex h ej = let z : ◌≡◌ {A = ℕ} 0 1 = cc in absurd (omega arith)
    refused_by_lem (refused k) {r} e ex h ej =
        let q : Refused r ≡ Refused k = sym h ∙ e in
        let same : r ≡ k = cc q in
        (ej ∙ ap (λ (f : Refusal). joined_of (unjoined f)) same, (refl, (ex, refl)))

    -- ---- whole

    whole_by :
        (b : Arrived) {j : Joined} →
        (b ≡ whole → ((read_packet s p).body.at ≡ body_from s p) × ((read_packet s p).body.length ≡ length p - body_from s p)) →
        g ≡ arrival_of b → x ≡ store_with Z st p b → g ≡ Answer Whole → (b ≡ whole → j ≡ body_in (read_packet s p)) →
        By b j false x out
    whole_by whole pl e ex h ej = (ej refl ∙ ap₂ (λ (a b : ℕ). joined_of (in_packet a b)) (pl refl).0 (pl refl).1, (refl, (ex, refl)))
    whole_by (stored i) pl e ex h ej = let z : ◌≡◌ {A = ℕ} 0 1 = cc in absurd (omega arith)
    whole_by again pl e ex h ej = let z : ◌≡◌ {A = ℕ} 0 1 = cc in absurd (omega arith)
    whole_by late pl e ex h ej = let z : ◌≡◌ {A = ℕ} 0 1 = cc in absurd (omega arith)
    whole_by (refused k) pl e ex h ej = let z : ◌≡◌ {A = ℕ} 0 1 = cc in absurd (omega arith)

    -- ---- taking

    taking_by :
        (b : Arrived) {k : Kind} {j : Joined} {l : Bool} {after left : List ℕ} → g ≡ arrival_of b → x ≡ store_with Z st p b → g ≡ Answer k →
        (k ≡ Whole → ⊥) → l ≡ late_as k → Takes x j after left → By b j l after left
    taking_by whole e ex h w el t = let q : Answer Whole ≡ Answer _ = sym e ∙ h in absurd (w (sym (cc q)))
    taking_by (stored i) e ex h w el t = let d = drawn_by ex t in (d.0, (kind_late Stored e h el, d.1))
    taking_by again e ex h w el t = let d = drawn_by ex t in (d.0, (kind_late Held e h el, d.1))
    taking_by late e ex h w el t = let d = drawn_by ex t in (d.0, (kind_late Late e h el, d.1))
    taking_by (refused k) e ex h w el t = let z : ◌≡◌ {A = ℕ} 0 1 = cc in absurd (omega arith)

    -- ---- the three of them for the arrival that there is

    module _ (e : g ≡ arrival_of (arrived_in s Z st n p)) (ex : x ≡ store_with Z st p (arrived_in s Z st n p)) where
      pub join_refused :
          {r : Refusal} (j : Result Body Refusing) → g ≡ Refused r → joined_answer j ≡ joined_of (unjoined r) → JoinsIn (record { joined = j; late = false }) x out
      unfolding joining_in store_joined_in out_joined_in
      join_refused j h ej = refused_by_lem (arrived_in s Z st n p) e ex h ej

      pub join_whole :
          (j : Result Body Refusing) → Octets p → g ≡ Answer Whole → ((read_packet s p).refusal.number ≡ 0 → joined_answer j ≡ body_in (read_packet s p)) →
          JoinsIn (record { joined = j; late = false }) x out
      unfolding joining_in store_joined_in out_joined_in
      join_whole j o h ej =
          whole_by (arrived_in s Z st n p)
          (λ a. let t = whole_in s Z st p n a in whole_place s p o t.0 t.1)
          e ex h
          (λ a. ej (whole_in s Z st p n a).0)

      pub join_taking :
          {k : Kind} (j : Result Body Refusing) {l : Bool} {after left : List ℕ} → g ≡ Answer k → (k ≡ Whole → ⊥) → l ≡ late_as k → Takes x (joined_answer j) after left →
          JoinsIn (record { joined = j; late = l }) after left
      unfolding joining_in store_joined_in out_joined_in
      join_taking j h w el t = taking_by (arrived_in s Z st n p) e ex h w el t
