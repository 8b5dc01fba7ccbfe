-- What a packet of a recording comes to is what its joining takes; and the output of 65,536 octets is long enough for every message that
-- 32 cells of 1,024 octets can hold, so that no joining is refused by 21.
-- Assumes nothing.
use Prim.Native.Nat.{ℕ, ◌≤◌}
use mathlib.Core.Path.{◌≡◌, refl, ap, sym, ◌∙◌, subst}
use mathlib.Core.Logic.{◌≢◌, ◌⊎◌, inl, inr}
use mathlib.Core.Bool.{Bool, true, false}
use mathlib.Core.Option.{Option, none, some}
use mathlib.Core.List.{List, Memᴰ}
use native.Mathlib.Omega.{arith}
use lib.ListN.{length}
use lib.Dec.{eqb}
use Rattle.octets.specs.Octets.{pick, Octets}
use Rattle.walk.specs.declared.Refusal.{Refusal}
use Rattle.walk.specs.declared.Settings.{Settings}
use Rattle.packet.specs.Format.{SettingsInRange}
use Rattle.walk.specs.Walk.{refusal}
use Rattle.packet.specs.Numbers.{next_counter, steps_most}
use Rattle.cells.specs.Messages.{Run, picked}
use Rattle.arrival.specs.Arriving.{Arrived, whole, stored, again, late as as_taken, refused, arrived, store_with}
use Rattle.taking.specs.Taking.{Took, message, unable, writing, took}
use Rattle.join.specs.Joining.{took_as, joined_by, joining as joining_of}
use Rattle.join.specs.Inner.{is_late}
use Rattle.steps.specs.Stepping.{room, roomed, over, kept, late, refused as refused_by, message as message_of, came_by, came_at, came_of}
use Rattle.recording.specs.Recording.{cell_count, empty_store}
use Rattle.recording.proofs.Rooms.{message_fits}
use Rattle.demand3.specs.Traffic.{taken_from}
use Rattle.demand3.specs.Calls.{Call, joining, forgetting, Plain, goes_on, draws, store_at, took_by}
use Rattle.demand3.specs.Presupposed.{InUse, store_behind, cells_in}
use Rattle.demand3.specs.Joins.{OnlyJoins}
use Rattle.demand3.proofs.Takings.{nothing_picked, picked_taken}
use Rattle.demand3.proofs.Steps.{Kept, took_is}
use Rattle.demand3.proofs.Plain.{Pure, plain_at, plain_both}
use Rattle.demand3.proofs.Simulates.{at_keeps}
use Rattle.demand3.proofs.Carried.{behind_keeps}
use Rattle.tiles.specs.Along.{store_from}
use Rattle.tiles.proofs.Framing.{Z}
use Rattle.tiles.proofs.Joinings.{output, output_long, short, forgets_for, calls_of, calls_to, CallAt, call_at, forgets_none, handed_in}

-- ---- a message that a packet completes is taken by its joining

-- what a joining takes, by what its arrival comes to
abbrev taken_by : Settings → List ℕ → List ℕ → ℕ → Arrived → Option Took
taken_by s st p long a = pick (goes_on a) (some (took s Z (store_with Z st p a) long)) none

-- a refusal is no message
no_message : (k : Refusal) (r : Run) (l b : Bool) → pick b (pick l late kept) (refused_by k) ≡ message_of r → ⊥
no_message k r true true d = let z : ◌≡◌ {A = ℕ} 0 1 = cc d in omega arith
no_message k r false true d = let z : ◌≡◌ {A = ℕ} 0 1 = cc d in omega arith
no_message k r l false d = let z : ◌≡◌ {A = ℕ} 0 1 = cc d in omega arith

took_by_lem : (l : Bool) (t : Took) (r : Run) → came_by l (took_as t) ≡ message_of r → t ≡ message r
took_by_lem l (message q) r e = let d : q ≡ r = cc e in ap message d
took_by_lem l (unable k) r e = absurd (no_message (refusal k) r l (eqb k 20) e)

module _ (s : Settings) (st p : List ℕ) (l : Bool) (r : Run) where
  came_by_lem : (a : Arrived) → came_by l (joined_by s Z st p room a) ≡ message_of r → taken_by s st p room a ≡ some (message r)
  came_by_lem whole e = let z : ◌≡◌ {A = ℕ} 0 1 = cc e in absurd (omega arith)
  came_by_lem (stored i) e = ap some (took_by_lem l (took s Z (store_with Z st p (stored i)) room) r e)
  came_by_lem again e = ap some (took_by_lem l (took s Z (store_with Z st p again) room) r e)
  came_by_lem as_taken e = ap some (took_by_lem l (took s Z (store_with Z st p as_taken) room) r e)
  came_by_lem (refused k) e = absurd (no_message k r l (eqb k.number 20) e)

  by_came : (a : Arrived) → taken_by s st p room a ≡ some (message r) → came_by l (joined_by s Z st p room a) ≡ message_of r
  by_came whole e = let z : ◌≡◌ {A = ℕ} 0 1 = cc e in absurd (omega arith)
  by_came (stored i) e =
      let d : took s Z (store_with Z st p (stored i)) room ≡ message r = cc e in ap (λ (t : Took). came_by l (took_as t)) d
  by_came again e = let d : took s Z (store_with Z st p again) room ≡ message r = cc e in ap (λ (t : Took). came_by l (took_as t)) d
  by_came as_taken e = let d : took s Z (store_with Z st p as_taken) room ≡ message r = cc e in ap (λ (t : Took). came_by l (took_as t)) d
  by_came (refused k) e = let z : ◌≡◌ {A = ℕ} 0 1 = cc e in absurd (omega arith)

module _ (s : Settings) (st p : List ℕ) (r : Run) where
  abbrev c : Call
  c = joining p output

  -- the store that the packet is joined to
  abbrev to : List ℕ
  to = roomed s Z st p

  taken_is : took_by s Z to c ≡ taken_by s to p room (arrived s Z to p)
  unfolding took_by
  taken_is = ap (λ (n : ℕ). taken_by s to p n (arrived s Z to p)) output_long

  pub came_taken : came_of s Z st p ≡ message_of r → (short p ≡ true) × (took_by s Z to c ≡ some (message r))
  unfolding came_of came_at joining_of
  came_taken e = go (short p) e
    where
      go : (b : Bool) → pick b (came_by (is_late (arrived s Z to p)) (joined_by s Z to p room (arrived s Z to p))) over ≡ message_of r →
          (b ≡ true) × (took_by s Z to c ≡ some (message r))
      go true d = (refl, taken_is ∙ came_by_lem s to p (is_late (arrived s Z to p)) r (arrived s Z to p) d)
      go false d = let z : ◌≡◌ {A = ℕ} 0 1 = cc d in absurd (omega arith)

  pub taken_came : short p ≡ true → took_by s Z to c ≡ some (message r) → came_of s Z st p ≡ message_of r
  unfolding came_of came_at joining_of
  taken_came f e =
      ap (λ (b : Bool). pick b (came_by (is_late (arrived s Z to p)) (joined_by s Z to p room (arrived s Z to p))) over) f
      ∙ by_came s to p (is_late (arrived s Z to p)) r (arrived s Z to p) (sym taken_is ∙ e)

-- ---- the output is long enough

pub in_use_lem : (s : Settings) → SettingsInRange s → InUse s cell_count
in_use_lem s r = record { settings = r; some = omega arith; most = omega arith }

pub one_octet : 1 ≤ Z
one_octet = omega arith

module _ (s : Settings) (st : List ℕ) (k : Kept s Z cell_count st) (long : ℕ) (l : room ≤ long) where
  never_21 : took s Z st long ≢ unable 21
  never_21 e = go (picked next_counter steps_most (cells_in s Z cell_count st)) refl
    where
      is : taken_from next_counter steps_most (cells_in s Z cell_count st) long ≡ unable 21
      is = sym (took_is s Z cell_count st k long) ∙ e

      fits : (r : Run) → picked next_counter steps_most (cells_in s Z cell_count st) ≡ some r → length (writing r) ≤ long
      fits r d =
          let few = k.count in
          let a = message_fits s Z (omega arith) st (omega arith) r (ap (λ (n : ℕ). picked next_counter steps_most (cells_in s Z n st)) few ∙ d) in
          omega arith

      go : (o : Option Run) → picked next_counter steps_most (cells_in s Z cell_count st) ≡ o → ⊥
      go none d =
          let f : unable 20 ≡ unable 21 = sym (nothing_picked next_counter steps_most (cells_in s Z cell_count st) long d).0 ∙ is in
          let z : ◌≡◌ {A = ℕ} 20 21 = cc f in
          omega arith
      go (some r) d =
          let f : message r ≡ unable 21 = sym (picked_taken next_counter steps_most (cells_in s Z cell_count st) long r d (fits r d)) ∙ is in
          let z : ◌≡◌ {A = ℕ} 0 1 = cc f in
          omega arith

-- packets of octets, as calls
pub plain_calls : (s : Settings) (ps : List (List ℕ)) → ((p : List ℕ) → Memᴰ p ps → Octets p) → Plain (calls_of s ps)
plain_calls s ps o p h = o p (handed_in s ps empty_store p h)

pub plain_to : (s : Settings) (ps : List (List ℕ)) (p : List ℕ) → ((q : List ℕ) → Memᴰ q ps → Octets q) → Plain (calls_to s ps p)
plain_to s ps p o =
    plain_both (calls_of s ps) (forgets_for s (store_from s empty_store ps) p) (plain_calls s ps o)
    (λ q h. absurd (forgets_none s (store_from s empty_store ps) p q h))

-- so nothing complete is left
pub calls_join : (s : Settings) → SettingsInRange s → (ps : List (List ℕ)) → ((p : List ℕ) → Memᴰ p ps → Octets p) →
    OnlyJoins s Z cell_count (calls_of s ps)
unfolding took_by
calls_join s range ps o =
    record {
      octets = plain_calls s ps o;
      joins = λ x y c e. kind x c (call_at s ps empty_store x c y e);
      long = λ x y c e. by x c (plain_at (calls_of s ps) x y c e (plain_calls s ps o)) (call_at s ps empty_store x c y e);
    }
  where
    kind : (x : List Call) (c : Call) → CallAt s empty_store ps x c ⊎ ((i : ℕ) × (c ≡ forgetting i)) →
        ((p : List ℕ) × (out : List ℕ) × (c ≡ joining p out)) ⊎ ((i : ℕ) × (c ≡ forgetting i))
    kind x c (inl a) = inl (a.packet, output, a.call)
    kind x c (inr i) = inr i

    plenty : (x : List Call) → Plain x → (p : List ℕ) → Pure (joining p output) →
        took_by s Z (store_behind s Z cell_count x) (joining p output) ≢ some (unable 21)
    plenty x q p pure e = go (draws s Z (store_behind s Z cell_count x) (joining p output)) e
      where
        at : List ℕ
        at = store_at s Z (store_behind s Z cell_count x) (joining p output)

        kept' : Kept s Z cell_count at
        kept' = at_keeps s Z cell_count (store_behind s Z cell_count x) (behind_keeps s Z cell_count one_octet (in_use_lem s range) x q) (joining p output) pure

        go : (b : Bool) → pick b (some (took s Z at (length output))) none ≡ some (unable 21) → ⊥
        go true d = let f : took s Z at (length output) ≡ unable 21 = cc d in never_21 s at kept' (length output) (omega (arith, output_long)) f
        go false d = let z : ◌≡◌ {A = ℕ} 0 1 = cc d in omega arith

    nothing : (x : List Call) (c : Call) (i : ℕ) → c ≡ forgetting i → took_by s Z (store_behind s Z cell_count x) c ≢ some (unable 21)
    nothing x c i d e =
        let f : none ≡ some (unable 21) = sym (ap (took_by s Z (store_behind s Z cell_count x)) d) ∙ e in
        let z : ◌≡◌ {A = ℕ} 0 1 = cc f in
        omega arith

    by : (x : List Call) (c : Call) → Plain x × Pure c → CallAt s empty_store ps x c ⊎ ((i : ℕ) × (c ≡ forgetting i)) →
        took_by s Z (store_behind s Z cell_count x) c ≢ some (unable 21)
    by x c f (inl a) =
        subst (λ (d : Call). took_by s Z (store_behind s Z cell_count x) d ≢ some (unable 21)) (sym a.call)
        (plenty x f.0 a.packet (subst Pure a.call f.1))
    by x c f (inr i) = nothing x c i.0 i.1
