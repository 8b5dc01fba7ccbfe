-- Wrong programs that the law shuts out, by computation on the run of `Run`: one that keeps no records, and so hands out a message again when it
-- comes again; one that sees no cell after a record, and so loses a message that is complete; one that never answers 20. Each stores like the
-- store, and differs from it in one thing: what it leaves of a message, what it picks, or what it answers. The store meets what each of them fails.
-- Assumes nothing.
use Prim.Native.Nat.{ℕ}
use mathlib.Core.Path.{◌≡◌, refl, ap, ap₂, sym, ◌∙◌, subst}
use mathlib.Core.Bool.{Bool, true, false, false≢true}
use mathlib.Core.Option.{Option, none, some}
use mathlib.Core.List.Memᴰ
use mathlib.Core.List.{List, [], ◌∷◌, ◌++◌, map, map-append}
use native.Mathlib.Omega.{arith}
use lib.ListN.{length}
use lib.Dec.{leb}
use Rattle.octets.specs.Octets.{pick, alike, wide}
use Rattle.fields.specs.Form.{split}
use Rattle.packet.specs.Format.{presence, identification, fixed_octets, front_octets, back_octets, header_octets}
use Rattle.packet.specs.Numbers.{next_counter, steps_most}
use Rattle.write.specs.Given.{head_of}
use Rattle.cells.specs.Segments.{carries, same_rest, reaches}
use Rattle.cells.specs.Rows.{Cell, free, range_in, by_range}
use Rattle.cells.specs.Order.{cell_size}
use Rattle.cells.specs.Messages.{Run, look, role_of, bodies, rest_from, run_from, pick_in, picked, among, among_in, segments, or}
use Rattle.cells.proofs.Distinct.{carries_yes}
use Rattle.taking.specs.Taking.{Took, message, unable, writing, drawn, took}
use Rattle.demand3.specs.Cells.{put, has_free, recorded, spans, forgotten, clear}
use Rattle.demand3.specs.Traffic.{Event, arrives, passes, takes, forgets, stowed, empty, taken_from}
use Rattle.demand3.specs.Calls.{Call, arrival, taking, took_by}
use Rattle.demand3.specs.Sendings.{key_in}
use Rattle.demand3.specs.Presupposed.{AllCame, Its, store_behind, cells_in}
use Rattle.demand3.proofs.Acts.{Act, comes, draw, meets, forgoes, act_of, lands, events_of}
use Rattle.demand3.proofs.Day.{settings, three, two, of_three, of_two, the_key, is_three_next, messages, two_cut}
use Rattle.demand3.proofs.DayRun.{lent_out, morning, at_noon, morning_acts, morning_acts_lem, three_next, three_last, met, in_use_lem, one}
use Rattle.demand3.proofs.DayEnd.{the_run, the_key_lem, the_start}
use Rattle.once.proofs.Run.{afternoon, ripe, repeating, whole, ripe_acts, ripe_acts_lem, repeating_acts, once_three, unforgotten}
use Rattle.once.proofs.RunEnd.{outs, two_came, drained}
use mathlib.Core.Logic.{◌⊎◌, inl, inr}
use Rattle.taking.specs.Told.{taken_of}
use Rattle.demand3.specs.Whole.{IsComplete}
use Rattle.demand3.specs.Joins.{NoneComplete}
use Rattle.demand3.proofs.Steps.{took_is}
use Rattle.demand3.proofs.Carried.{behind_keeps}
use Rattle.demand3.proofs.JoinsAt.{none_is}
use Rattle.once.specs.Once.{Unforgotten, HandedOut}
use Rattle.once.proofs.Lists.{before_others}
use Rattle.once.proofs.Each.{each_once·whole}
use Rattle.once.proofs.Contracts.{drawn_20}

abbrev Z : ℕ
Z = cell_size

-- ---- programs

pub record Program : Type 0 where
  pub choose : List Cell → Option Run
  pub answer : Option Run → ℕ → Took
  pub leave : Run → List Cell → List Cell

module _ (w : Program) where
  abbrev leaves : Took → List Cell → List Cell
  leaves (message r) cs = w.leave r cs
  leaves (unable k) cs = cs

  unfoldable pub goes : List Cell → Event → List Cell
  goes cs (arrives t) = pick (recorded next_counter cs t.key t.counter) cs (stowed (look cs t.key t.counter) cs t)
  goes cs passes = cs
  goes cs (takes long) = leaves (w.answer (w.choose cs) long) cs
  goes cs (forgets i) = forgotten i cs

  unfoldable pub goes_on : List Cell → List Event → List Cell
  goes_on cs [] = cs
  goes_on cs (e ∷ es) = goes_on (goes cs e) es

  -- the cells after a list of calls
  unfoldable pub behind : List Cell → List Act → List Cell
  behind cs [] = cs
  behind cs (a ∷ l) = behind (goes_on cs (events_of cs a)) l

  -- what a call takes
  unfoldable pub taken_by : List Cell → Act → Option Took
  taken_by cs (comes e) = none
  taken_by cs (draw long) = some (w.answer (w.choose cs) long)
  taken_by cs (meets e o long) = pick (lands cs e o) (some (w.answer (w.choose (goes cs e)) long)) none
  taken_by cs (forgoes i) = none

  -- and after some calls, from an empty store of four cells on
  abbrev pub by : List Call → Call → Option Took
  by cs c = taken_by (behind (empty 4) (map (act_of settings Z) cs)) (act_of settings Z c)

abbrev pub store : List Call → Call → Option Took
store cs c = took_by settings Z (store_behind settings Z 4 cs) c

-- ---- handed out again

-- no two calls of the run hand out the first message
abbrev pub HandsOnce : (List Call → Call → Option Took) → Type 0
HandsOnce f = (x y z : List Call) (c d : Call) (r q : Run) → whole ≡ (x ++ c ∷ y) ++ d ∷ z → f x c ≡ some (message r) → Its settings three r →
    f (x ++ c ∷ y) d ≡ some (message q) → Its settings three q → ⊥

-- the store does so
pub store_once : HandsOnce store
store_once x y z c d r q e a i b j = once_three.once x y z c d e (r, a, i) (q, b, j)

-- it frees all cells of a message, and leaves no record
abbrev pub recordless : Program
recordless =
    record {
      choose = picked next_counter steps_most;
      answer = drawn;
      leave = λ r cs. map (λ (x : Cell). pick (among_in (segments r) x) free x) cs;
    }

first_time : taken_by recordless (behind recordless (empty 4) morning_acts) (meets three_next none 35) ≡ some (message the_run)
unfolding taken_by behind goes_on goes look carries same_rest alike put has_free pick_in run_from rest_from role_of bodies among next_counter recorded spans reaches
first_time = refl

abbrev again_acts : List Act
again_acts = ripe_acts ++ draw 33 ∷ meets three_next none 100 ∷ comes three_last ∷ []

second_time : taken_by recordless (behind recordless (empty 4) again_acts) (draw 100) ≡ some (message the_run)
unfolding taken_by behind goes_on goes look carries same_rest alike put has_free pick_in run_from rest_from role_of bodies among next_counter recorded spans reaches
second_time = refl

pub no_recordless : HandsOnce (by recordless) → ⊥
no_recordless f =
    f morning (afternoon ++ repeating) (arrival (of_two 0 84) ∷ []) at_noon (taking (lent_out 100)) the_run the_run refl
    (ap₂ (λ (l : List Act) (a : Act). taken_by recordless (behind recordless (empty 4) l) a) morning_acts_lem (met (of_three 1 79) _ 35 (is_three_next 79 (omega arith))) ∙ first_time)
    (the_key_lem, the_start)
    (ap (λ (l : List Act). taken_by recordless (behind recordless (empty 4) l) (draw 100)) (ap₂ ◌++◌ ripe_acts_lem repeating_acts) ∙ second_time)
    (the_key_lem, the_start)

-- ---- lost

-- a taking of the run that is refused by 20 finds the other message out, if all its segments have arrived
abbrev pub LosesNone : (List Call → Call → Option Took) → Type 0
LosesNone f = (x y : List Call) (out : List ℕ) → whole ≡ x ++ taking out ∷ y → f x (taking out) ≡ some (unable 20) → AllCame settings two x →
    (u : List Call) × (d : Call) × (v : List Call) × (r : Run) × (x ≡ u ++ d ∷ v) × (f u d ≡ some (message r)) × Its settings two r

-- the store does so
pub store_loses_none : LosesNone store
unfolding took_by taken_from
store_loses_none x y out e f all = let o = handed in (o.earlier, o.call, o.others, o.takes.0, o.place, o.takes.1, o.takes.2)
  where
    now : List ℕ
    now = store_behind settings Z 4 x

    g : Unforgotten settings Z 4 messages x
    g = before_others settings Z 4 messages x (taking out ∷ y) (subst (Unforgotten settings Z 4 messages) e unforgotten)

    nothing : NoneComplete settings Z 4 now
    nothing =
        let t : took settings Z now (length out) ≡ unable 20 = cc f in
        drawn_20 (picked next_counter steps_most (cells_in settings Z 4 now)) (length out)
        (ap (λ (k : Took). (taken_of k).refusal.number)
        (sym (took_is settings Z 4 now (behind_keeps settings Z 4 one in_use_lem x g.given.traffic.octets) (length out)) ∙ t))

    handed : HandedOut settings Z 4 two x
    handed = go ((each_once·whole settings 4 in_use_lem messages x g two (Memᴰ.tail (Memᴰ.head refl))).exactly.1 all)
      where
        go : HandedOut settings Z 4 two x ⊎ IsComplete settings Z 4 two now → HandedOut settings Z 4 two x
        go (inl o) = o
        go (inr d) = absurd (none_is Z one settings 4 in_use_lem x g.given.traffic.octets nothing two two_cut d)

-- the cells before the first record
unfoldable pub front : List Cell → List Cell
front [] = []
front (x ∷ xs) = by_range (x ∷ front xs) (λ g. []) (range_in x)

abbrev pub short_sighted : Program
short_sighted = record { choose = λ cs. picked next_counter steps_most (front cs); answer = drawn; leave = clear }

lost_20 : taken_by short_sighted (behind short_sighted (empty 4) ripe_acts) (draw 33) ≡ some (unable 20)
unfolding taken_by behind goes_on goes front look carries same_rest alike put has_free pick_in run_from rest_from role_of bodies among next_counter recorded spans reaches
lost_20 = refl

-- whether what is taken is the other message
abbrev is_two : Option Took → Bool
is_two none = false
is_two (some (message r)) = carries the_key 1 r.head
is_two (some (unable k)) = false

unfoldable hands_in : List Cell → List Act → Bool
hands_in cs [] = false
hands_in cs (a ∷ l) = or (is_two (taken_by short_sighted cs a)) (hands_in (goes_on short_sighted cs (events_of cs a)) l)

or_right : (a b : Bool) → b ≡ true → or a b ≡ true
or_right true b e = refl
or_right false b e = e

hands_in_lem : (x y : List Act) (a : Act) (cs : List Cell) → is_two (taken_by short_sighted (behind short_sighted cs x) a) ≡ true →
    hands_in cs (x ++ a ∷ y) ≡ true
unfolding hands_in behind
hands_in_lem [] y a cs e = ap (λ (b : Bool). or b (hands_in (goes_on short_sighted cs (events_of cs a)) y)) e
hands_in_lem (b ∷ x) y a cs e =
    or_right (is_two (taken_by short_sighted cs b)) (hands_in (goes_on short_sighted cs (events_of cs b)) (x ++ a ∷ y))
    (hands_in_lem x y a (goes_on short_sighted cs (events_of cs b)) e)

none_handed : hands_in (empty 4) ripe_acts ≡ false
unfolding hands_in taken_by behind goes_on goes front look carries same_rest alike put has_free pick_in run_from rest_from role_of bodies among next_counter recorded spans reaches
none_handed = refl

two_key : key_in settings two ≡ the_key
unfolding head_of split identification header_octets fixed_octets presence front_octets back_octets wide
two_key = refl

pub no_short_sighted : LosesNone (by short_sighted) → ⊥
no_short_sighted f =
    let v =
    f ripe _ (lent_out 33) refl
    (ap (λ (l : List Act). taken_by short_sighted (behind short_sighted (empty 4) l) (draw 33)) ripe_acts_lem ∙ lost_20) two_came in
    let its : is_two (by short_sighted v.0 v.1) ≡ true =
    ap is_two v.5 ∙ carries_yes the_key 1 v.3.head (sym (v.6.0 ∙ two_key)) (sym v.6.1) in
    let split : map (act_of settings Z) ripe ≡ map (act_of settings Z) v.0 ++ act_of settings Z v.1 ∷ map (act_of settings Z) v.2 =
    ap (map (act_of settings Z)) v.4 ∙ map-append (act_of settings Z) v.0 (v.1 ∷ v.2) in
    false≢true
    (sym none_handed ∙ ap (hands_in (empty 4)) (sym ripe_acts_lem ∙ split)
    ∙ hands_in_lem (map (act_of settings Z) v.0) (map (act_of settings Z) v.2) (act_of settings Z v.1) (empty 4) its)

-- ---- never 20

-- of the takings after the run up to there, one is refused by 20
abbrev pub Reaches20 : (List Call → Call → Option Took) → Type 0
Reaches20 f = (x : List (List ℕ)) × (out : List ℕ) × (y : List (List ℕ)) × (outs ≡ x ++ out ∷ y) × (f (ripe ++ map taking x) (taking out) ≡ some (unable 20))

-- the store does so
pub store_reaches : Reaches20 store
store_reaches = (drained.asked, drained.last, drained.others, drained.place, drained.empty)

-- it answers 21 if nothing is complete
abbrev pub answers21 : Option Run → ℕ → Took
answers21 none long = unable 21
answers21 (some r) long = drawn (some r) long

abbrev pub endless : Program
endless = record { choose = picked next_counter steps_most; answer = answers21; leave = clear }

never : (o : Option Run) (long : ℕ) → some (answers21 o long) ≡ some (unable 20) → ⊥
never none long e = let z : ◌≡◌ {A = ℕ} 21 20 = cc e in omega arith
never (some r) long e = go (leb (length (writing r)) long) e
  where
    go : (b : Bool) → some (pick b (message r) (unable 21)) ≡ some (unable 20) → ⊥
    go true d = let z : ◌≡◌ {A = ℕ} 0 1 = cc d in omega arith
    go false d = let z : ◌≡◌ {A = ℕ} 21 20 = cc d in omega arith

pub no_endless : Reaches20 (by endless) → ⊥
unfolding taken_by
no_endless f =
    never (picked next_counter steps_most (behind endless (empty 4) (map (act_of settings Z) (ripe ++ map taking f.0)))) (length f.1) f.4
