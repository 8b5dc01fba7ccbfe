-- Calls that were made, over the generated contracts: with the whole file in hand, and with a part of it. Each is fair: nothing is missing
-- and nothing listed twice.
-- Assumes nothing.
use Prim.Native.Nat.{ℕ, ◌+◌, ◌*◌, ◌/◌, ◌≤◌}
use mathlib.Core.Path.{◌≡◌, refl, ap, sym, ◌∙◌, subst}
use mathlib.Core.Bool.{Bool, true, false}
use mathlib.Core.List.{List}
use native.Mathlib.Omega.{arith}
use lib.ListN.{length, take}
use lib.Seq.{sets}
use borrow.Author.Tests.{le-leb}
use contract.Lifetimes as L
use denote.Triple.Clauses.{AtExit}
use borrow.Fn.Kinds.{ended_of}
use borrow.Fn.World.{ArgsD}
use Rattle.octets.specs.Octets.{Octets, part}
use Rattle.octets.proofs.Has.{part_length}
use Rattle.walk.specs.declared.Settings.{Settings}
use Rattle.walk.specs.Walk.{going, begun}
use Rattle.std.specs.Prelude.{Result}
use Rattle.walk.specs.declared.Refused.{Refused}
use Rattle.salvage.specs.declared.Salvaged.{Salvaged as Tells}
use Rattle.salvage.specs.Answer.{Salvaged, answered}
use Rattle.salvage.specs.Listing.{Stop, stop}
use Rattle.salvage.specs.Calling.{flat, told_of, refusal_of, call_of, salvaged, list_after}
use Rattle.salvage.specs.Parts.{off_most, till_in, around, length_in, call_in, refusal_in, salvaged_in, list_in}
use Rattle.salvage.specs.contracts.salvage as salvages
use Rattle.salvage.proofs.salvage.Kinds as kinds
use Rattle.salvage.proofs.salvage.Reads as reads
use Rattle.salvage.specs.contracts.salvage_part as parts
use Rattle.salvage.proofs.salvage_part.Kinds as part-kinds
use Rattle.salvage.proofs.salvage_part.Reads as part-reads
use Rattle.salvage.proofs.Arguments.{SalvageCall, salvage_call, salvage_list, PartCall, part_call, part_list}
use Rattle.salvage.specs.Inner.{Lies}
use Rattle.salvage.proofs.Answering.{holds_so}
use Rattle.salvage.proofs.Running.{State, call_same}
use Rattle.salvage.proofs.Bounds.{call_bounded}
use Rattle.salvage.proofs.Parts.{call_fair, done_there}
use Rattle.salvage.proofs.Ending.{done_stop}
use Rattle.salvage.proofs.Turns.{Turn, numbers_are, Fairly}

-- ---- the whole file in hand

-- a call that was made: what it was given, what it answered and what was lent afterwards, as its contract has it
pub record Made : Type 0 where
  pub lifetimes : L.Lfts 2
  pub given : ArgsD salvages.signature lifetimes
  pub answer : Result Tells Refused
  pub after : AtExit (ended_of 2 kinds.ps kinds.r) lifetimes
  pub met : reads.Post lifetimes given answer after

abbrev pub call_made : Made → SalvageCall
call_made c = salvage_call c.lifetimes c.given

abbrev turn_by : Salvaged → List ℕ → Turn
turn_by r m = record { stop = stop r.begin r.place; tested = r.tested; numbers = take (r.entries * 3) m; done = r.done }

abbrev pub turn_made : Made → Turn
turn_made c = turn_by (answered c.answer) (salvage_list c.lifetimes c.after)

-- it was made over the file under the settings, from a stop on
pub record Whole (s : Settings) (x : List ℕ) (w : Stop) (c : Made) : Type 0 where
  pub settings : (call_made c).settings ≡ s
  pub file : (call_made c).file ≡ x
  pub begin : (call_made c).begin ≡ w.begin
  pub place : (call_made c).place ≡ w.place

-- ---- a part of it

pub record PartMade : Type 0 where
  pub lifetimes : L.Lfts 2
  pub given : ArgsD parts.signature lifetimes
  pub answer : Result Tells Refused
  pub after : AtExit (ended_of 2 part-kinds.ps part-kinds.r) lifetimes
  pub met : part-reads.Post lifetimes given answer after

abbrev pub call_part : PartMade → PartCall
call_part c = part_call c.lifetimes c.given

abbrev pub turn_part : PartMade → Turn
turn_part c = turn_by (answered c.answer) (part_list c.lifetimes c.after)

-- it was made over a part of the file that has the place in it; told that the file ends with the part only if it does
pub record InPart (s : Settings) (x : List ℕ) (w : Stop) (c : PartMade) : Type 0 where
  pub settings : (call_part c).settings ≡ s
  pub octets : (call_part c).part ≡ part x (call_part c).off (length (call_part c).part)
  pub inside : (call_part c).off + length (call_part c).part ≤ length x
  pub ends : (call_part c).ends ≡ true → (call_part c).off + length (call_part c).part ≡ length x
  pub begin : (call_part c).begin ≡ w.begin
  pub place : (call_part c).place ≡ w.place
  pub low : (call_part c).off ≤ w.place
  pub top : w.place ≤ (call_part c).off + length (call_part c).part
  pub most : (call_part c).off + length (call_part c).part ≤ off_most

-- ---- what each came to, in plain values

module _ (s : Settings) (x : List ℕ) where
  module _ (w : Stop) (grant : ℕ) (l : List ℕ) {r : Salvaged} where
    -- under settings out of range none is done
    whole_never : r ≡ salvaged s x w grant (length l) → going (begun s) ≡ false → r.done ≡ false
    unfolding salvaged refusal_of
    whole_never p e = ap (λ (q : Salvaged). q.done) p ∙ rw (e, e)

    whole_fair :
        {m : List ℕ} → r ≡ salvaged s x w grant (length l) → m ≡ list_after s x w grant l → going (begun s) ≡ true → State x w → Fairly s x w (turn_by r m)
    unfolding salvaged list_after refusal_of
    whole_fair {m} p q g i =
        let c = call_of s x w grant (length l / 3) in
        let a : r ≡ told_of (length x) c = p ∙ rw (g, le-leb _ _ i.order, le-leb _ _ i.inside) in
        let b : m ≡ sets l 0 (flat c.entries) = q ∙ rw (g, le-leb _ _ i.order, le-leb _ _ i.inside) in
        let k = call_same s x grant (length l / 3) w i in
        rw a
        (record {
          entries = c.entries;
          same = k;
          numbers = numbers_are c l (omega (arith, (call_bounded s x (length x) grant (length l / 3) w).room)) refl b;
          done = done_stop (length x) c.stop;
        })

  module _ (o : Octets x) (off : ℕ) (ends : Bool) (w : Stop) (grant : ℕ) (l : List ℕ) {r : Salvaged} where
    part_never : (y : List ℕ) → r ≡ salvaged_in s y off ends w grant (length l) → going (begun s) ≡ false → r.done ≡ false
    unfolding salvaged_in refusal_in
    part_never y p e = ap (λ (q : Salvaged). q.done) p ∙ rw (e, e)

    part_fair :
        (n : ℕ) {m : List ℕ} → r ≡ salvaged_in s (part x off n) off ends w grant (length l) → m ≡ list_in s (part x off n) off ends w grant l →
        going (begun s) ≡ true → (h : off + n ≤ length x) (e : ends ≡ true → off + n ≡ length x) → Lies off n w → Fairly s x w (turn_by r m)
    unfolding salvaged_in list_in refusal_in
    part_fair n {m} p q g h e i =
        let y = part x off n in
        let c = call_in s y off ends w grant (length l / 3) in
        let z = part_length x off n h in
        let i' : Lies off (length y) w = subst (λ (k : ℕ). Lies off k w) (sym z) i in
        let a : r ≡ told_of (length_in off ends (length y)) c = p ∙ rw (g, holds_so off (length y) w i') in
        let b : m ≡ sets l 0 (flat c.entries) = q ∙ rw (g, holds_so off (length y) w i') in
        let k = call_fair s x o off n h ends e grant (length l / 3) w (record { order = i.order; low = i.low; top = i.top }) in
        rw a
        (record {
          entries = c.entries;
          same = k.same;
          numbers = numbers_are c l (omega (arith, (call_bounded s (around off ends y) (till_in off ends (length y)) grant (length l / 3) w).room)) refl b;
          done = done_there s x o off n h ends e c.stop k.within;
        })

  -- ---- so each is fair

  pub made_fair : going (begun s) ≡ true → (w : Stop) → State x w → (c : Made) → Whole s x w c → Fairly s x w (turn_made c)
  made_fair g w i c a =
      let e : stop (call_made c).begin (call_made c).place ≡ w = λ j. stop (a.begin j) (a.place j) in
      whole_fair w (call_made c).grant (call_made c).list
      (c.met.0 ∙ (λ j. salvaged (a.settings j) (a.file j) (e j) (call_made c).grant (length (call_made c).list)))
      (c.met.1 ∙ (λ j. list_after (a.settings j) (a.file j) (e j) (call_made c).grant (call_made c).list)) g i

  pub made_never : going (begun s) ≡ false → (w : Stop) (c : Made) → Whole s x w c → (turn_made c).done ≡ false
  made_never g w c a =
      let e : stop (call_made c).begin (call_made c).place ≡ w = λ j. stop (a.begin j) (a.place j) in
      whole_never w (call_made c).grant (call_made c).list
      (c.met.0 ∙ (λ j. salvaged (a.settings j) (a.file j) (e j) (call_made c).grant (length (call_made c).list))) g

  module _ (o : Octets x) (w : Stop) (c : PartMade) (a : InPart s x w c) where
    abbrev off : ℕ
    off = (call_part c).off

    abbrev y : List ℕ
    y = (call_part c).part

    from_there : stop (call_part c).begin (call_part c).place ≡ w
    from_there = λ j. stop (a.begin j) (a.place j)

    pub in_part_fair : going (begun s) ≡ true → State x w → Fairly s x w (turn_part c)
    in_part_fair g i =
        part_fair o off (call_part c).ends w (call_part c).grant (call_part c).list (length y)
        (c.met.0 ∙ (λ j. salvaged_in (a.settings j) (a.octets j) off (call_part c).ends (from_there j) (call_part c).grant (length (call_part c).list)))
        (c.met.1 ∙ (λ j. list_in (a.settings j) (a.octets j) off (call_part c).ends (from_there j) (call_part c).grant (call_part c).list)) g a.inside
        a.ends (record { order = i.order; low = a.low; top = a.top; most = a.most })

    pub in_part_never : going (begun s) ≡ false → (turn_part c).done ≡ false
    in_part_never g =
        part_never o off (call_part c).ends w (call_part c).grant (call_part c).list y
        (c.met.0 ∙ (λ j. salvaged_in (a.settings j) y off (call_part c).ends (from_there j) (call_part c).grant (length (call_part c).list))) g
