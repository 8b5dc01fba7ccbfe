-- `taking::follow` meets its contract. The loop's invariant: what is left of the run and the octets so far come to the whole.
use Prim.Native.Nat.{suc, ◌+◌, ◌-◌}
use mathlib.Core.Path.{◌≡◌, refl}
use native.Mathlib.Omega.{arith}
use Rattle.packet.specs.Numbers.{steps_most}
use Rattle.packet.proofs.Rounds.{counter_next}
use Rattle.taking.proofs.Pieces.{piece_found}
use Rattle.taking.proofs.Counting.{counted_first, counted_none, counted_room, counted_broken, counted_last, counted_on, counted_out}
use Rattle.taking.proofs.follow.Goals as goal

pub loop-init : goal.loop-init
loop-init c =
    counted_first _ _ _ _ _ _ _ _ _ refl (omega arith)

pub returns-then-n-j : goal.returns-then-n-j
returns-then-n-j c =
    let l : steps_most - c.loop.counter ≡ suc (steps_most - (c.loop.counter + 1)) = omega (arith, c.loop-test.true) in
    counted_none _ _ _ _ _ _ _ _ _ c.loop.invariant l (counter_next _ c.next_segment_counter-c.ensures) c.find_by-j.ensures c.if-n-j.true

pub overflow_add-sum : goal.overflow_add-sum
overflow_add-sum c =
    let l : steps_most - c.loop.counter ≡ suc (steps_most - (c.loop.counter + 1)) = omega (arith, c.loop-test.true) in
    let g = c.requires.asked in let h = c.find_by-j.ensures in let r = c.row.ensures in record {
      fits = counted_room _ _ _ _ _ _ _ _ _ c.loop.invariant l (counter_next _ c.next_segment_counter-c.ensures) h c.if-n-j.false r
          (piece_found _ _ _ _ _ _ _ g.0 (λ i. (c.type_inv.store i).fits) h c.if-n-j.false r c.piece_with-t.ensures) (λ i. (c.type_inv.store i).fits) g.1;
    }

pub returns-then-t-eq-FIRST : goal.returns-then-t-eq-FIRST
returns-then-t-eq-FIRST c =
    let l : steps_most - c.loop.counter ≡ suc (steps_most - (c.loop.counter + 1)) = omega (arith, c.loop-test.true) in
    let h = c.find_by-j.ensures in let r = c.row.ensures in let p = piece_found _ _ _ _ _ _ _ c.requires.asked.0 (λ i. (c.type_inv.store i).fits) h c.if-n-j.false r c.piece_with-t.ensures in
    counted_broken _ _ _ _ _ _ _ _ _ c.loop.invariant l (counter_next _ c.next_segment_counter-c.ensures) h
    c.if-n-j.false r p c.if-t-eq-FIRST.true

pub returns-then-t-eq-LAST : goal.returns-then-t-eq-LAST
returns-then-t-eq-LAST c =
    let l : steps_most - c.loop.counter ≡ suc (steps_most - (c.loop.counter + 1)) = omega (arith, c.loop-test.true) in
    let h = c.find_by-j.ensures in let r = c.row.ensures in let p = piece_found _ _ _ _ _ _ _ c.requires.asked.0 (λ i. (c.type_inv.store i).fits) h c.if-n-j.false r c.piece_with-t.ensures in
    counted_last _ _ _ _ _ _ _ _ _ c.loop.invariant l (counter_next _ c.next_segment_counter-c.ensures) h c.if-n-j.false r p c.if-t-eq-LAST.true

pub loop-preserved : goal.loop-preserved
loop-preserved c =
    let l : steps_most - c.loop.counter ≡ suc (steps_most - (c.loop.counter + 1)) = omega (arith, c.loop-test.true) in
    let h = c.find_by-j.ensures in let r = c.row.ensures in let p = piece_found _ _ _ _ _ _ _ c.requires.asked.0 (λ i. (c.type_inv.store i).fits) h c.if-n-j.false r c.piece_with-t.ensures in
    counted_on _ _ _ _ _ _ _ _ _ c.loop.invariant l (counter_next _ c.next_segment_counter-c.ensures) h c.if-n-j.false r p
    (λ i. (c.type_inv.store i).fits) c.if-t-eq-FIRST.false c.if-t-eq-LAST.false

pub returns : goal.returns
returns c =
    counted_out _ _ _ _ _ _ _ _ _ c.loop.invariant (omega (arith, c.loop-test.false))
