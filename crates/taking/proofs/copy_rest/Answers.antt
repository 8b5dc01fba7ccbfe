-- `taking::copy_rest` meets its contract. The loop's invariant: what is left of the run, laid after what is laid, is the whole.
use Prim.Native.Nat.{suc, ◌+◌, ◌-◌}
use mathlib.Core.Path.{◌≡◌, refl}
use native.Mathlib.Omega.{arith}
use Rattle.packet.specs.Numbers.{steps_most}
use Rattle.packet.proofs.Rounds.{counter_next}
use Rattle.taking.proofs.Pieces.{piece_found}
use Rattle.taking.proofs.Bodies.{copying_inside, copying_first, copying_ended, copying_room, copying_long, copying_last, copying_turn}
use Rattle.taking.proofs.copy_rest.Goals as goal

pub loop-steps-init : goal.loop-steps-init
loop-steps-init c =
    copying_first _ _ _ _ _ _ _ _ _ _ refl c.requires.ready

pub put_body-at-requires : goal.put_body-at-requires
put_body-at-requires c =
    let h = c.find_by-j.ensures in let r = c.row-r.ensures in let d = counter_next _ c.next_segment_counter-c.ensures in
    let i = c.loop-steps.invariant in
    let l : steps_most + 1 - c.loop-steps.steps ≡ suc (steps_most + 1 - (c.loop-steps.steps + 1)) = omega (arith, c.loop-steps-test.true) in
    let p = piece_found _ _ _ _ _ _ _ c.requires.asked (λ j. (c.type_inv.store j).fits) h (copying_inside i l d h) r c.piece_with-t.ensures in
    copying_room i l d h r p

pub shape_of-out-then-t-eq-LAST : goal.shape_of-out-then-t-eq-LAST
shape_of-out-then-t-eq-LAST c =
    let h = c.find_by-j.ensures in let r = c.row-r.ensures in let d = counter_next _ c.next_segment_counter-c.ensures in
    let i = c.loop-steps.invariant in
    let l : steps_most + 1 - c.loop-steps.steps ≡ suc (steps_most + 1 - (c.loop-steps.steps + 1)) = omega (arith, c.loop-steps-test.true) in
    let p = piece_found _ _ _ _ _ _ _ c.requires.asked (λ j. (c.type_inv.store j).fits) h (copying_inside i l d h) r c.piece_with-t.ensures in
    copying_long i l d h r p c.put_body-at.ensures.value c.put_body-at.ensures.out_after

pub returns-then-t-eq-LAST : goal.returns-then-t-eq-LAST
returns-then-t-eq-LAST c =
    let h = c.find_by-j.ensures in let r = c.row-r.ensures in let d = counter_next _ c.next_segment_counter-c.ensures in
    let i = c.loop-steps.invariant in
    let l : steps_most + 1 - c.loop-steps.steps ≡ suc (steps_most + 1 - (c.loop-steps.steps + 1)) = omega (arith, c.loop-steps-test.true) in
    let p = piece_found _ _ _ _ _ _ _ c.requires.asked (λ j. (c.type_inv.store j).fits) h (copying_inside i l d h) r c.piece_with-t.ensures in
    let k = copying_last i l d h r p c.put_body-at.ensures.value c.put_body-at.ensures.out_after c.if-t-eq-LAST.true in
    record { value = k.0; out_after = k.1 }

pub loop-steps-preserved : goal.loop-steps-preserved
loop-steps-preserved c =
    let h = c.find_by-j.ensures in let r = c.row-r.ensures in let d = counter_next _ c.next_segment_counter-c.ensures in
    let i = c.loop-steps.invariant in
    let l : steps_most + 1 - c.loop-steps.steps ≡ suc (steps_most + 1 - (c.loop-steps.steps + 1)) = omega (arith, c.loop-steps-test.true) in
    let p = piece_found _ _ _ _ _ _ _ c.requires.asked (λ j. (c.type_inv.store j).fits) h (copying_inside i l d h) r c.piece_with-t.ensures in
    copying_turn i l d h r p c.put_body-at.ensures.value c.put_body-at.ensures.out_after c.if-t-eq-LAST.false

pub shape_of-out : goal.shape_of-out
shape_of-out c =
    c.loop-steps.invariant.long

pub returns : goal.returns
returns c =
    absurd (copying_ended c.loop-steps.invariant (omega (arith, c.loop-steps-test.false)))
