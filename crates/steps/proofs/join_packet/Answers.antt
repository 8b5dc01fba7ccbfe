-- `steps::join_packet` meets its contract: by what joining tells.
use Prim.Native.Nat.{ℕ, ◌+◌}
use lib.ListN.{length}
use mathlib.Core.Path.{refl, ap, sym, ◌∙◌}
use native.Mathlib.Omega.{arith}
use Rattle.walk.specs.declared.Refusal.{Refusal}
use Rattle.join.specs.Answer.{Joined, joined_answer}
use Rattle.join.specs.declared.Joined.TheVariants.{Packet, Message}
use Rattle.join.specs.Joining.{joining}
use Rattle.steps.specs.declared.Became.TheVariants.{Whole, Joined as Made}
use Rattle.steps.specs.Answer.{told}
use Rattle.steps.specs.Inner.{left_as}
use Rattle.steps.specs.Stepping.{room, came_at}
use Rattle.steps.proofs.Frames.{without_long}
use Rattle.steps.proofs.Joins.{joins_left, joins_whole, joins_message, message_most, telling_told, answered_ok}
use Rattle.steps.proofs.join_packet.Goals as goal

pub returns-in-Err : goal.returns-in-Err
unfolding came_at
returns-in-Err c =
    let h = c.args in
    let e = c.in-Err.is in
    let t = telling_told c.in-Err.r c.telling.ensures c.number.ensures c.octets.ensures c.place.ensures in
    let k = joins_left h.p.now h.out.now _ {a = joined_answer c.join_roomed-came.result.joined} (joining _ _ _ _ room) c.join_roomed-came.ensures.joined_value
    c.join_roomed-came.ensures.late_value c.join_roomed-came.ensures.out_after (ap (λ j. (joined_answer j).which) e)
    (c.left-became.ensures (2 + length h.p.now)
    ∙ ap (λ (q : Refusal). left_as q c.join_roomed-came.result.late (2 + length h.p.now)) (t ∙ sym (ap (λ j. (joined_answer j).refusal) e))) in
    record { value = k.0; store_after = c.join_roomed-came.ensures.store_after; out_after = k.1 }

pub overflow_add-place : goal.overflow_add-place
overflow_add-place c =
    let e = answered_ok {y = Message c.in-Ok-Message.place c.in-Ok-Message.taken} c.in-Ok-Message.is (rw c.in-Ok-Message.is at c.in-Ok-Message.field-0-is) in
    let pl = ap (λ (a : Joined). a.place) e in
    let ln = ap (λ (a : Joined). a.length) e in
    omega (arith, pl, ln, message_most _ _ _ _ {a = joined_answer c.join_roomed-came.result.joined} c.join_roomed-came.ensures.joined_value (ap (λ (a : Joined). a.which) e))

pub framed-written-requires-in-Ok-Message : goal.framed-written-requires-in-Ok-Message
framed-written-requires-in-Ok-Message c =
    let e = answered_ok {y = Message c.in-Ok-Message.place c.in-Ok-Message.taken} c.in-Ok-Message.is (rw c.in-Ok-Message.is at c.in-Ok-Message.field-0-is) in
    let pl = ap (λ (a : Joined). a.place) e in
    let ln = ap (λ (a : Joined). a.length) e in
    omega (arith, pl, ln, message_most _ _ _ _ {a = joined_answer c.join_roomed-came.result.joined} c.join_roomed-came.ensures.joined_value (ap (λ (a : Joined). a.which) e))

pub framed-written-requires : goal.framed-written-requires
framed-written-requires c =
    omega (arith, c.put_whole-long.ensures.value, without_long c.args.p.now, c.requires.p_len_bound)

pub returns-in-Ok-Packet : goal.returns-in-Ok-Packet
unfolding came_at
returns-in-Ok-Packet c =
    let h = c.args in
    let e = answered_ok {y = Packet c.in-Ok-Packet.field-0-0 c.in-Ok-Packet.field-0-1} c.in-Ok-Packet.is (rw c.in-Ok-Packet.is at c.in-Ok-Packet.field-0-is) in
    let k = joins_whole h.p.now h.out.now _ {a = joined_answer c.join_roomed-came.result.joined} (joining _ _ _ _ room) c.join_roomed-came.ensures.joined_value c.join_roomed-came.ensures.out_after
    (ap (λ (a : Joined). a.which) e) c.put_whole-long.ensures.value c.put_whole-long.ensures.out_after c.framed-written.ensures.out_after in
    record {
      value = ap (λ (n : ℕ). told (2 + length h.p.now) (Whole n)) c.framed-written.ensures.value ∙ k.0;
      store_after = c.join_roomed-came.ensures.store_after;
      out_after = k.1;
    }

pub returns-in-Ok-Message : goal.returns-in-Ok-Message
unfolding came_at
returns-in-Ok-Message c =
    let h = c.args in
    let e = answered_ok {y = Message c.in-Ok-Message.place c.in-Ok-Message.taken} c.in-Ok-Message.is (rw c.in-Ok-Message.is at c.in-Ok-Message.field-0-is) in
    let pl = ap (λ (a : Joined). a.place) e in
    let ln = ap (λ (a : Joined). a.length) e in
    let k = joins_message _ _ _ _ {a = joined_answer c.join_roomed-came.result.joined} _ _ c.join_roomed-came.ensures.joined_value c.join_roomed-came.ensures.out_after (ap (λ (a : Joined). a.which) e)
    (omega (arith, pl, ln)) c.framed-written-in-Ok-Message.ensures.out_after in
    record {
      value = ap (λ (n : ℕ). told (2 + length h.p.now) (Made n)) c.framed-written-in-Ok-Message.ensures.value ∙ k.0;
      store_after = c.join_roomed-came.ensures.store_after;
      out_after = k.1;
    }
