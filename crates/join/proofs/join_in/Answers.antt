-- `join::join_in` meets its contract: the packet is read, it arrives, and then comes what the arrival asks for.
use mathlib.Core.Path.{refl, ap, sym, ◌∙◌}
use mathlib.Core.Bool.{true, false}
use native.Mathlib.Omega.{arith}
use Rattle.std.specs.Prelude.{Err}
use Rattle.arrival.specs.Answer.{Answer}
use Rattle.join.specs.Answer.{joined_answer}
use Rattle.join.proofs.Coming.{place_fits, place_fits_answer, read_answers, taken_answers}
use Rattle.taking.specs.Answer.{taken_answer}
use Rattle.join.specs.Inner.{late_as}
use Rattle.join.proofs.Joins.{late_not_whole, other_not_late, join_refused, join_whole, join_taking}
use Rattle.join.proofs.join_in.Goals as goal

pub returns-in-Err : goal.returns-in-Err
returns-in-Err c =
    let k = join_refused _ _ _ _ _ _ c.in-Err.ensures.value c.in-Err.ensures.store_after (Err c.in-Err.r) refl refl in
    record { joined_value = k.0; late_value = k.1.0; store_after = k.1.1.0; out_after = k.1.1.1 }

pub returns-in-Whole : goal.returns-in-Whole
returns-in-Whole c =
    let k = join_whole _ _ _ _ _ _ c.in-Ok.ensures.value c.in-Ok.ensures.store_after c.in_packet.result (λ i. (c.type_inv.p i).fits) (ap Answer c.in-Whole.is)
    (λ z. ap joined_answer c.in_packet.ensures ∙ read_answers _ _ c.read-read.result c.read-read.ensures.answer z) in
    record { joined_value = k.0; late_value = k.1.0; store_after = k.1.1.0; out_after = k.1.1.1 }

pub in_output-requires : goal.in_output-requires
in_output-requires c =
    place_fits_answer c.take_in.result (place_fits _ _ _ _ _ c.take_in.ensures.value (omega (arith, c.well_formed.1.1.1.1.1.0)))

pub returns-in-Taken : goal.returns-in-Taken
returns-in-Taken c =
    let k = join_taking _ _ _ _ _ _ c.in-Ok.ensures.value c.in-Ok.ensures.store_after c.in_output.result {l = true} refl (late_not_whole _ c.in-Taken.is) (ap late_as (sym c.in-Taken.is))
    (record {
      taken = taken_answer c.take_in.result;
      told = c.take_in.ensures.value;
      answer = ap joined_answer c.in_output.ensures ∙ taken_answers c.take_in.result;
      store = c.take_in.ensures.store_after;
      output = c.take_in.ensures.out_after;
    }) in
    record { joined_value = k.0; late_value = k.1.0; store_after = k.1.1.0; out_after = k.1.1.1 }

pub returns-in_default-matches : goal.returns-in_default-matches
returns-in_default-matches c =
    let n = c.in_default.not-Whole in
    let k = join_taking _ _ _ _ _ _ c.in-Ok.ensures.value c.in-Ok.ensures.store_after c.in_output.result {l = false} refl n (other_not_late _ c.in_default-matches.not-Taken)
    (record {
      taken = taken_answer c.take_in.result;
      told = c.take_in.ensures.value;
      answer = ap joined_answer c.in_output.ensures ∙ taken_answers c.take_in.result;
      store = c.take_in.ensures.store_after;
      output = c.take_in.ensures.out_after;
    }) in
    record { joined_value = k.0; late_value = k.1.0; store_after = k.1.1.0; out_after = k.1.1.1 }
