-- `carry::value_of` meets its contract, by how many octets there are.
use Rattle.carry.proofs.DigitLaws.{one_octet, two_octets_lem, more_octets}
use native.Mathlib.Omega.{arith}
use Rattle.carry.proofs.value_of.Goals as goal

pub returns-then-t-eq1 : goal.returns-then-t-eq1
returns-then-t-eq1 c =
    record {
      value = one_octet _ c.digit_at-a.ensures.digit c.digit_at-b.ensures.digit c.digit_at-c.ensures.digit c.if-t-eq1.true;
      small = omega (arith, c.digit_at-a.ensures.small, c.digit_at-b.ensures.small, c.digit_at-c.ensures.small);
    }

pub returns-then-t-eq2 : goal.returns-then-t-eq2
returns-then-t-eq2 c =
    record {
      value = two_octets_lem _ c.digit_at-a.ensures.digit c.digit_at-b.ensures.digit c.digit_at-c.ensures.digit c.if-t-eq2.true;
      small = omega (arith, c.digit_at-a.ensures.small, c.digit_at-b.ensures.small, c.digit_at-c.ensures.small);
    }

pub returns : goal.returns
returns c =
    record {
      value = more_octets _ c.digit_at-a.ensures.digit c.digit_at-b.ensures.digit c.digit_at-c.ensures.digit c.if-t-eq1.false c.if-t-eq2.false;
      small = omega (arith, c.digit_at-a.ensures.small, c.digit_at-b.ensures.small, c.digit_at-c.ensures.small);
    }
