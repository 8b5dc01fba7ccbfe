-- `carry::is_id` meets its contract: a text is compared with the digits of what it writes.
use Rattle.carry.proofs.DigitLaws.{no_id, id_same}
use Rattle.carry.proofs.Joined.{cut}
use Rattle.carry.proofs.is_id.Goals as goal

pub returns-then-v-gt-ID_MOST : goal.returns-then-v-gt-ID_MOST
returns-then-v-gt-ID_MOST c =
    no_id _ c.value_of-v.ensures.value c.if-v-gt-ID_MOST.true

pub slice_bounds-same-end : goal.slice_bounds-same-end
slice_bounds-same-end c =
    c.digits_of-d.ensures.few

pub returns : goal.returns
returns c =
    id_same _ _ c.value_of-v.ensures.value c.if-v-gt-ID_MOST.false (cut c.digits_of-d.result.length c.digits_of-d.result.octets c.digits_of-d.ensures.digits)
    c.same.ensures
