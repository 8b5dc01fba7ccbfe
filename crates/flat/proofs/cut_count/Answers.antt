-- `flat::cut_count` meets its contract: numbers that fit go to the call, any other is 15 or 22.
use Rattle.flat.proofs.Choosing.{count_refused, count_told, header_uncut, sender_uncut}
use Rattle.flat.proofs.cut_count.Goals as goal

pub returns-in_default : goal.returns-in_default
returns-in_default c =
    count_refused _ _ _ _ _ (header_uncut _ _ c.in_default.ensures) _ (rw c.settings-s.ensures at c.cut_too_wide.ensures) _

pub returns-in_default-sender_of : goal.returns-in_default-sender_of
returns-in_default-sender_of c =
    count_refused _ _ _ _ _ (sender_uncut _ _ c.in-Ok.ensures.0 c.in_default-sender_of.ensures) _
    (rw c.settings-s.ensures at c.cut_too_wide-in_default-sender_of.ensures) _

pub returns : goal.returns
returns c =
    let h = c.in-Ok.ensures in
    let d = c.in-Ok-sender_of.ensures in
    count_told _ _ _ _ _ h.0 d.0 _ _ h.1 d.1 _ _ _ (rw c.settings-s.ensures at c.count.ensures) c.counted_numbers.ensures
