-- `laying::put_packet` meets its contract.
use Rattle.laying.proofs.Whole.{plain_pieces_lem}
use Rattle.write.specs.Given.{lent_of}
use mathlib.Core.Path.{sym, ◌∙◌}
use Rattle.laying.proofs.put_packet.Goals as goal

pub present_octet-present-requires : goal.present_octet-present-requires
present_octet-present-requires c =
    c.requires.ready.numbers.limited

pub put_plain-requires : goal.put_plain-requires
put_plain-requires c =
    record { in_bounds = c.requires.in_bounds; in_limits = c.requires.ready.numbers.limited; own = c.requires.own; value = sym c.if-present-eq0.true ∙ c.present_octet-present.ensures }

pub returns-then-present-eq0 : goal.returns-then-present-eq0
returns-then-present-eq0 c =
    let g = c.args in rw (← plain_pieces_lem g.s g.h.now (lent_of g.texts)
    g.flags g.count g.counter g.n g.body.now c.requires.ready.numbers.limited (sym c.if-present-eq0.true ∙ c.present_octet-present.ensures))
    c.put_plain.ensures

pub put_full-requires : goal.put_full-requires
put_full-requires c =
    record { in_bounds = c.requires.in_bounds; ready = c.requires.ready; own = c.requires.own; present_value = c.present_octet-present.ensures }

pub returns : goal.returns
returns c =
    c.put_full.ensures
