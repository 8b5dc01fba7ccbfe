-- `cells::is_within` meets its contract, case by case.
use mathlib.Core.Path.{refl}
use Rattle.cells.proofs.Within.{within_free, within_apart, within_out, within_same}
use Rattle.cells.proofs.is_within.Goals as goal

pub returns-then-octet-eq0 : goal.returns-then-octet-eq0
returns-then-octet-eq0 c =
    let g = c.args in within_free _ g.row.now g.zero.now g.k.now g.first.0 g.steps (λ i. (c.type_inv.row i).fits)
    c.octet.ensures c.if-octet-eq0.true

pub returns-then-not-is_reached : goal.returns-then-not-is_reached
returns-then-not-is_reached c =
    let g = c.args in within_out _ _ g.zero.now g.k.now _ _ (λ i. (c.type_inv.row i).fits)
    c.packet_in-p.ensures c.counter_in.ensures c.is_reached.ensures c.if-not-is_reached.true

pub returns-then-read : goal.returns-then-read
returns-then-read c =
    let g = c.args in within_apart _ _ g.zero.now _ g.first.0 g.steps (λ i. (c.type_inv.row i).fits)
    c.read.ensures c.packet_in-p.ensures c.read-2.ensures c.if-read.true

pub returns-in-Held : goal.returns-in-Held
returns-in-Held c =
    let g = c.args in within_same _ _ g.zero.now _ _ _ (λ i. (c.type_inv.row i).fits) c.packet_in-p.ensures
    c.counter_in.ensures c.in-Held.ensures refl
    c.is_reached.ensures c.if-not-is_reached.false
    c.is_key.ensures
