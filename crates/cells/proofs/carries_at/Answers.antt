-- `cells::carries_at` meets its contract, case by case.
use mathlib.Core.Path.{refl}
use Rattle.cells.proofs.Carries.{carries_free, carries_other, carries_apart, carries_same}
use Rattle.cells.proofs.carries_at.Goals as goal

pub returns-then-octet-eq0 : goal.returns-then-octet-eq0
returns-then-octet-eq0 c =
    carries_free _ c.args.row.now c.args.zero.now _ _ c.args.c.0 (λ i. (c.type_inv.row i).fits)
    c.requires.asked c.octet.ensures c.if-octet-eq0.true

pub returns-then-d-c : goal.returns-then-d-c
returns-then-d-c c =
    carries_other _ _ c.args.zero.now _ _ _ (λ i. (c.type_inv.row i).fits) c.requires.asked
    c.packet_in-p.ensures c.counter_in-d.ensures c.if-d-c.true

pub returns-then-read : goal.returns-then-read
returns-then-read c =
    carries_apart _ _ c.args.zero.now _ _ c.args.c.0 (λ i. (c.type_inv.row i).fits) c.requires.asked
    c.packet_in-p.ensures c.read.ensures c.read-2.ensures c.if-read.true

pub returns-in-Held : goal.returns-in-Held
returns-in-Held c =
    carries_same _ _ c.args.zero.now _ _ _ (λ i. (c.type_inv.row i).fits) c.requires.asked
    c.in-Held.ensures refl c.packet_in-p.ensures c.counter_in-d.ensures
    c.if-d-c.false c.same_key.ensures
