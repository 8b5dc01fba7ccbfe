-- `flat_store::view` meets its contract, by the buffer that is named.
use mathlib.Core.Path.{refl}
use Rattle.flat_store.proofs.Telling.{view_none, view_packet, view_joined_lem, view_unnamed}
use Rattle.flat_store.proofs.view.Goals as goal

pub returns-then-which-eq0 : goal.returns-then-which-eq0
returns-then-which-eq0 c =
    view_none _ _ _ _ _ c.if-which-eq0.true c.inside.ensures

pub returns-then-which-eq1 : goal.returns-then-which-eq1
returns-then-which-eq1 c =
    view_packet _ _ _ _ _ c.if-which-eq0.false c.if-which-eq1.true c.inside-then-which-eq1.ensures

pub returns-then-which-eq2 : goal.returns-then-which-eq2
returns-then-which-eq2 c =
    view_joined_lem _ _ _ _ _
    c.if-which-eq0.false c.if-which-eq1.false c.if-which-eq2.true c.inside-then-which-eq2.ensures

pub returns : goal.returns
returns c =
    view_unnamed _ _ _ _ _ c.if-which-eq0.false c.if-which-eq1.false c.if-which-eq2.false refl
