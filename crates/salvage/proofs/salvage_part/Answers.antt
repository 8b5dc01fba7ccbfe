-- `salvage::salvage_part` meets its contract: the settings first, then the state, then the places from it on.
use mathlib.Core.Path.{sym, ◌∙◌}
use Rattle.std.proofs.lemmas.Result.{err_from_is_err_and}
use Rattle.salvage.proofs.Answering.{part_settings, part_state, part_goes, lies}
use Rattle.salvage.proofs.salvage_part.Goals as goal

-- a pair with the names of the clauses
named : {A B : Type 0} → A × B → record { answer : A; list : B }
named p = record { answer = p.0; list = p.1 }

pub returns-in_err-check : goal.returns-in_err-check
returns-in_err-check c =
    let p = err_from_is_err_and c.from_residual.result c.from_residual.ensures.1 in
    rw (p.1, p.2) (named (part_settings _ _ _ _ _ _ _ _ c.in_err-check.ensures))

pub returns-then-not-has : goal.returns-then-not-has
returns-then-not-has c =
    named (part_state _ _ _ _ _ _ _ c.in_ok-check.ensures c.has.ensures c.if-not-has.true)

pub along-requires : goal.along-requires
along-requires c =
    lies _ _ _ (sym c.has.ensures ∙ c.if-not-has.false)

pub returns : goal.returns
returns c =
    named (part_goes _ _ _ _ _ _ _ c.in_ok-check.ensures c.has.ensures c.if-not-has.false c.along.ensures.value c.along.ensures.list_after)
