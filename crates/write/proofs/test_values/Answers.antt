-- `write::test_values` meets its contract: a test that failed stays; the rest are five tests.
use mathlib.Core.Path.{ap, sym, ◌∙◌}
use Rattle.std.proofs.lemmas.Result.{err_from_is_err_and}
use Rattle.walk.specs.Walk.{refusal}
use Rattle.write.proofs.Steps.{settings_same, values_shut, values_five}
use Rattle.write.proofs.test_values.Goals as goal

pub returns-in_err-check : goal.returns-in_err-check
returns-in_err-check c =
    let p = err_from_is_err_and c.from_residual.result c.from_residual.ensures.1 in
    rw (p.1, p.2) (values_shut _ _ _ _ _ _ (c.in_err-check.ensures ∙ ap refusal (settings_same c.args.s)))

pub returns : goal.returns
returns c =
    let z = sym (settings_same c.args.s) ∙ sym (ap (λ (r : _). r.number) (c.in_ok-check.ensures)) in
    c.test_given.ensures ∙ ap (λ (x : _). refusal x.number) (sym (values_five _ _ _ _ _ z))
