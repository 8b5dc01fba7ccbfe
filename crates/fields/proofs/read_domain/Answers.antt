-- `fields::read_domain` meets its contract: its steps are the definition's.
use native.Mathlib.Omega.{arith as order}
use Rattle.std.proofs.lemmas.Result.{err_from_is_err_and}
use Rattle.fields.proofs.Steps.{domain_length, domain_many, domain_stops, domain_ends, came_none, came_more}
use Rattle.fields.proofs.read_domain.Goals as goal

pub returns-in_err-count : goal.returns-in_err-count
returns-in_err-count c =
    let h = domain_length _ _ _ _ c.in_err-count.ensures in
    let p = err_from_is_err_and c.from_residual.result c.from_residual.ensures.1 in rw (p.1, p.2) h

pub returns-in_err-ensure : goal.returns-in_err-ensure
returns-in_err-ensure c =
    let h = domain_many c.in_ok-count.ensures c.in_err-ensure.ensures in
    let p = err_from_is_err_and c.from_residual-in_err-ensure.result c.from_residual-in_err-ensure.ensures.1 in rw (p.1, p.2) h

pub loop-k-init : goal.loop-k-init
loop-k-init c = came_none _ _

pub returns-in_err-parts : goal.returns-in_err-parts
returns-in_err-parts c =
    let h = domain_stops c.in_ok-count.ensures c.in_ok-ensure.ensures c.loop-k.invariant c.loop-k-test.true c.in_err-parts.ensures in
    let p = err_from_is_err_and c.from_residual-in_err-parts.result c.from_residual-in_err-parts.ensures.1 in rw (p.1, p.2) h

pub loop-k-preserved : goal.loop-k-preserved
loop-k-preserved c = came_more c.loop-k.invariant c.in_ok-parts.ensures

pub returns : goal.returns
returns c = domain_ends c.in_ok-count.ensures c.in_ok-ensure.ensures c.loop-k.invariant (omega order)
