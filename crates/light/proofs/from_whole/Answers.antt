-- `light::from_whole` meets its contract.
use Rattle.std.proofs.lemmas.Result.{err_from_is_err_and}
use Rattle.packet.specs.Reading.{refused_header}
use Rattle.light.specs.Light.{light_of}
use mathlib.Core.Path.{ap}
use Rattle.light.proofs.from_whole.Goals as goal

pub returns-in_err-h : goal.returns-in_err-h
unfolding light_of refused_header
returns-in_err-h c =
    let p = err_from_is_err_and c.from_residual.result c.from_residual.ensures.1 in
    rw (p.1, p.2) (ap light_of c.in_err-h.ensures.answer)

pub returns : goal.returns
unfolding light_of
returns c =
    ap light_of c.in_ok-h.ensures.answer
