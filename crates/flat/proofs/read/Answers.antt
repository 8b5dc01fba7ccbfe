-- `flat::read` meets its contract.
use mathlib.Core.Path.{ap, ◌∙◌}
use Rattle.packet.specs.Reading.{read_packet}
use Rattle.walk.specs.declared.Settings.{Settings}
use Rattle.flat.specs.Told.{read_numbers}
use Rattle.flat.proofs.read.Goals as goal

pub returns-in-Ok : goal.returns-in-Ok
returns-in-Ok c =
    c.header_numbers.ensures ∙ ap read_numbers c.in-Ok.ensures.answer
    ∙ ap (λ (s : Settings). read_numbers (read_packet s c.args.packet.now)) c.settings.ensures

pub returns-in-Err : goal.returns-in-Err
returns-in-Err c =
    c.refused_numbers.ensures ∙ ap read_numbers c.in-Err.ensures.answer
    ∙ ap (λ (s : Settings). read_numbers (read_packet s c.args.packet.now)) c.settings.ensures
