-- `utf8::all_single` meets its contract: place by place is octet by octet.
use mathlib.Core.Path.{◌∙◌}
use Rattle.utf8.proofs.Single.{single_places}
use Rattle.utf8.proofs.all_single.Goals as goal

pub returns : goal.returns
returns c =
    c.singles.ensures ∙ single_places _
