-- `filling::names_into` meets its contract.
use Rattle.filling.proofs.names_into.Goals as goal

pub returns : goal.returns
returns c =
    simp (c.octet-sdu.ensures.value, c.word-area.ensures.value, c.word-service.ensures.value, c.word-operation.ensures.value, c.octet-version.ensures.value)
