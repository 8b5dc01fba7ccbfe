-- `filling::is_text` meets its contract.
use Rattle.filling.proofs.Singles.{run_text}
use Rattle.filling.proofs.is_text.Goals as goal

pub returns-then-end-to : goal.returns-then-end-to
returns-then-end-to c =
    λ h. run_text c.args.p.now c.args.at c.args.end c.requires.single c.if-from-at.true c.if-end-to.true
