-- `salvage::salvage` meets its contract: the whole file is a part in hand.
use mathlib.Core.Path.{◌∙◌}
use native.Mathlib.Omega.{arith}
use Rattle.salvage.proofs.Answering.{whole_answer, whole_list}
use Rattle.salvage.proofs.salvage.Goals as goal

pub returns : goal.returns
returns c =
    record {
      answer = c.salvage_part.ensures.answer ∙ whole_answer _ _ _ (omega (arith, c.well_formed.1.0.1)) _ _;
      list = c.salvage_part.ensures.list ∙ whole_list _ _ _ (omega (arith, c.well_formed.1.0.1)) _ _;
    }
