-- `flat::text_numbers` meets its contract: its pieces lie one after the other.
use mathlib.Core.Path.{◌∙◌}
use native.Mathlib.Omega.{arith}
use lib.ListN.{replicate}
use Rattle.flat.specs.Told.{text_numbers}
use Rattle.flat.proofs.Placing.{placed_none, placed_next, placed_all}
use Rattle.flat.proofs.Answers.{texts_laid, texts_length, sets_all}
use Rattle.flat.proofs.text_numbers.Goals as goal

pub loop-k-init : goal.loop-k-init
loop-k-init c =
    placed_none _ _ _

pub loop-k-preserved : goal.loop-k-preserved
loop-k-preserved c =
    placed_next _ _ _ _ _ _ c.loop-k.invariant (omega arith) (rw c.place_numbers-in-loop-k.ensures at c.put-in-loop-k.ensures)

pub returns : goal.returns
returns c =
    let a = rw c.place_numbers.ensures at c.put.ensures in
    let b = rw c.place_numbers-2.ensures at c.put-2.ensures in
    let d = rw c.place_numbers-3.ensures at c.put-3.ensures in
    let e = placed_all _ _ _ _ _ c.loop-k.invariant (omega arith) in
    let f = rw c.place_numbers-4.ensures at c.put-4.ensures in
    texts_laid c.args.texts (replicate 41 0) 0 _ _ _ _ _ a b d e f
    ∙ sets_all (replicate 41 0) (text_numbers c.args.texts) (texts_length c.args.texts)
