-- `filling::no_texts` meets its contract.
use mathlib.Core.Path.{refl}
use native.Mathlib.Omega.{arith}
use lib.ListN.{replicate}
use Rattle.flat.specs.Told.{places_to}
use Rattle.flat.proofs.Placing.{put_is}
use Rattle.filling.proofs.Parts.{texts_long}
use Rattle.filling.proofs.no_texts.Goals as goal

pub returns : goal.returns
unfolding places_to
returns c =
    let l = c.args.answer.now in
    let e = texts_long l c.told-answer in
    put_is 28 41 l _ (replicate 41 0) (rw e at (c.fill.ensures.after (λ y f. f))) refl (omega (arith, c.told-answer))
