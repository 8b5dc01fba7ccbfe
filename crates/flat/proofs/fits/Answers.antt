-- `flat::fits` meets its contract: it asks for each pair.
use mathlib.Core.Path.{◌≡◌, sym, ap, ◌∙◌}
use native.Mathlib.Omega.{arith}
use lib.ListN.{length}
use borrow.Author.Tests.{tests}
use Rattle.std.proofs.Common.{rules}
use Rattle.std.proofs.lemmas.Iterator.{YieldsList-from_slice, YieldsList-from_zip}
use Rattle.std.proofs.lemmas.Iterator.Search.{all_from_yields_List}
use Rattle.std.proofs.lemmas.List.{take_all}
use Rattle.std.proofs.lemmas.Slice.Zip.{length-zip}
use Rattle.std.specs.List.{list_all, zip}
use Rattle.flat.proofs.Fitting.{at_most, fits_zip}
use Rattle.flat.proofs.fits.Goals as goal

pub returns : goal.returns
returns c =
    let l = c.args.list.now in
    let ws = c.args.widths.now in
    let a = all_from_yields_List at_most c.all.new.self _ c.all.result c.all.ensures.ran
    (YieldsList-from_zip (YieldsList-from_slice l cc) (YieldsList-from_slice ws cc))
    (λ x b q k. search (rules, tests)) in
    let n = length-zip l ws in
    let e : length (zip l ws) ≡ length ws = omega arith in
    a ∙ ap (list_all at_most) (sym (take_all (length ws) (zip l ws) (omega arith))) ∙ fits_zip (length ws) l ws (omega arith) c.requires
