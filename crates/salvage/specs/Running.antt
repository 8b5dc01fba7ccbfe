-- Calls one after another, each from where the one before it stopped.
-- Assumes nothing: these are definitions.
use Rattle.std.specs.Prelude.{ℕ, List, [], ◌∷◌}
use Rattle.walk.specs.declared.Settings.{Settings}
use Rattle.salvage.specs.Listing.{Stop}
use Rattle.salvage.specs.Calling.{Called, ahead, call_of}

-- what a call is given: the places that it may test and the entries that are free
pub record Given : Type 0 where
  pub grant : ℕ
  pub free : ℕ

unfoldable pub running : Settings → List ℕ → List Given → Stop → Called
running s x [] w = record { tested = 0; entries = []; stop = w }
running s x (a ∷ more) w =
    let c = call_of s x w a.grant a.free in
    let r = running s x more c.stop in
    ahead c.tested c.entries r
