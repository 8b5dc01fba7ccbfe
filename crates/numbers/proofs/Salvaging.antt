-- Salvaging, over a file or over a part of one, is refused by 15 or 40 alone.
-- Assumes nothing.
use Prim.Native.Nat.{ℕ}
use mathlib.Core.Path.{refl}
use mathlib.Core.Bool.{Bool}
use mathlib.Core.List.{List, ◌∷◌}
use lib.ListN.{length}
use lib.Dec.{eqb, leb}
use Rattle.walk.specs.declared.Settings.{Settings}
use Rattle.walk.specs.Profile.{fixed_profile}
use Rattle.walk.specs.Walk.{Reading, goes, going, check, begun, timestamp_least, timestamp_most}
use Rattle.format.proofs.Refusals.{picked}
use Rattle.salvage.specs.Answer.{Salvaged}
use Rattle.salvage.specs.declared.Stop.{Stop}
use Rattle.salvage.specs.Calling.{refusal_of, salvaged}
use Rattle.salvage.specs.Parts.{holds, refusal_in, salvaged_in}
use Rattle.numbers.specs.Lists.{Numbered, of_salvage}
use Rattle.numbers.proofs.Among.{among}

abbrev Given : ℕ → Type 0
Given n = Numbered of_salvage n

none : Given 0
none = among (0 ∷ of_salvage) 0 refl

fifteen : Given 15
fifteen = among (0 ∷ of_salvage) 15 refl

forty : Given 40
forty = among (0 ∷ of_salvage) 40 refl

abbrev Tested : Reading → Type 0
Tested w = Given w.refused

checked : (b : Bool) (w : Reading) → Tested w → Tested (check b 15 w)
unfolding check
checked b w h = picked Tested (going w) _ w (picked Tested b w _ h fifteen) h

module _ (s : Settings) where
  settings : Tested (begun s)
  unfolding begun
  settings =
      checked (leb s.profile fixed_profile) (check (leb s.t timestamp_most) 15 (check (leb timestamp_least s.t) 15 (goes 6)))
      (checked (leb s.t timestamp_most) (check (leb timestamp_least s.t) 15 (goes 6)) (checked (leb timestamp_least s.t) (goes 6) none))

  pub salvaging : (x : List ℕ) (w : Stop) (grant long : ℕ) → Given (salvaged s x w grant long).refusal.number
  unfolding salvaged refusal_of
  salvaging x w grant long =
      picked (λ (r : Salvaged). Given r.refusal.number) (eqb (refusal_of s x w) 0) _ _ none
      (picked Given (going (begun s)) _ (begun s).refused
      (picked Given (leb w.begin w.place) _ 40 (picked Given (leb w.place (length x)) 0 40 none forty) forty) settings)

  pub salvaging_part :
      (y : List ℕ) (off : ℕ) (ends : Bool) (w : Stop) (grant long : ℕ) → Given (salvaged_in s y off ends w grant long).refusal.number
  unfolding salvaged_in refusal_in
  salvaging_part y off ends w grant long =
      picked (λ (r : Salvaged). Given r.refusal.number) (eqb (refusal_in s off (length y) w) 0) _ _ none
      (picked Given (going (begun s)) _ (begun s).refused (picked Given (holds off (length y) w) 0 40 none forty) settings)
