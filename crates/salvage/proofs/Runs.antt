-- Stopping and resuming, over the generated contracts: calls made one after another, with any grants and any lists, list together what is
-- listed of the file, and test its places; with the whole file in hand, and with parts of it however they were taken. So what they list
-- covers the file; and of an undamaged recording every packet is listed and nothing else.
-- Assumes nothing.
use Prim.Native.Nat.{ℕ}
use mathlib.Core.Path.{◌≡◌, ap, ◌∙◌}
use mathlib.Core.Bool.{true, false}
use mathlib.Core.List.{List}
use lib.ListN.{length}
use Rattle.octets.specs.Octets.{Octets}
use Rattle.walk.specs.declared.Settings.{Settings}
use Rattle.salvage.specs.Listing.{Entry, stop, list_of, tests_of}
use Rattle.salvage.specs.Calling.{flat}
use Rattle.salvage.specs.Covering.{Covers}
use Rattle.salvage.specs.Undamaged.{recording_of, AllReadable, entries_from}
use Rattle.salvage.proofs.Covering.{covered}
use Rattle.salvage.proofs.Undamaged.{undamaged}
use Rattle.salvage.proofs.Turns.{InTurn, last_done, listed_by, tested_by, all_listed}
use Rattle.salvage.proofs.Made.{Made, turn_made, Whole, made_fair, made_never, PartMade, turn_part, InPart, in_part_fair, in_part_never}

module _ (s : Settings) (x : List ℕ) where
  -- such numbers, and so many places
  abbrev Listed : List ℕ → ℕ → Type 0
  Listed l n = (l ≡ flat (list_of s x)) × (n ≡ tests_of s x)

  -- cover the file
  covers : {l : List ℕ} {n : ℕ} → Listed l n → (es : List Entry) × ((l ≡ flat es) × Covers s x 0 (length x) es)
  covers h = (list_of s x, (h.0, covered s x))

  -- are those of each packet of an undamaged recording, and nothing else
  packets :
      {l : List ℕ} {n : ℕ} → Listed l n → (ps : List (List ℕ)) → x ≡ recording_of ps → AllReadable s ps →
      (l ≡ flat (entries_from 0 ps)) × (n ≡ length ps)
  packets h ps q r =
      let u = undamaged s ps r in
      (h.0 ∙ ap (λ (y : List ℕ). flat (list_of s y)) q ∙ ap flat u.0, h.1 ∙ ap (tests_of s) q ∙ u.1)

  -- ---- the whole file in hand

  module _
      (cs : List Made)
      (t : InTurn s x Made turn_made (Whole s x) (stop 0 0) cs)
      (e : last_done s x Made turn_made (Whole s x) false cs ≡ true) where
    abbrev pub whole_numbers : List ℕ
    whole_numbers = listed_by s x Made turn_made (Whole s x) cs

    abbrev pub whole_tested : ℕ
    whole_tested = tested_by s x Made turn_made (Whole s x) cs

    -- the file's list, and its places
    pub run_lists : (whole_numbers ≡ flat (list_of s x)) × (whole_tested ≡ tests_of s x)
    run_lists = all_listed s x Made turn_made (Whole s x) (made_fair s x) (made_never s x) cs t e

    -- which covers the file
    pub run_covers : (es : List Entry) × ((whole_numbers ≡ flat es) × Covers s x 0 (length x) es)
    run_covers = covers run_lists

    -- of an undamaged recording each packet, and nothing else
    pub run_undamaged :
        (ps : List (List ℕ)) → x ≡ recording_of ps → AllReadable s ps → (whole_numbers ≡ flat (entries_from 0 ps)) × (whole_tested ≡ length ps)
    run_undamaged = packets run_lists

  -- ---- parts of it

  module _
      (o : Octets x)
      (cs : List PartMade)
      (t : InTurn s x PartMade turn_part (InPart s x) (stop 0 0) cs)
      (e : last_done s x PartMade turn_part (InPart s x) false cs ≡ true) where
    abbrev pub part_numbers : List ℕ
    part_numbers = listed_by s x PartMade turn_part (InPart s x) cs

    abbrev pub part_tested : ℕ
    part_tested = tested_by s x PartMade turn_part (InPart s x) cs

    pub parts_list : (part_numbers ≡ flat (list_of s x)) × (part_tested ≡ tests_of s x)
    parts_list =
        all_listed s x PartMade turn_part (InPart s x) (λ g w i c a. in_part_fair s x o w c a g i) (λ g w c a. in_part_never s x o w c a g) cs t e

    pub parts_cover : (es : List Entry) × ((part_numbers ≡ flat es) × Covers s x 0 (length x) es)
    parts_cover = covers parts_list

    pub parts_undamaged :
        (ps : List (List ℕ)) → x ≡ recording_of ps → AllReadable s ps → (part_numbers ≡ flat (entries_from 0 ps)) × (part_tested ≡ length ps)
    parts_undamaged = packets parts_list
