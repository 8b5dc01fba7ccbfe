-- Calls one after another over one file, each from where the one before it stopped, whatever call it is: if each is fair, and the last one
-- is done, the numbers that they listed, one after another, are those of the file's list, and they tested its places.
-- Assumes nothing.
use Prim.Native.Nat.{ℕ, ◌+◌, ◌-◌, ◌*◌, ◌≤◌}
use mathlib.Core.Path.{◌≡◌, refl, ap, ap₂, sym, ◌∙◌}
use mathlib.Core.Logic.{⊎_elim}
use mathlib.Core.Bool.{Bool, true, false}
use mathlib.Core.List.{List, [], ◌∷◌, ◌++◌, append-nil, append_assoc}
use native.Mathlib.Omega.{arith}
use lib.ListN.{length, take}
use lib.Seq.{sets, sets-eq, take_at}
use Rattle.octets.proofs.Lists.{bool}
use Rattle.walk.specs.declared.Settings.{Settings}
use Rattle.walk.specs.Walk.{going, begun}
use Rattle.salvage.specs.Listing.{Entry, Stop, stop, list_at, tests_at, list_of, tests_of}
use Rattle.salvage.specs.Calling.{Called, flat}
use Rattle.salvage.proofs.Numbering.{flat_append, flat_long, stretch_none}
use Rattle.salvage.proofs.Ending.{no_true}
use Rattle.salvage.proofs.Resuming.{list_end, tests_end}
use Rattle.salvage.proofs.Running.{State, Same}

-- what a call came to: where it stopped, the places that it tested, the numbers that it listed, and whether it is done
pub record Turn : Type 0 where
  pub stop : Stop
  pub tested : ℕ
  pub numbers : List ℕ
  pub done : Bool

-- the numbers of the entries, from the first of the list on
pub numbers_are :
    (c : Called) (l : List ℕ) {m : List ℕ} {k : ℕ} → length c.entries * 3 ≤ length l → k ≡ length c.entries →
    m ≡ sets l 0 (flat c.entries) → take (k * 3) m ≡ flat c.entries
numbers_are c l h e q =
    let v = flat c.entries in
    let n = flat_long c.entries in
    ap₂ (λ (i : ℕ) (j : List ℕ). take (i * 3) j) e (q ∙ sets-eq v l 0 (omega (arith, n))) ∙ take_at v _ (length c.entries * 3) n

module _ (s : Settings) (x : List ℕ) where
  -- nothing is missing and nothing listed twice; and done is what it says
  pub record Fairly (w : Stop) (t : Turn) : Type 0 where
    pub entries : List Entry
    pub same : Same s x w (record { tested = t.tested; entries = entries; stop = t.stop })
    pub numbers : t.numbers ≡ flat entries
    pub done : t.done ≡ true → t.stop ≡ stop (length x) (length x)

  -- calls that were made, each as it should be from a stop on
  module _ (C : Type 0) (turn : C → Turn) (Asks : Stop → C → Type 0) where
    unfoldable pub InTurn : Stop → List C → Type 0
    InTurn w [] = Unit {0}
    InTurn w (c ∷ cs) = Asks w c × InTurn (turn c).stop cs

    -- whether the last is done
    unfoldable pub last_done : Bool → List C → Bool
    last_done d [] = d
    last_done d (c ∷ cs) = last_done (turn c).done cs

    -- the numbers that were listed, and the places that were tested
    unfoldable pub listed_by : List C → List ℕ
    listed_by [] = []
    listed_by (c ∷ cs) = (turn c).numbers ++ listed_by cs

    unfoldable pub tested_by : List C → ℕ
    tested_by [] = 0
    tested_by (c ∷ cs) = (turn c).tested + tested_by cs

    unfoldable stop_after : Stop → List C → Stop
    stop_after w [] = w
    stop_after w (c ∷ cs) = stop_after (turn c).stop cs

    -- what was listed and tested, and what is missing from the stop on, is what was missing before
    record Ran (w : Stop) (d : Bool) (cs : List C) : Type 0 where
      list : listed_by cs ++ flat (list_at s x (stop_after w cs)) ≡ flat (list_at s x w)
      tests : tested_by cs + tests_at s x (stop_after w cs) ≡ tests_at s x w
      done : last_done d cs ≡ true → stop_after w cs ≡ stop (length x) (length x)

    module _
        (fair : going (begun s) ≡ true → (w : Stop) → State x w → (c : C) → Asks w c → Fairly w (turn c))
        (never : going (begun s) ≡ false → (w : Stop) (c : C) → Asks w c → (turn c).done ≡ false) where
      ran :
          going (begun s) ≡ true → (cs : List C) (w : Stop) (d : Bool) → State x w → (d ≡ true → w ≡ stop (length x) (length x)) →
          InTurn w cs → Ran w d cs
      unfolding InTurn last_done listed_by tested_by stop_after
      ran g [] w d i h t = record { list = refl; tests = omega arith; done = h }
      ran g (c ∷ cs) w d i h t =
          let f = fair g w i c t.0 in
          let j = ran g cs (turn c).stop (turn c).done f.same.state f.done t.1 in
          record {
            list =
                append_assoc (turn c).numbers (listed_by cs) _
                ∙ ap₂ (λ (y z : List ℕ). y ++ z) f.numbers j.list
                ∙ sym (flat_append f.entries (list_at s x (turn c).stop))
                ∙ ap flat f.same.list;
            tests = omega (arith, j.tests, f.same.tests);
            done = j.done;
          }

      never_done : going (begun s) ≡ false → (cs : List C) (w : Stop) (d : Bool) → d ≡ false → InTurn w cs → last_done d cs ≡ false
      unfolding InTurn last_done
      never_done e [] w d h t = h
      never_done e (c ∷ cs) w d h t = never_done e cs (turn c).stop (turn c).done (never e w c t.0) t.1

      pub all_listed :
          (cs : List C) → InTurn (stop 0 0) cs → last_done false cs ≡ true → (listed_by cs ≡ flat (list_of s x)) × (tested_by cs ≡ tests_of s x)
      unfolding flat
      all_listed cs t e =
          let n = length x in
          let g =
          ⊎_elim (λ g. g) (λ g. absurd (no_true (sym (never_done g cs (stop 0 0) false refl t) ∙ e))) (bool (going (begun s))) in
          let r = ran g cs (stop 0 0) false (record { order = omega arith; inside = omega arith }) (λ z. absurd (no_true z)) t in
          let w = r.done e in
          let l : list_at s x (stop_after (stop 0 0) cs) ≡ [] =
          ap (list_at s x) w ∙ list_end s x (n - n) (stop n n) (omega arith) ∙ stretch_none n n (omega arith) in
          let u : tests_at s x (stop_after (stop 0 0) cs) ≡ 0 = ap (tests_at s x) w ∙ tests_end s x (n - n) (stop n n) (omega arith) in (
            sym (append-nil (listed_by cs)) ∙ ap (λ (y : List Entry). listed_by cs ++ flat y) (sym l) ∙ r.list,
            omega (arith, r.tests, u),
          )
