-- The walk along the chain of a key and a counter, beside what the code has read.
-- Assumes nothing.
use Prim.Native.Nat.{ℕ, suc, ◌<◌}
use mathlib.Core.Path.{◌≡◌, refl, ap, sym, ◌∙◌}
use mathlib.Core.Logic.{◌⊎◌, inl, inr, ⊎_elim}
use mathlib.Core.Bool.{Bool, true, false}
use mathlib.Core.List.{List}
use native.Mathlib.Omega.{arith}
use lib.ListN.{get_or}
use Rattle.walk.specs.declared.Settings.{Settings}
use Rattle.packet.specs.Reading.{read_packet}
use Rattle.packet.specs.Key.{key_of}
use Rattle.cells.specs.Rows.{row_at, cell_of}
use Rattle.cells.specs.Order.{cells_most, carries_in, cell_at, found_in}
use Rattle.cells.specs.Inner.{Asked}
use Rattle.cells.specs.declared.Chains.{Chains}
use Rattle.cells.specs.Chains.{chains_all, bucket_of, key_in, bucket_at, cell_below, Chained}
use Rattle.cells.proofs.Mixing.{bucket_low, key_asked}
use Rattle.std.specs.Prelude.{Option, None, Some}
use Rattle.cells.proofs.Walking.{Walked, above, above_below, walk_first, walk_down, walk_turn, walk_done, cell_chain}

-- the test that is looked for
abbrev pub asks : Settings → List ℕ → ℕ → List ℕ → ℕ → ℕ → Bool
asks s st Z q c j = carries_in (key_of q (read_packet s q)) c (cell_at s Z st j)

-- where the walk stands
abbrev pub Finding : Settings → List ℕ → ℕ → List ℕ → ℕ → ℕ → ℕ → Option ℕ → ℕ → Type 0
Finding s st Z q c n b cur best = Walked (bucket_at s Z st) (asks s st Z q c) n b (above cur) best

module _ (s : Settings) (st : List ℕ) (Z : ℕ) (q : List ℕ) (body_at c n : ℕ) {b : ℕ} {T : Chains}
    (a : Asked s q body_at) (ch : Chained (bucket_at s Z st) T n) (eb : b ≡ bucket_of (key_in q body_at) c) where
  chain_is : b ≡ bucket_of (key_of q (read_packet s q)) c
  chain_is = eb ∙ ap (λ (y : List ℕ). bucket_of y c) (key_asked s q body_at a)

  pub chain_low : b < chains_all
  chain_low = rw chain_is (bucket_low (key_of q (read_packet s q)) c)

  only : (j : ℕ) → asks s st Z q c j ≡ true → bucket_at s Z st j ≡ b
  only j e = cell_chain s Z st (key_of q (read_packet s q)) c j chain_is e

  pub finding_first : {cur : Option ℕ} → cur ≡ cell_below (get_or T.heads b 0) → Finding s st Z q c n b cur n
  finding_first e = rw (e, above_below) (walk_first ch (asks s st Z q c) b chain_low only)

  pub finding_done : {best : ℕ} → Finding s st Z q c n b None best → best ≡ found_in s Z st n (key_of q (read_packet s q)) c
  unfolding found_in
  finding_done w = walk_done ch (asks s st Z q c) b chain_low only w refl

  module _ {j best : ℕ} (w : Finding s st Z q c n b (Some j) best) where
    pub finding_small : j < cells_most
    finding_small = omega (arith, w.low, ch.most)

    module _ {cur : Option ℕ} (e : cur ≡ cell_below (get_or T.links j 0)) where
      next_is : above cur ≡ get_or T.links j 0
      next_is = ap above e ∙ above_below (get_or T.links j 0)

      pub finding_less : above cur < suc j
      finding_less = omega (arith, next_is, walk_down ch (asks s st Z q c) b chain_low only w j refl)

      pub finding_turn :
          {t : Bool} {r : List ℕ} {new : ℕ} → r ≡ row_at Z st j → t ≡ carries_in (key_of q (read_packet s q)) c (cell_of s Z r) →
          ((t ≡ true) × (new ≡ j)) ⊎ ((t ≡ false) × (new ≡ best)) → Finding s st Z q c n b cur new
      finding_turn {t} {r} {new} er et came =
          rw next_is
          (walk_turn ch (asks s st Z q c) b chain_low only w j refl
          (⊎_elim (λ p. inl (sym told ∙ p.0, p.1)) (λ p. inr (sym told ∙ p.0, p.1)) came))
        where
          told : t ≡ asks s st Z q c j
          told = et ∙ ap (λ (x : List ℕ). carries_in (key_of q (read_packet s q)) c (cell_of s Z x)) er
