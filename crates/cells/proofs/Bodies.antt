-- Where the body of a cell's segment begins: a small number, 0 exactly where the cell holds none; and the table of them.
-- Assumes nothing.
use Prim.Native.Nat.{ℕ, zero, suc, ◌+◌, ◌*◌, ◌≤◌, ◌<◌}
use mathlib.Core.Path.{◌≡◌, refl, ap, ◌∙◌}
use mathlib.Core.Logic.{◌⊎◌, inl, inr, ⊎_elim, ◌≢◌}
use mathlib.Core.Option.{none}
use mathlib.Core.List.{List}
use native.Mathlib.Omega.{arith}
use lib.ListN.{length, get_or, set, replicate, length-set, length-replicate}
use lib.Seq.{get_or-set_same, get_or-set_other}
use Rattle.octets.specs.Octets.{Octets, number}
use Rattle.octets.proofs.Has.{octets_part}
use Rattle.walk.specs.declared.Settings.{Settings}
use Rattle.walk.specs.Walk.{header_end}
use Rattle.packet.specs.Reading.{read_packet}
use Rattle.format.specs.Accepted.{Accepted}
use Rattle.format.proofs.Accepting.{accepted}
use Rattle.cells.specs.declared.Judged.{Judged}
use Rattle.cells.specs.Rows.{Cell, segment_in, row_at, packet_in, cell_of}
use Rattle.cells.specs.Order.{cells_most, cell_at}
use Rattle.cells.specs.Inner.{body_in, judged_of, body_start, bodies_to, Bodies, told_body}
use Rattle.cells.proofs.CellSegments.{judged_none}
use Rattle.cells.proofs.Carries.{Holding, kinds}
use Rattle.cells.proofs.Lowest.{same_or}

-- ---- of one cell

module _ (s : Settings) (Z : ℕ) (st : List ℕ) (i : ℕ) where
  abbrev r : List ℕ
  r = row_at Z st i

  abbrev p : List ℕ
  p = packet_in r

  -- as it is judged
  pub body_judged : {x : List ℕ} {t : Judged} → x ≡ r → t ≡ judged_of (body_in s x) (cell_of s Z x) → told_body t ≡ body_start s Z st i
  unfolding body_start
  body_judged ex et = ap (λ (t : Judged). told_body t) (et ∙ ap (λ (y : List ℕ). judged_of (body_in s y) (cell_of s Z y)) ex)

  body_of : {d : Cell} → cell_at s Z st i ≡ d → body_start s Z st i ≡ told_body (judged_of (body_in s r) d)
  unfolding body_start
  body_of e = ap (λ (d : Cell). told_body (judged_of (body_in s r) d)) e

  pub body_held : Holding s Z r → body_start s Z st i ≡ (read_packet s p).body.at
  body_held h = body_of h.cell

  body_none : segment_in (cell_at s Z st i) ≡ none → body_start s Z st i ≡ 0
  body_none n = body_of refl ∙ (judged_none (body_in s r) (cell_at s Z st i) n).1

  -- 0 is none
  pub body_some : (body_start s Z st i ≡ 0 → ⊥) → Holding s Z r
  body_some h = ⊎_elim (λ w. w) (λ w. absurd (h (body_none w))) (kinds s Z r)

  module _ (o : Octets st) where
    pub row_plain : Octets r
    row_plain = octets_part st (i * Z) Z o

    taken : Holding s Z r → Accepted s p (read_packet s p)
    taken h = accepted s p (octets_part r 2 (number 2 r 6 + 7) row_plain) h.accepted

    pub body_zero : body_start s Z st i ≡ 0 → segment_in (cell_at s Z st i) ≡ none
    body_zero z = ⊎_elim (λ h. absurd (omega (arith, body_held h, (taken h).body_low))) (λ w. w) (kinds s Z r)

    pub body_top : body_start s Z st i ≤ header_end
    body_top = ⊎_elim (λ h. omega (arith, body_held h, (taken h).body_top)) (λ w. omega (arith, body_none w)) (kinds s Z r)

-- ---- the table

module _ (s : Settings) (Z : ℕ) (st table : List ℕ) where
  table_long : (n : ℕ) → length (bodies_to s Z st n table) ≡ length table
  unfolding bodies_to
  table_long zero = refl
  table_long (suc n) = length-set (bodies_to s Z st n table) n (body_start s Z st n) ∙ table_long n

  bodies_told : (n : ℕ) → n ≤ length table → Bodies s Z st (bodies_to s Z st n table) n
  unfolding bodies_to
  bodies_told zero h i l = absurd (omega arith)
  bodies_told (suc n) h i l = go (same_or i n) (bodies_told n (omega arith) i)
    where
      go : (i ≡ n) ⊎ (i ≢ n) → (i < n → get_or (bodies_to s Z st n table) i 0 ≡ body_start s Z st i) → get_or (set (bodies_to s Z st n table) n (body_start s Z st n)) i 0 ≡ body_start s Z st i
      go (inl e) w =
          rw e (get_or-set_same (bodies_to s Z st n table) n (body_start s Z st n) 0 (omega (arith, table_long n)))
      go (inr d) w = get_or-set_other (bodies_to s Z st n table) n i (body_start s Z st n) 0 d ∙ w (omega (arith, d))

-- the table that was lent empty
pub bodies_left :
    (s : Settings) (Z : ℕ) (st : List ℕ) {n : ℕ} {table : List ℕ} → n ≤ cells_most → table ≡ bodies_to s Z st n (replicate cells_most 0) →
    Bodies s Z st table n
bodies_left s Z st {n} h e i l =
    ap (λ (x : List ℕ). get_or x i 0) e
    ∙ bodies_told s Z st (replicate cells_most 0) n (omega (arith, length-replicate {A = ℕ} cells_most 0)) i l
