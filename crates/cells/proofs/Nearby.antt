-- The records that may cover a counter stand on few chains: a walk along a chain, and all levels.
-- Assumes nothing.
use Prim.Native.Nat.{ℕ, suc, ◌+◌, ◌*◌, ◌/◌, ◌≤◌, ◌<◌}
use mathlib.Core.Path.{◌≡◌, refl, ap, ap₂, sym, ◌∙◌}
use mathlib.Core.Logic.{inr, ⊎_elim}
use mathlib.Core.Bool.{Bool, true, false, not, false≢true}
use mathlib.Core.List.{List}
use native.Mathlib.Numerals.{add-one}
use native.Mathlib.Omega.{arith}
use lib.ListN.{get_or}
use lib.Dec.{eqb}
use borrow.Author.Tests.{eqb-true, eq-eqb, not-true}
use Rattle.octets.specs.Octets.{Octets, alike, most32}
use Rattle.octets.proofs.Has.{octets_part}
use Rattle.octets.proofs.Lists.{bool, pick_false, alike_true}
use Rattle.octets.proofs.Numbers.{number_top}
use Rattle.walk.specs.declared.Settings.{Settings}
use Rattle.packet.specs.Numbers.{next_counter}
use Rattle.cells.specs.Segments.{both, reaches}
use Rattle.cells.specs.Rows.{Range, by_range, row_at, cell_of, key_long, range_of}
use Rattle.cells.specs.Order.{cells_most, cell_at, all_to, covers, covers_in, untaken_to}
use Rattle.cells.specs.declared.Chains.{Chains}
use Rattle.cells.specs.Chains.{mixed, mix_start, chains_all, cell_below, Chained}
use Rattle.cells.specs.Blocks.{levels_most, twos, halved, prior, block_of, block_chain, range_chain, taken_at, hits, clear_on, clear_at, clear_by}
use Rattle.cells.proofs.Held.{both_true}
use Rattle.cells.proofs.Apart.{all_at}
use Rattle.cells.proofs.Lowest.{all_each, none_new}
use Rattle.std.specs.Prelude.{Option, None, Some}
use Rattle.cells.proofs.Walking.{Walked, above, above_below, walk_first, walk_down, walk_turn, walk_done}
use Rattle.cells.proofs.Passing.{Passing, passing_first, passing_turn, all_fault, passing_all}
use Rattle.cells.proofs.Records.{Recording, record_or, record_is}
use Rattle.cells.proofs.Blocks.{near, block_room, halved_more}

-- ---- along a chain

module _ (s : Settings) (st : List ℕ) (Z n : ℕ) (k : List ℕ) (c : ℕ) {b : ℕ} {T : Chains} (ch : Chained (taken_at s Z st) T n) (fb : b < chains_all) where
  abbrev pub Clearing : Option ℕ → Type 0
  Clearing cur = Walked (taken_at s Z st) (hits s Z st k c b) n b (above cur) n

  only : (j : ℕ) → hits s Z st k c b j ≡ true → taken_at s Z st j ≡ b
  only j e = eqb-true (taken_at s Z st j) b (both_true (eqb (taken_at s Z st j) b) (covers_in k c (cell_at s Z st j)) e).0

  pub clear_first : {cur : Option ℕ} → cur ≡ cell_below (get_or T.heads b 0) → Clearing cur
  clear_first e = rw (e, above_below) (walk_first ch (hits s Z st k c b) b fb only)

  pub clear_done : Clearing None → true ≡ clear_on s Z st n k c b
  unfolding clear_on
  clear_done w = sym (none_new (hits s Z st k c b) n (sym (walk_done ch (hits s Z st k c b) b fb only w refl)))

  module _ {j : ℕ} (w : Clearing (Some j)) where
    pub clear_small : j < cells_most
    clear_small = omega (arith, w.low, ch.most)

    module _ {cur : Option ℕ} (e : cur ≡ cell_below (get_or T.links j 0)) where
      next_is : above cur ≡ get_or T.links j 0
      next_is = ap above e ∙ above_below (get_or T.links j 0)

      pub clear_less : above cur < suc j
      clear_less = omega (arith, next_is, walk_down ch (hits s Z st k c b) b fb only w j refl)

    module _ {t : Bool} {r : List ℕ} (er : r ≡ row_at Z st j) (et : t ≡ covers_in k c (cell_of s Z r)) where
      told : t ≡ covers_in k c (cell_at s Z st j)
      told = et ∙ ap (λ (x : List ℕ). covers_in k c (cell_of s Z x)) er

      pub clear_turn : {cur : Option ℕ} → cur ≡ cell_below (get_or T.links j 0) → t ≡ false → Clearing cur
      clear_turn f e =
          let g : hits s Z st k c b j ≡ false =
          ap (both (eqb (taken_at s Z st j) b)) (sym told ∙ e) ∙ pick_false (eqb (taken_at s Z st j) b) in
          rw (next_is f) (walk_turn ch (hits s Z st k c b) b fb only w j refl (inr (g, refl)))

      pub clear_fault : t ≡ true → false ≡ clear_on s Z st n k c b
      unfolding clear_on
      clear_fault e =
          let f : hits s Z st k c b j ≡ true =
          ap₂ both (eq-eqb (taken_at s Z st j) b (w.home j refl)) (sym told ∙ e) in
          all_fault (λ i. not (hits s Z st k c b i)) n j (omega (arith, w.low)) (ap not f)

-- ---- on all of them

module _ (s : Settings) (Z : ℕ) (st : List ℕ) (n : ℕ) (k : List ℕ) (c : ℕ) where
  -- if none covers them, none does on any chain
  clear_any : untaken_to s Z st n k c ≡ true → (b : ℕ) → clear_on s Z st n k c b ≡ true
  unfolding untaken_to clear_on
  clear_any e b = all_each (λ i. not (hits s Z st k c b i)) n one
    where
      one : (i : ℕ) → i < n → not (hits s Z st k c b i) ≡ true
      one i h =
          let f = not-true (covers_in k c (cell_at s Z st i)) (all_at (λ j. not (covers_in k c (cell_at s Z st j))) n i e h) in
          ap not (ap (both (eqb (taken_at s Z st i) b)) f ∙ pick_false (eqb (taken_at s Z st i) b))

  -- one chain, and the other
  module _ (m j x top : ℕ) {b : ℕ} {t : Bool} (eb : b ≡ block_chain m j x) (et : t ≡ clear_on s Z st n k c b) where
    first_is : t ≡ clear_on s Z st n k c (block_chain m j x)
    first_is = et ∙ ap (clear_on s Z st n k c) eb

    pub two_first : t ≡ false → false ≡ clear_at s Z st n k c m j x top
    unfolding clear_at
    two_first e = sym (ap (λ (y : Bool). both y (clear_on s Z st n k c (block_chain m j (prior top x)))) (sym first_is ∙ e))

    pub two_second : {d : ℕ} {u : Bool} → t ≡ true → d ≡ block_chain m j (prior top x) → u ≡ clear_on s Z st n k c d → u ≡ clear_at s Z st n k c m j x top
    unfolding clear_at
    two_second e ed eu =
        eu
        ∙ ap (clear_on s Z st n k c) ed
        ∙ sym (ap (λ (y : Bool). both y (clear_on s Z st n k c (block_chain m j (prior top x)))) (sym first_is ∙ e))

  pub clear_not : (m j x top : ℕ) {t : Bool} → t ≡ clear_at s Z st n k c m j x top → t ≡ false → false ≡ untaken_to s Z st n k c
  unfolding clear_at
  clear_not m j x top e f = ⊎_elim covered (λ u. sym u) (bool (untaken_to s Z st n k c))
    where
      covered : untaken_to s Z st n k c ≡ true → false ≡ untaken_to s Z st n k c
      covered u =
          absurd
          (false≢true (sym f ∙ e ∙ ap₂ both (clear_any u (block_chain m j x)) (clear_any u (block_chain m j (prior top x)))))

  -- a record that covers them is on a chain that is walked
  module _ (o : Octets st) (lc : c ≤ most32) {m : ℕ} (em : m ≡ mixed mix_start k) (i : ℕ) (h : i < n) (t : covers_in k c (cell_at s Z st i) ≡ true)
      (w : Recording s Z (row_at Z st i)) where
    abbrev r : List ℕ
    r = row_at Z st i

    abbrev g : Range
    g = range_of s r

    abbrev l : ℕ
    l = (block_of g.first g.steps).level

    covered : (reaches next_counter g.steps g.first c ≡ true) × (k ≡ g.key)
    unfolding covers
    covered =
        let v = both_true (reaches next_counter g.steps g.first c) (alike k g.key) (sym (ap (covers_in k c) (record_is s Z r w)) ∙ t) in
        (v.0, alike_true k g.key v.1)

    first_small : g.first ≤ most32
    unfolding range_of
    first_small = let x = number_top 4 r (2 + key_long s r) (octets_part st (i * Z) Z o) in omega arith

    steps_few : g.steps ≤ 4095
    unfolding range_of
    steps_few = w.few

    room : (l ≤ levels_most) × (g.steps < twos l) × ((block_of g.first g.steps).number ≡ halved l g.first)
    room = block_room g.first g.steps steps_few

    on_chain : (y : ℕ) → halved l g.first ≡ y → taken_at s Z st i ≡ block_chain m l y
    unfolding taken_at
    on_chain y e =
        ap range_chain (record_is s Z r w)
        ∙ ap (block_chain (mixed mix_start g.key) l) (room.2 ∙ e)
        ∙ ap (λ (x : ℕ). block_chain x l y) (ap (mixed mix_start) (sym covered.1) ∙ sym em)

    met : (y : ℕ) → halved l g.first ≡ y → clear_on s Z st n k c (block_chain m l y) ≡ true → ⊥
    unfolding clear_on
    met y e f =
        let b = block_chain m l y in
        let x : hits s Z st k c b i ≡ true = ap₂ both (eq-eqb (taken_at s Z st i) b (on_chain y e)) t in
        false≢true (sym (ap not x) ∙ all_at (λ j. not (hits s Z st k c b j)) n i f h)

    walked : clear_by s Z st n k c m l ≡ true → ⊥
    unfolding clear_at
    walked f =
        let x = both_true (clear_on s Z st n k c (block_chain m l (halved l c))) (clear_on s Z st n k c (block_chain m l (prior (halved l most32) (halved l c)))) f in
        ⊎_elim
        (λ e. met (halved l c) e x.0)
        (λ e. met (prior (halved l most32) (halved l c)) e x.1)
        (near l g.first g.steps c room.0 first_small lc room.1 covered.0)

    pub not_clear : all_to (clear_by s Z st n k c m) 13 ≡ true → ⊥
    not_clear f = walked (all_at (clear_by s Z st n k c m) 13 l f (omega (arith, room.0)))

  pub levels_clear : Octets st → c ≤ most32 → {m : ℕ} → m ≡ mixed mix_start k → all_to (clear_by s Z st n k c m) 13 ≡ true → untaken_to s Z st n k c ≡ true
  unfolding untaken_to
  levels_clear o lc em f = all_each (λ j. not (covers_in k c (cell_at s Z st j))) n one
    where
      one : (j : ℕ) → j < n → not (covers_in k c (cell_at s Z st j)) ≡ true
      one j h = ⊎_elim covered_it (λ e. ap not e) (bool (covers_in k c (cell_at s Z st j)))
        where
          covered_it : covers_in k c (cell_at s Z st j) ≡ true → not (covers_in k c (cell_at s Z st j)) ≡ true
          covered_it e =
              ⊎_elim
              (λ w. absurd (not_clear o lc em j h e w f))
              (λ w. absurd (false≢true (sym (ap (by_range false (covers k c)) w) ∙ e)))
              (record_or s Z (row_at Z st j))

-- ---- level by level

pub record Nearing (s : Settings) (Z : ℕ) (st : List ℕ) (n : ℕ) (k : List ℕ) (c m x top level : ℕ) : Type 0 where
  pub passed : Passing (clear_by s Z st n k c m) 13 level
  pub block : x ≡ halved level c
  pub highest : top ≡ halved level most32

pub nearing_first : {s : Settings} {Z : ℕ} {st : List ℕ} {n : ℕ} {k : List ℕ} {c m : ℕ} → Nearing s Z st n k c m c most32 0
unfolding halved
nearing_first = record { passed = passing_first _ _; block = refl; highest = refl }

module _ {s : Settings} {Z : ℕ} {st : List ℕ} {n : ℕ} {k : List ℕ} {c m x top level : ℕ} (p : Nearing s Z st n k c m x top level) where
  pub nearing_turn : {t : Bool} → level ≤ levels_most → t ≡ clear_at s Z st n k c m level x top → t ≡ true → Nearing s Z st n k c m (x / 2) (top / 2) (level + 1)
  nearing_turn h e f =
      record {
        passed =
            passing_turn p.passed (omega arith)
            (sym (ap₂ (λ (y z : ℕ). clear_at s Z st n k c m level y z) p.block p.highest) ∙ sym e ∙ f);
        block = ap (λ (y : ℕ). y / 2) p.block ∙ sym (ap (λ (j : ℕ). halved j c) (add-one level) ∙ halved_more level c);
        highest = ap (λ (y : ℕ). y / 2) p.highest ∙ sym (ap (λ (j : ℕ). halved j most32) (add-one level) ∙ halved_more level most32);
      }

  pub nearing_all : Octets st → c ≤ most32 → m ≡ mixed mix_start k → levels_most < level → true ≡ untaken_to s Z st n k c
  nearing_all o lc em h = sym (levels_clear s Z st n k c o lc em (sym (passing_all p.passed (omega arith))))
