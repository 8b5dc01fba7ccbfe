-- The message that is picked, as its record tells it: its first stands in a cell, its record fits a cell, and its segments are just those of
-- its key whose counters are in the record's range. So the record reads back as that range.
-- Assumes nothing.
use Prim.Native.Nat.{ℕ, zero, suc, ◌+◌, ◌-◌, ◌*◌, ◌≤◌, ◌<◌}
use mathlib.Core.Path.{◌≡◌, refl, ap, sym, ◌∙◌, subst}
use mathlib.Core.Logic.{⊎_elim}
use mathlib.Core.Bool.{Bool}
use mathlib.Core.List.{List, [], ◌∷◌, map}
use mathlib.Core.Option.{Option, none, some}
use native.Mathlib.Omega.{arith}
use lib.ListN.{length, length-map}
use lib.Dec.{leb}
use borrow.Author.Tests.{le-leb, lt-leb}
use Rattle.octets.specs.Octets.{pick, Octets, number, most32}
use Rattle.octets.proofs.Has.{octets_part}
use Rattle.octets.proofs.Numbers.{number_top}
use Rattle.octets.proofs.Lists.{below_or}
use Rattle.walk.specs.declared.Settings.{Settings}
use Rattle.packet.specs.Numbers.{next_counter, steps_most}
use Rattle.sender.specs.Sending.{steps_of}
use Rattle.sender.proofs.Stepping.{steps_round, steps_counter}
use Rattle.cells.specs.Segments.{Seg, seg_of}
use Rattle.cells.specs.Rows.{Range, held, taken, row_at, packet_in, cell_of, steps_between}
use Rattle.cells.specs.Order.{cell_at, found_in, lowest}
use Rattle.cells.specs.Inner.{place_in, counter_in, within}
use Rattle.cells.proofs.Carries.{Holding, held_counter}
use Rattle.cells.proofs.ReadsBack.{record_cell}
use Rattle.cells.specs.Messages.{Role, first, middle, last, role_of, link_by, Run, segments, cells_of, picked, among}
use Rattle.taking.specs.Taking.{last_of, record_of}
use Rattle.taking.specs.Follow.{seg_at, follow, opens_at}
use Rattle.taking.proofs.Following.{follow_none, follow_by}
use Rattle.taking.proofs.Heads.{key_fits}
use Rattle.taking.proofs.Among.{follow_last, follow_among}
use Rattle.taking.proofs.Drawing.{Message, the_message, message_held, run_of, picked_below}

-- ---- how many there are

module _ (next : ℕ → ℕ) (span : ℕ) (s : Settings) (Z : ℕ) (st : List ℕ) (n : ℕ) (k : List ℕ) where
  abbrev Few : ℕ → List ℕ → Type 0
  Few f js = (1 ≤ length js) × (length js ≤ f)

  on_few :
      (x : Role) (f j : ℕ) (o : Option (List ℕ)) (js : List ℕ) → ((ks : List ℕ) → o ≡ some ks → Few f ks) → link_by x j o ≡ some js → Few (suc f) js
  on_few first f j o js rest e = let z : ◌≡◌ {A = ℕ} 0 1 = cc in absurd (omega arith)
  on_few middle f j none js rest e = let z : ◌≡◌ {A = ℕ} 0 1 = cc in absurd (omega arith)
  on_few middle f j (some ks) js rest e =
      let d : j ∷ ks ≡ js = cc in
      let r = rest ks refl in
      (omega (arith, ap length d), omega (arith, ap length d, r.1))
  on_few last f j o js rest e =
      let d : j ∷ [] ≡ js = cc in
      (omega (arith, ap length d), omega (arith, ap length d))

  follow_few : (f c : ℕ) (js : List ℕ) → follow next span s Z st n k f c ≡ some js → Few f js
  unfolding follow
  follow_few zero c js e = let z : ◌≡◌ {A = ℕ} 0 1 = cc in absurd (omega arith)
  follow_few (suc f) c js e = ⊎_elim (there (follow_few f (next c))) nowhere (below_or (found_in s Z st n k c) n)
    where
      there : ((ks : List ℕ) → follow next span s Z st n k f (next c) ≡ some ks → Few f ks) → found_in s Z st n k c < n → Few (suc f) js
      there rest h =
          on_few (role_of (seg_at s Z st (found_in s Z st n k c)).flags) f (found_in s Z st n k c) (follow next span s Z st n k f (next c)) js rest
          (sym (follow_by next span s Z st n k f c refl h refl) ∙ e)

      nowhere : n ≤ found_in s Z st n k c → Few (suc f) js
      nowhere h =
          let d : ◌≡◌ {A = Option (List ℕ)} none (some js) = sym (follow_none next span s Z st n k f c refl h) ∙ e in
          let z : ◌≡◌ {A = ℕ} 0 1 = cc in absurd (omega arith)

-- ---- the steps from a counter to the one so many steps on

steps_back : (m c : ℕ) → c ≤ most32 → m ≤ most32 → steps_between c (steps_of next_counter m c) ≡ m
unfolding steps_between
steps_back m c h l = ⊎_elim round on (below_or (steps_of next_counter m c) c)
  where
    d : ℕ
    d = steps_of next_counter m c

    on : c ≤ d → pick (leb c d) (d - c) (suc most32 - c + d) ≡ m
    on k = ap (λ (b : Bool). pick b (d - c) (suc most32 - c + d)) (le-leb c d k) ∙ (let e : d - c ≡ m = omega (arith, steps_round m c h) in e)

    round : d < c → pick (leb c d) (d - c) (suc most32 - c + d) ≡ m
    round k =
        ap (λ (b : Bool). pick b (d - c) (suc most32 - c + d)) (lt-leb c d k)
        ∙ (let e : suc most32 - c + d ≡ m = omega (arith, steps_round m c h) in e)

-- ---- the message

-- the range of its record
abbrev pub range_left : Run → Range
range_left r = record { key = r.head.key; first = r.head.counter; steps = length r.rest }

module _ (s : Settings) (Z : ℕ) (st : List ℕ) (n : ℕ) where
  pub record Known (r : Run) : Type 0 where
    pub place : ℕ
    pub below : place < n
    pub cell : cell_at s Z st place ≡ held r.head
    pub counter : r.head.counter ≤ most32
    pub fits : 2 + length r.head.key + 8 ≤ Z
    pub more : 1 ≤ length r.rest
    pub few : length r.rest ≤ steps_most
    pub last : last_of r.head.counter r.rest ≡ steps_of next_counter (length r.rest) r.head.counter
    pub own : (t : Seg) → among (segments r) t ≡ within next_counter r.head.key r.head.counter (length r.rest) t

  module _ (o : Octets st) (r : Run) (e : picked next_counter steps_most (cells_of s Z st n) ≡ some r) where
    abbrev i : ℕ
    i = lowest (opens_at next_counter steps_most s Z st n) n 0

    there : i < n
    there =
        picked_below next_counter steps_most s Z st n
        (λ d. let f : ◌≡◌ {A = Option Run} none (some r) = sym d ∙ e in let z : ◌≡◌ {A = ℕ} 0 1 = cc in omega arith)

    m : Message next_counter steps_most s Z st n i
    m = the_message next_counter steps_most s Z st n refl there

    run_is : run_of next_counter steps_most s Z st n m ≡ r
    run_is = let f : some (run_of next_counter steps_most s Z st n m) ≡ some r = sym m.run ∙ e in cc f

    abbrev row : List ℕ
    row = row_at Z st i

    abbrev u : Seg
    u = seg_at s Z st i

    holds : Holding s Z row
    holds = message_held next_counter steps_most s Z st n refl there

    plain : Octets row
    plain = octets_part st (i * Z) Z o

    counter_most : u.counter ≤ most32
    unfolding seg_of counter_in
    counter_most =
        let p = octets_part row 2 (number 2 row 6 + 7) plain in
        let t = number_top 4 (packet_in row) (place_in (packet_in row)) p in
        omega (arith, held_counter s Z row plain holds)

    key_room : 2 + length u.key + 8 ≤ Z
    unfolding seg_of
    key_room =
        let l = key_fits s (packet_in row) (octets_part row 2 (number 2 row 6 + 7) plain) holds.accepted holds.segment in
        omega (arith, l, holds.fits)

    many : length (map (seg_at s Z st) m.places) ≡ length m.places
    many = length-map m.places (seg_at s Z st)

    known_here : Known (run_of next_counter steps_most s Z st n m)
    unfolding among
    known_here =
        let f = follow_few next_counter steps_most s Z st n u.key steps_most (next_counter u.counter) m.places m.complete in
        record {
          place = i;
          below = there;
          cell = m.cell;
          counter = counter_most;
          fits = key_room;
          more = omega (arith, many, f.0);
          few = omega (arith, many, f.1);
          last = follow_last next_counter steps_most s Z st n u.key steps_most u.counter m.places m.complete
              ∙ ap (λ (x : ℕ). steps_of next_counter x u.counter) (sym many);
          own = λ t. follow_among next_counter steps_most s Z st n u.key t steps_most u.counter m.places m.complete
              ∙ ap (λ (x : ℕ). within next_counter u.key u.counter x t) (sym many);
        }

    pub known : Known r
    known = subst Known run_is known_here

  -- ---- its record reads back

  module _ (o : Octets st) (r : Run) (w : Known r) where
    steps_are : steps_between r.head.counter (last_of r.head.counter r.rest) ≡ length r.rest
    steps_are = ap (steps_between r.head.counter) w.last ∙ steps_back (length r.rest) r.head.counter w.counter (omega (arith, w.few))

    last_most : last_of r.head.counter r.rest ≤ most32
    last_most = omega (arith, w.last, steps_counter (length r.rest) r.head.counter w.counter)

    pub record_reads : cell_of s Z (record_of Z r) ≡ taken (range_left r)
    unfolding record_of
    record_reads =
        record_cell s Z (row_at Z st w.place) r.head r.head.counter (last_of r.head.counter r.rest)
        (octets_part st (w.place * Z) Z o) w.cell w.fits w.counter last_most (omega (arith, steps_are, w.more)) (omega (arith, steps_are, w.few))
        ∙ ap (λ (x : ℕ). taken (record { key = r.head.key; first = r.head.counter; steps = x })) steps_are
