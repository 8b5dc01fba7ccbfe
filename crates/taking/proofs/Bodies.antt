-- The bodies of a complete run laid one after another: what the loop has done, and one turn of it.
-- Assumes nothing.
use Prim.Native.Nat.{ℕ, suc, ◌+◌, ◌≤◌, ◌<◌}
use mathlib.Core.Path.{◌≡◌, refl, ap, ap₂, sym, ◌∙◌}
use mathlib.Core.Logic.{⊎_elim}
use mathlib.Core.Bool.{Bool, true, false}
use mathlib.Core.List.{List, [], ◌∷◌, ◌++◌, append-nil}
use mathlib.Core.Option.{Option, none, some, map}
use native.Mathlib.Omega.{arith}
use lib.ListN.{length, length-append}
use lib.Seq.{sets, length-sets}
use lib.Dec.{eqb, ltb}
use borrow.Author.Tests.{ltb-true, eqb-true, eqb-false, ne_eqb}
use Rattle.octets.specs.Octets.{pick, part}
use Rattle.octets.proofs.Lists.{bool, sets_append}
use Rattle.walk.specs.declared.Settings.{Settings}
use Rattle.packet.specs.Reading.{read_packet}
use Rattle.cells.specs.Segments.{seg_of}
use Rattle.cells.specs.Rows.{row_at, packet_in}
use Rattle.cells.specs.Order.{found_in}
use Rattle.cells.specs.declared.messages.Piece.{Piece}
use Rattle.cells.specs.Messages.{first, middle, last, role_of, link_by}
use Rattle.cells.specs.Pieces.{seg_in, piece_of}
use Rattle.taking.specs.Follow.{seg_at, on_at, follow, places_from, bodies_at, Ready}

-- ---- the next cell of a run

taken : (b : Bool) (x : Option (List ℕ)) (js : List ℕ) → pick b x none ≡ some js → (b ≡ true) × (x ≡ some js)
taken true x js e = (refl, e)
taken false x js e = let z : ◌≡◌ {A = ℕ} 0 1 = cc in absurd (omega arith)

mapped : (j : ℕ) (r : Option (List ℕ)) (ks : List ℕ) → map (λ (js : List ℕ). j ∷ js) r ≡ some ks → (js : List ℕ) × (ks ≡ j ∷ js) × (r ≡ some js)
mapped j none ks e = let z : ◌≡◌ {A = ℕ} 0 1 = cc in absurd (omega arith)
mapped j (some js) ks e = (js, cc, refl)

some_same : (a b : List ℕ) → ◌≡◌ {A = Option (List ℕ)} (some a) (some b) → b ≡ a
some_same a b e = cc

-- a last ends the run
role_last : (f j : ℕ) (r : Option (List ℕ)) (ks : List ℕ) → f ≡ 2 → link_by (role_of f) j r ≡ some ks → ks ≡ j ∷ []
unfolding role_of
role_last f j r ks e h = some_same (j ∷ []) ks (ap (λ (x : ℕ). link_by (role_of x) j r) (sym e) ∙ h)

-- any other goes on
role_on : (f j : ℕ) (r : Option (List ℕ)) (ks : List ℕ) → (f ≡ 2 → ⊥) → link_by (role_of f) j r ≡ some ks → (js : List ℕ) × (ks ≡ j ∷ js) × (r ≡ some js)
unfolding role_of
role_on f j r ks no2 h = go (eqb f 1) (eqb f 2) (ne_eqb f 2 no2) h
  where
    go :
        (a b : Bool) → b ≡ false → link_by (pick a first (pick b last middle)) j r ≡ some ks →
        (js : List ℕ) × (ks ≡ j ∷ js) × (r ≡ some js)
    go true b e u = let z : ◌≡◌ {A = ℕ} 0 1 = cc in absurd (omega arith)
    go false true e u = let z : ◌≡◌ {A = ℕ} 0 1 = cc in absurd (omega arith)
    go false false e u = mapped j r ks u

module _ (next : ℕ → ℕ) (span : ℕ) (s : Settings) (Z : ℕ) (st : List ℕ) (n : ℕ) (k : List ℕ) where
  module _ (f c : ℕ) (ks : List ℕ) (e : follow next span s Z st n k (suc f) c ≡ some ks) {j : ℕ} (ej : j ≡ found_in s Z st n k c) where
    -- what goes on from there
    abbrev ahead : Option (List ℕ)
    ahead = follow next span s Z st n k f (next c)

    stepped : (ltb j n ≡ true) × (link_by (role_of (seg_at s Z st j).flags) j ahead ≡ some ks)
    unfolding follow
    stepped = taken (ltb j n) (link_by (role_of (seg_at s Z st j).flags) j ahead) ks (ap (λ (i : ℕ). on_at s Z st n i ahead) ej ∙ e)

    pub next_inside : j < n
    next_inside = ltb-true j n stepped.0

    pub next_last : (seg_at s Z st j).flags ≡ 2 → ks ≡ j ∷ []
    next_last g = role_last (seg_at s Z st j).flags j ahead ks g stepped.1

    pub next_on : ((seg_at s Z st j).flags ≡ 2 → ⊥) → (js : List ℕ) × (ks ≡ j ∷ js) × (ahead ≡ some js)
    next_on g = role_on (seg_at s Z st j).flags j ahead ks g stepped.1

    next_some : (js : List ℕ) × (ks ≡ j ∷ js)
    next_some = ⊎_elim ends goes_on_lem (bool (eqb (seg_at s Z st j).flags 2))
      where
        ends : eqb (seg_at s Z st j).flags 2 ≡ true → (js : List ℕ) × (ks ≡ j ∷ js)
        ends b = ([], next_last (eqb-true (seg_at s Z st j).flags 2 b))

        goes_on_lem : eqb (seg_at s Z st j).flags 2 ≡ false → (js : List ℕ) × (ks ≡ j ∷ js)
        goes_on_lem b = let o = next_on (eqb-false (seg_at s Z st j).flags 2 b) in (o.0, o.1)

-- ---- a body, as it stands in its row

module _ (s : Settings) (Z : ℕ) (st : List ℕ) (j : ℕ) {r : List ℕ} {t : Piece} (er : r ≡ row_at Z st j) (et : t ≡ piece_of (read_packet s (packet_in r))) where
  pub body_there : part (packet_in r) t.at t.length ≡ (seg_at s Z st j).body
  unfolding seg_of piece_of
  body_there =
      ap (λ (u : Piece). part (packet_in r) u.at u.length) et ∙ ap (λ (x : List ℕ). (seg_in s x).body) er

  pub flags_there : t.flags ≡ (seg_at s Z st j).flags
  unfolding seg_of piece_of
  flags_there = ap (λ (u : Piece). u.flags) et ∙ ap (λ (x : List ℕ). (seg_in s x).flags) er

bodies_first : (s : Settings) (Z : ℕ) (st : List ℕ) (j : ℕ) (js ks : List ℕ) {x : List ℕ} → ks ≡ j ∷ js → x ≡ (seg_at s Z st j).body → bodies_at s Z st
    ks ≡ x ++ bodies_at s Z st js
unfolding bodies_at
bodies_first s Z st j js ks e ex = ap (bodies_at s Z st) e ∙ ap (λ (y : List ℕ). y ++ bodies_at s Z st js) (sym ex)

bodies_last : (s : Settings) (Z : ℕ) (st : List ℕ) (j : ℕ) (ks : List ℕ) {x : List ℕ} → ks ≡ j ∷ [] → x ≡ (seg_at s Z st j).body → bodies_at s Z st ks ≡ x
unfolding bodies_at
bodies_last s Z st j ks {x} e ex = bodies_first s Z st j [] ks e ex ∙ append-nil x

-- ---- the loop

module _ (next : ℕ → ℕ) (span : ℕ) (s : Settings) (Z : ℕ) (st : List ℕ) (n : ℕ) (k js : List ℕ) (place : ℕ) (o : List ℕ) where
  -- what is done, over what is left to do: the run after the counter c, its bodies from `at` on; its next segment is that of this step
  pub record Copying (out : List ℕ) (c left steps at : ℕ) : Type 0 where
    pub rest : List ℕ
    pub ahead : follow next span s Z st n k left (next c) ≡ some rest
    pub octets : sets out at (bodies_at s Z st rest) ≡ sets o place (bodies_at s Z st js)
    pub room : at + length (bodies_at s Z st rest) ≤ length out
    pub long : length out ≡ length o
    pub told : steps + length rest ≡ length js + 1

pub copying_first :
    (next : ℕ → ℕ) (span : ℕ) (s : Settings) (Z : ℕ) (st : List ℕ) (n : ℕ) (k : List ℕ) (c place : ℕ) (o : List ℕ) {left : ℕ} →
    left ≡ span → Ready next span s Z st n k (next c) place o →
    Copying next span s Z st n k (places_from next span s Z st n k (next c)) place o o c left 1 place
copying_first next span s Z st n k c place o e r =
    record {
      rest = places_from next span s Z st n k (next c);
      ahead = ap (λ (f : ℕ). follow next span s Z st n k f (next c)) e ∙ r.complete;
      octets = refl;
      room = r.room;
      long = refl;
      told = omega arith;
    }

module _ {next : ℕ → ℕ} {span : ℕ} {s : Settings} {Z : ℕ} {st : List ℕ} {n : ℕ} {k js : List ℕ} {place : ℕ} {o : List ℕ}
    {out : List ℕ} {c left steps at : ℕ} (w : Copying next span s Z st n k js place o out c left steps at) where
  -- a run that is complete does not come to where no step is left
  pub copying_ended : left ≤ 0 → ⊥
  unfolding follow
  copying_ended h =
      let z : 0 ≡ left = omega arith in
      let u : none ≡ some w.rest = ap (λ (f : ℕ). follow next span s Z st n k f (next c)) z ∙ w.ahead in
      let y : ◌≡◌ {A = ℕ} 0 1 = cc in
      omega arith

  module _ {less : ℕ} (h : left ≡ suc less) {d : ℕ} (ed : d ≡ next c) {j : ℕ} (ej : j ≡ found_in s Z st n k d) where
    ahead_at : follow next span s Z st n k (suc less) d ≡ some w.rest
    ahead_at = ap₂ (λ (f x : ℕ). follow next span s Z st n k f x) (sym h) ed ∙ w.ahead

    pub copying_inside : j < n
    copying_inside = next_inside next span s Z st n k less d w.rest ahead_at ej

    module _ {r : List ℕ} {t : Piece} (er : r ≡ row_at Z st j) (et : t ≡ piece_of (read_packet s (packet_in r))) where
      abbrev x : List ℕ
      x = part (packet_in r) t.at t.length

      body_is : x ≡ (seg_at s Z st j).body
      body_is = body_there s Z st j er et

      pub copying_room : at + length x ≤ length out
      copying_room =
          let y = next_some next span s Z st n k less d w.rest ahead_at ej in
          let e = ap length (bodies_first s Z st j y.0 w.rest y.1 body_is) ∙ length-append x (bodies_at s Z st y.0) in
          omega (arith, w.room)

      module _ {place' : ℕ} {out' : List ℕ} (ea : place' ≡ at + length x) (eo : out' ≡ sets out at x) where
        pub copying_long : length out' ≡ length o
        copying_long = ap length eo ∙ length-sets out at x ∙ w.long

        pub copying_last : t.flags ≡ 2 → (steps ≡ length js) × (out' ≡ sets o place (bodies_at s Z st js))
        copying_last f =
            let e = next_last next span s Z st n k less d w.rest ahead_at ej (sym (flags_there s Z st j er et) ∙ f) in (
              omega (arith, w.told, ap length e),
              eo ∙ ap (sets out at) (sym (bodies_last s Z st j w.rest e body_is)) ∙ w.octets,
            )

        pub copying_turn : (t.flags ≡ 2 → ⊥) → Copying next span s Z st n k js place o out' d less (steps + 1) place'
        copying_turn f =
            let y = next_on next span s Z st n k less d w.rest ahead_at ej (λ g. f (flags_there s Z st j er et ∙ g)) in
            let b = bodies_first s Z st j y.0 w.rest y.1 body_is in
            let l = ap length b ∙ length-append x (bodies_at s Z st y.0) in
            record {
              rest = y.0;
              ahead = y.2;
              octets =
                  ap₂ (λ (p : List ℕ) (i : ℕ). sets p i (bodies_at s Z st y.0)) eo ea
                  ∙ sets_append out at x (bodies_at s Z st y.0)
                  ∙ ap (sets out at) (sym b)
                  ∙ w.octets;
              room = omega (arith, w.room, ap length eo, length-sets out at x);
              long = copying_long;
              told = omega (arith, w.told, ap length y.1);
            }
