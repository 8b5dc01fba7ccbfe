-- Octets that are a segment's key, and a cell that holds a segment of a key and of a range of counters, as the code tests them.
-- Assumes nothing.
use Prim.Native.Nat.{ℕ, ◌+◌, ◌-◌}
use mathlib.Core.Path.{◌≡◌, refl, ap, ap₂, sym, ◌∙◌}
use mathlib.Core.Logic.{⊎_elim}
use mathlib.Core.Bool.{Bool, true, false}
use mathlib.Core.List.{List, [], ◌∷◌, ◌++◌}
use native.Mathlib.Omega.{arith}
use lib.ListN.{length, take, drop}
use lib.Seq.{drop-drop}
use lib.Dec.{eqb}
use Rattle.octets.specs.Octets.{Octets, octet_at, part, number, alike}
use Rattle.octets.proofs.Has.{octets_part}
use Rattle.octets.proofs.Lists.{bool, pick_false}
use Rattle.walk.specs.declared.Settings.{Settings}
use Rattle.packet.specs.Reading.{read_packet}
use Rattle.packet.specs.Key.{key_of}
use Rattle.packet.specs.Numbers.{next_counter}
use Rattle.cells.specs.declared.Judged.{Judged}
use Rattle.cells.specs.Segments.{seg_of, both, reaches}
use Rattle.cells.specs.Rows.{Cell, packet_in, cell_of, by_segment}
use Rattle.cells.specs.Inner.{place_in, counter_in, body_in, judged_of, told_held, within_in, Asked, within, told_body}
use Rattle.cells.specs.Chains.{key_in}
use Rattle.cells.proofs.Carries.{Holding, not_held, judged_one, judged_at, held_counter, kinds}
use Rattle.cells.proofs.Mixing.{key_asked}
use Rattle.cells.proofs.Transactions.{key_apart}

-- ---- a key

-- a list beside two others, one after the other
alike_parts : (k a b : List ℕ) → alike k (a ++ b) ≡ both (alike (take (length a) k) a) (alike (drop (length a) k) b)
unfolding alike
alike_parts k [] b = refl
alike_parts [] (x ∷ a) b = refl
alike_parts (y ∷ k) (x ∷ a) b = ⊎_elim (λ e. rw e (alike_parts k a b)) (λ e. rw e refl) (bool (eqb y x))

module _ (k p : List ℕ) (end : ℕ) {c : ℕ} {i f : List ℕ} (ec : c ≡ place_in p) (ei : i ≡ part p 0 2) (ef : f ≡ part p 6 (c - 6)) where
  pub key_tested :
      {t x y z : List ℕ} {a b d m n : Bool} → t ≡ part p (c + 4) (end - (c + 4)) → x ≡ part k 0 (length i) → a ≡ alike x i →
      y ≡ part k (length i) (length f) → b ≡ alike y f → z ≡ drop (length i + length f) k → d ≡ alike z t → m ≡ both b d → n ≡ both a m →
      n ≡ alike k (key_in p end)
  unfolding key_in
  key_tested {t} et ex ea ey eb ez ed em en =
      en
      ∙ ap₂ both
      (ea ∙ ap (λ (w : List ℕ). alike w i) ex)
      (em
      ∙ ap₂ both
      (eb ∙ ap (λ (w : List ℕ). alike w f) ey)
      (ed ∙ ap (λ (w : List ℕ). alike w t) (ez ∙ sym (drop-drop (length f) (length i) k))))
      ∙ ap (both (alike (take (length i) k) i)) (sym (alike_parts (drop (length i) k) f t))
      ∙ sym (alike_parts k i (f ++ t))
      ∙ ap (alike k)
      (ap₂ ◌++◌ ei
      (ap₂ ◌++◌
      (ef ∙ ap (λ (n : ℕ). part p 6 (n - 6)) ec)
      (et ∙ ap (λ (n : ℕ). part p (n + 4) (end - (n + 4))) ec)))

-- ---- a cell

module _ (s : Settings) (r z k : List ℕ) (first steps : ℕ) (o : Octets r) where
  abbrev here : Cell
  here = cell_of s (length z) r

  abbrev p : List ℕ
  p = packet_in r

  -- it holds a segment, or is none
  unless_held : (Holding s (length z) r → false ≡ within_in next_counter k first steps here) → false ≡ within_in next_counter k first steps here
  unless_held h = ⊎_elim h (λ e. sym (ap (by_segment false (within next_counter k first steps)) e)) (kinds s (length z) r)

  told : Holding s (length z) r → within_in next_counter k first steps here ≡ both (reaches next_counter steps first (counter_in p)) (alike k (key_of p (read_packet s p)))
  unfolding seg_of
  told there =
      ap (within_in next_counter k first steps) there.cell
      ∙ ap (λ (n : ℕ). both (reaches next_counter steps first n) (alike k (key_of p (read_packet s p)))) (sym (held_counter s (length z) r o there))

  pub within_free : {b : ℕ} → b ≡ octet_at r 0 → b ≡ 0 → false ≡ within_in next_counter k first steps here
  within_free {b} e t = unless_held held_it
    where
      held_it : Holding s (length z) r → false ≡ within_in next_counter k first steps here
      held_it h = let w : ◌≡◌ {A = ℕ} 0x4d 0 = ap (λ (x : List ℕ). octet_at x 0) (sym h.row) ∙ sym e ∙ t in absurd (omega arith)

  pub within_apart :
      {x : List ℕ} {m n : ℕ} → m ≡ number 8 k 14 → x ≡ p → n ≡ number 8 x 18 → (m ≡ n → ⊥) → false ≡ within_in next_counter k first steps here
  within_apart {x} em ex en h = unless_held other
    where
      other : Holding s (length z) r → false ≡ within_in next_counter k first steps here
      other there =
          let a : Asked s p (read_packet s p).body.at =
          record { octets = octets_part r 2 (number 2 r 6 + 7) o; accepted = there.accepted; segment = there.segment; body = refl } in
          let e = key_apart k p (read_packet s p).body.at em (en ∙ ap (λ (w : List ℕ). number 8 w 18) ex) h in
          sym
          (told there
          ∙ ap (both (reaches next_counter steps first (counter_in p))) (ap (alike k) (sym (key_asked s p (read_packet s p).body.at a)) ∙ sym e)
          ∙ pick_false (reaches next_counter steps first (counter_in p)))

  module _ {x : List ℕ} {n : ℕ} (ex : x ≡ p) (en : n ≡ counter_in x) where
    counter_is : n ≡ counter_in p
    counter_is = en ∙ ap counter_in ex

    by_counter : {a : Bool} → a ≡ reaches next_counter steps first n → Holding s (length z) r → within_in next_counter k first steps here ≡ both a (alike k (key_of p (read_packet s p)))
    by_counter e there =
        told there
        ∙ ap (λ (w : Bool). both w (alike k (key_of p (read_packet s p))))
        (ap (λ (m : ℕ). reaches next_counter steps first m) (sym counter_is) ∙ sym e)

    pub within_out : {a : Bool} → a ≡ reaches next_counter steps first n → a ≡ false → false ≡ within_in next_counter k first steps here
    within_out e h = unless_held (λ there. sym (by_counter (sym h ∙ e) there))

    module _ {t : Judged} (et : t ≡ judged_of (body_in s r) here) where
      pub within_not : told_held t ≡ false → false ≡ within_in next_counter k first steps here
      within_not h = unless_held (λ there. absurd (not_held (judged_at s (length z) r et there).0 h))

      pub within_same :
          {a b : Bool} → told_held t ≡ true → a ≡ reaches next_counter steps first n → a ≡ true → b ≡ alike k (key_in x (told_body t)) →
          b ≡ within_in next_counter k first steps here
      within_same one ea in_it eb =
          let there = judged_one s (length z) r et one in
          let a : Asked s p (told_body t) =
          record {
            octets = octets_part r 2 (number 2 r 6 + 7) o;
            accepted = there.accepted;
            segment = there.segment;
            body = (judged_at s (length z) r et there).1.0;
          } in
          eb
          ∙ ap (λ (w : List ℕ). alike k (key_in w (told_body t))) ex
          ∙ ap (alike k) (key_asked s p (told_body t) a)
          ∙ sym (by_counter (sym in_it ∙ ea) there)
