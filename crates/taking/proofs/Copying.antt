-- A key and a body to a place of the output.
-- Assumes nothing.
use Prim.Native.Nat.{ℕ, ◌+◌, ◌-◌, ◌≤◌}
use mathlib.Core.Path.{◌≡◌, refl, ap, ap₂, sym, ◌∙◌}
use mathlib.Core.Bool.{Bool}
use mathlib.Core.List.{List, [], ◌∷◌, ◌++◌, append-nil}
use native.Mathlib.Omega.{arith}
use lib.ListN.{length, drop, length-append, length-take}
use lib.Seq.{sets}
use Rattle.octets.specs.Octets.{pick, part}
use Rattle.octets.specs.Laying.{laid, together, Lays}
use Rattle.octets.proofs.Laying.{lays_as, lays_both, lays_all, one_together}
use Rattle.walk.specs.declared.Settings.{Settings}
use Rattle.packet.specs.Answer.{Header}
use Rattle.packet.specs.Reading.{read_packet, counter_size}
use Rattle.packet.specs.Key.{counter_place, key_of}
use Rattle.format.proofs.Accepting.{accepted}
use Rattle.cells.specs.Inner.{place_in, Asked}
use Rattle.cells.proofs.Held.{place_least}
use Rattle.cells.proofs.Counters.{place_told}

-- ---- a list that has room is laid whole

pub laid_there :
    {out x y l : List ℕ} {at r : ℕ} → y ≡ x → Lays (laid out at) (y ∷ []) l r → at + length x ≤ length out →
    (r ≡ at + length x) × (l ≡ sets out at x)
laid_there {out} {x} {y} {l} {at} {r} e a h =
    let n = one_together x in
    let m : at + length (together (x ∷ [])) ≤ length out = omega (arith, ap length n) in
    let b = lays_all (lays_as e a) m in
    (b.0 ∙ ap (λ (w : List ℕ). at + length w) n, b.1 ∙ ap (sets out at) n)

-- ---- the key

-- by the places
spread : (p : List ℕ) (h : Header) (c e : ℕ) → counter_place h ≡ c → counter_size p ≡ 4 → e ≡ h.body.at →
    key_of p h ≡ part p 0 2 ++ (part p 6 (c - 6) ++ part p (c + 4) (e - (c + 4)))
unfolding key_of
spread p h c e a b d = rw (a, b, d) refl

three : (x y z : List ℕ) → together (x ∷ y ∷ z ∷ []) ≡ x ++ (y ++ z)
unfolding together
three x y z = ap (λ (w : List ℕ). x ++ (y ++ w)) (append-nil z)

module _ (s : Settings) (q : List ℕ) (body_at : ℕ) (a : Asked s q body_at) {c : ℕ} (ec : c ≡ place_in q) where
  place_is : counter_place (read_packet s q) ≡ c
  unfolding place_in
  place_is = place_told s q a.octets a.accepted ∙ sym ec

  four : counter_size q ≡ 4
  four = ap (λ (b : Bool). pick b 4 0) a.segment

  key_spread : key_of q (read_packet s q) ≡ part q 0 2 ++ (part q 6 (c - 6) ++ part q (c + 4) (body_at - (c + 4)))
  key_spread = spread q (read_packet s q) c body_at place_is four a.body

  -- the counter stands where the octets around it have room
  pub key_places : (6 ≤ c) × ((c ≤ 29) × (c + 4 ≤ body_at))
  key_places =
      let p = place_least q in
      let x = accepted s q a.octets a.accepted in
      (omega (arith, p.0), (omega (arith, p.1), omega (arith, x.counter_end, place_is, four, a.body)))

  -- the key has at most the octets around it
  pub key_long_lem : length (key_of q (read_packet s q)) ≤ 2 + ((c - 6) + (body_at - (c + 4)))
  key_long_lem =
      let x = part q 0 2 in
      let y = part q 6 (c - 6) in
      let z = part q (c + 4) (body_at - (c + 4)) in
      omega (
        arith,
        ap length key_spread,
        length-append x (y ++ z),
        length-append y z,
        length-take 2 (drop 0 q),
        length-take (c - 6) (drop 6 q),
        length-take (body_at - (c + 4)) (drop (c + 4) q),
      )

  pub key_put :
      {out l m n x y z : List ℕ} {i j r : ℕ} → length (key_of q (read_packet s q)) ≤ length out → x ≡ part q 0 2 → y ≡ part q 6 (c - 6) →
      z ≡ part q (c + 4) (body_at - (c + 4)) → Lays (laid out 0) (x ∷ []) l i → Lays (laid l i) (y ∷ []) m j → Lays (laid m j) (z ∷ []) n r →
      (r ≡ length (key_of q (read_packet s q))) × (n ≡ sets out 0 (key_of q (read_packet s q)))
  key_put {out} {l} {m} {n} {x} {y} {z} {i} {j} {r} h ex ey ez u v w =
      let e : together (x ∷ y ∷ z ∷ []) ≡ key_of q (read_packet s q) = three x y z ∙ ap₂ ◌++◌ ex (ap₂ ◌++◌ ey ez) ∙ sym key_spread in
      let k : 0 + length (together (x ∷ y ∷ z ∷ [])) ≤ length out = omega (arith, ap length e) in
      let b = lays_all (lays_both (lays_both u v) w) k in
      (omega (arith, b.0, ap length e), b.1 ∙ ap (sets out 0) e)
