-- Cutting uses the fewest packets (M-5): no list of accepted packets of a header that carries a body under the limit P is shorter than
-- the formula's count. Nothing is asked of the header or the limit: where the formula gives 12 or 24, no list
-- carries the body at all.
-- Assumes nothing.
use Prim.Native.Nat.{ℕ, suc, ◌+◌, ◌-◌, ◌*◌, ◌/◌, ◌≤◌, ◌<◌}
use mathlib.Core.Path.{◌≡◌, ap, sym, ◌∙◌}
use mathlib.Core.Logic.{⊎_elim}
use mathlib.Core.Bool.{Bool, true, false}
use mathlib.Core.List.{List, [], ◌∷◌, ◌++◌}
use native.Mathlib.Omega.{arith}
use native.Mathlib.Nat.{div-lt_iff_lt-mul}
use lib.ListN.{length, length-append}
use borrow.Author.Tests.{leb-false}
use Rattle.octets.specs.Octets.{pick}
use Rattle.octets.proofs.Lists.{bool}
use Rattle.octets.proofs.Has.{part_length}
use Rattle.walk.specs.declared.Settings.{Settings}
use Rattle.fields.specs.Form.{joined}
use Rattle.packet.specs.Format.{Head, Each, identification, header_octets, header_most}
use Rattle.packet.specs.Reading.{segmented, counter_size, read_packet}
use Rattle.format.specs.Told.{values_of}
use Rattle.format.proofs.Frame.{identification_long}
use Rattle.format.proofs.Accepting.{accepted}
use Rattle.cut.specs.Cutting.{single, chunk, rounded, packets}
use Rattle.fewest.specs.Carrying.{body_of, Carried, OneWhole, AllSegments, Carries}
use Rattle.fewest.proofs.Lists.{each_both, joined_most_lem}

-- rounding up gives no more than any number that is enough
pub rounded_least : (B C n : ℕ) → 1 ≤ C → B ≤ n * C → rounded B C ≤ n
unfolding rounded
rounded_least B C n h l =
    let p : 0 < C = omega arith in
    let k : (suc n) * C ≡ n * C + C = omega arith in
    let z : (B + (C - 1)) / C < suc n = (div-lt_iff_lt-mul {k = C} {x = B + (C - 1)} {y = suc n} p).1 (omega arith) in
    omega arith

module _ (s : Settings) (hd : Head) (P : ℕ) where
  abbrev H : ℕ
  H = length (header_octets s hd)

  -- how a packet's octets are shared out: six, the header, the counter, the body
  pub record Parts (p : List ℕ) : Type 0 where
    pub total : 6 + H + counter_size p + length (body_of s p) ≡ length p
    pub limit : length p ≤ P
    pub body_some : segmented p ≡ true → 1 ≤ length (body_of s p)
    pub header : H + counter_size p ≤ header_most

  pub parts : (p : List ℕ) → Carried s hd P p → Parts p
  parts p c =
      let a = accepted s p c.octets c.accepted in
      let k : identification (values_of p (read_packet s p)).head ++ header_octets s (values_of p (read_packet s p)).head ≡ identification hd ++ header_octets s hd =
      sym a.key ∙ c.key in
      let l = ap length k in
      let x = length-append (identification (values_of p (read_packet s p)).head) (header_octets s (values_of p (read_packet s p)).head) in
      let y = length-append (identification hd) (header_octets s hd) in
      let i = identification_long (values_of p (read_packet s p)).head in
      let j = identification_long hd in
      let n : (read_packet s p).h ≡ H = omega (arith, a.h_is) in
      let b : length (body_of s p) ≡ (read_packet s p).body.length =
      part_length p (read_packet s p).body.at (read_packet s p).body.length (omega (arith, a.body_end)) in
      record {
        total = omega (arith, a.body_end, a.body_place);
        limit = c.limit;
        body_some = λ e. omega (arith, a.body_some e);
        header = omega (arith, a.h_top);
      }

  -- a segment's body is at most C, and C is not 0
  segment_most : (p : List ℕ) → Carried s hd P p → segmented p ≡ true → length (body_of s p) ≤ chunk P H
  segment_most p c e =
      let k = parts p c in
      let n : counter_size p ≡ 4 = ap (λ (b : Bool). pick b 4 0) e in
      omega (arith, k.total, k.limit)

  segment_some : (p : List ℕ) → Carried s hd P p → segmented p ≡ true → 1 ≤ chunk P H
  segment_some p c e = omega (arith, segment_most p c e, (parts p c).body_some e)

  -- a whole packet with all of the body
  whole_fits : (p : List ℕ) → Carried s hd P p → segmented p ≡ false → 6 + H + length (body_of s p) ≤ P
  whole_fits p c e =
      let k = parts p c in
      let n : counter_size p ≡ 0 = ap (λ (b : Bool). pick b 4 0) e in
      omega (arith, k.total, k.limit)

  -- ---- lists of packets

  one_fits :
      (ps : List (List ℕ)) → Each (Carried s hd P) ps → OneWhole ps → 6 + H + length (joined (body_of s) ps) ≤ P
  unfolding Each joined
  one_fits [] h o = absurd (omega (arith, o.one))
  one_fits (p ∷ []) h o =
      let w = whole_fits p h.0 o.whole.0 in
      omega (arith, length-append (body_of s p) [])
  one_fits (p ∷ q ∷ ps) h o = absurd (omega (arith, o.one))

  first_some : (ps : List (List ℕ)) → 1 ≤ length ps → Each (Carried s hd P) ps → AllSegments ps → 1 ≤ chunk P H
  unfolding Each
  first_some [] l h o = absurd (omega arith)
  first_some (p ∷ ps) l h o = segment_some p h.0 o.0

  first_header : (ps : List (List ℕ)) → 1 ≤ length ps → Each (Carried s hd P) ps → H ≤ header_most
  unfolding Each
  first_header [] l h = absurd (omega arith)
  first_header (p ∷ ps) l h = omega (arith, (parts p h.0).header)

  first_counted : (ps : List (List ℕ)) → 1 ≤ length ps → Each (Carried s hd P) ps → AllSegments ps → H + 4 ≤ header_most
  unfolding Each
  first_counted [] l h o = absurd (omega arith)
  first_counted (p ∷ ps) l h o =
      let n : counter_size p ≡ 4 = ap (λ (b : Bool). pick b 4 0) o.0 in
      omega (arith, (parts p h.0).header)

  all_most : (ps : List (List ℕ)) → Each (Carried s hd P) ps → AllSegments ps → length (joined (body_of s) ps) ≤ length ps * chunk P H
  all_most ps h o = joined_most_lem (body_of s) (chunk P H) ps (each_both segment_most ps h o)

  module _ (body : List ℕ) (ps : List (List ℕ)) (c : Carries s hd body P ps) where
    -- cutting is needed, so all of them are segments
    pub must_cut : single P H (length body) ≡ false → AllSegments ps
    must_cut e =
        ⊎_elim
        (λ o.
        let k = one_fits ps c.each o in
        let l = leb-false (6 + H + length body) P e in
        absurd (omega (arith, ap length c.bodies)))
        (λ o. o)
        c.kinds

    -- and then C is not 0: where the formula gives 24, no list carries the body
    pub must_have_room : single P H (length body) ≡ false → 1 ≤ chunk P H
    must_have_room e = first_some ps c.some c.each (must_cut e)

    -- nor where it gives 12
    pub must_have_header : pick (single P H (length body)) H (H + 4) ≤ header_most
    must_have_header =
        ⊎_elim
        (λ e. rw e (first_header ps c.some c.each))
        (λ e. rw e (first_counted ps c.some c.each (must_cut e)))
        (bool (single P H (length body)))

    -- the formula's count is no more than the packets of any list that carries the body
    pub fewest : packets P H (length body) ≤ length ps
    unfolding packets
    fewest = ⊎_elim (λ e. rw e c.some) (λ e. rw e (cutting e)) (bool (single P H (length body)))
      where
        cutting : single P H (length body) ≡ false → rounded (length body) (chunk P H) ≤ length ps
        cutting e =
            let k = all_most ps c.each (must_cut e) in
            rounded_least (length body) (chunk P H) (length ps) (must_have_room e) (omega (arith, ap length c.bodies))
