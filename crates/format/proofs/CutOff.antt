-- A written packet that is cut off inside its secondary header, its length field set right, is refused by 6, and told is where the format
-- begins the field that is cut.
-- Assumes nothing.
use Prim.Native.Nat.{ℕ, ◌+◌, ◌-◌, ◌*◌, ◌/◌, ◌≤◌, ◌<◌}
use mathlib.Core.Path.{◌≡◌, refl, ap, sym, ◌∙◌, subst}
use mathlib.Core.List.{List, ◌++◌}
use mathlib.Core.Bool.{Bool, true, false, not}
use native.Mathlib.Omega.{arith}
use lib.ListN.{length, take, length-append, length-take}
use lib.Seq.{take-append-le}
use lib.Dec.{eqb, ltb}
use Rattle.octets.specs.Octets.{pick, Octets, wide, number, octet_at}
use Rattle.octets.proofs.Has.{Has, has_self, has_first, has_second, octets_append, octets_take}
use Rattle.octets.proofs.Numbers.{wide_length, wide_octets, number_back}
use Rattle.walk.specs.declared.Settings.{Settings}
use Rattle.walk.specs.Walk.{goes, refused, check, header_bound}
use Rattle.walk.proofs.Steps.{check_refused}
use Rattle.packet.specs.Format.{Values, segment, identification, secondary_octets, data_octets, octets_of, InRange}
use Rattle.packet.specs.Began.{secondary_fields, began, cut_off}
use Rattle.packet.specs.Reading.{segmented, start_at, texts_at, body_test, ended, refusal_of, refused_header, read_packet}
use Rattle.format.proofs.Secondary.{secondary_f}
use Rattle.format.proofs.Pairs.{pair_form, pair_fit}
use Rattle.format.proofs.Start.{Opens, start_back}
use Rattle.format.proofs.Frame.{word_is, secondary_plain}
use Rattle.format.proofs.Only.{told_step}
use Rattle.format.proofs.Cut.{all, Ends}
use Rattle.format.proofs.CutFields.{header_ends, fields_octets}

-- the fields one after another are the secondary header
pub fields_whole : (s : Settings) (v : Values) → all (secondary_fields s v) ≡ secondary_octets s v
fields_whole s v = fields_octets s header_bound (octets_of s v) v ∙ sym (pair_form s header_bound (octets_of s v) v)

module _ (s : Settings) (v : Values) (r : InRange s v) (m : ℕ) (some : 1 ≤ m) (inside : m < length (secondary_octets s v)) where
  abbrev first : ℕ
  first = v.head.packet_type * 4096 + 2048 + v.head.apid

  abbrev second : ℕ
  second = v.flags * 16384 + v.sequence_count

  abbrev rest : List ℕ
  rest = take m (secondary_octets s v)

  abbrev q : List ℕ
  q = cut_off m (octets_of s v)

  -- its three words and what is left of the secondary header
  shape : q ≡ wide 2 first ++ (wide 2 second ++ (wide 2 (m - 1) ++ rest))
  unfolding cut_off octets_of identification data_octets wide
  shape =
      ap (λ (l : List ℕ). wide 2 first ++ (wide 2 second ++ (wide 2 (m - 1) ++ l)))
      (take-append-le m (secondary_octets s v) v.body (omega arith))

  rest_long : length rest ≡ m
  rest_long = length-take m (secondary_octets s v) ∙ (omega arith)

  long : length q ≡ 6 + m
  long = ap length shape ∙ simp (length-append, wide_length, rest_long) (omega arith)

  has0 : Has q 0 (wide 2 first ++ (wide 2 second ++ (wide 2 (m - 1) ++ rest)))
  has0 = subst (λ (x : List ℕ). Has q 0 x) shape (has_self q)

  has2 : Has q 2 (wide 2 second ++ (wide 2 (m - 1) ++ rest))
  unfolding wide
  has2 = has_second (wide 2 first) _ has0

  has4 : Has q 4 (wide 2 (m - 1) ++ rest)
  unfolding wide
  has4 = has_second (wide 2 second) _ has2

  has6 : Has q 6 rest
  unfolding wide
  has6 = has_second (wide 2 (m - 1)) _ has4

  w0 : number 2 q 0 ≡ first
  w0 = number_back 2 q 0 first (omega (arith, r.head.packet_type, r.head.apid)) (has_first (wide 2 first) _ has0)

  w2 : number 2 q 2 ≡ second
  w2 = number_back 2 q 2 second (omega (arith, r.flags, r.sequence_count)) (has_first (wide 2 second) _ has2)

  w4 : number 2 q 4 ≡ m - 1
  w4 = number_back 2 q 4 (m - 1) (omega (arith, r.header)) (has_first (wide 2 (m - 1)) _ has4)

  plain : Octets q
  plain =
      subst Octets (sym shape)
      (octets_append (wide 2 first) _ (wide_octets 2 first)
      (octets_append (wide 2 second) _ (wide_octets 2 second)
      (octets_append (wide 2 (m - 1)) _ (wide_octets 2 (m - 1)) (octets_take m (secondary_octets s v) (secondary_plain s v r)))))

  opens : Opens s q
  opens =
      record {
        settings = r.settings;
        six = omega (arith, long);
        version = omega (arith, w0, word_is q 0, r.head.packet_type, r.head.apid, plain 1);
        second = omega (arith, w0, word_is q 0, r.head.packet_type, r.head.apid, plain 1);
        idle = λ e. omega (arith, w0, r.head.packet_type, r.head.apid);
        long = omega (arith, w4, long);
      }

  start : start_at s q ≡ goes 6
  start = start_back s q opens

  flag : segment v.flags ≡ segmented q
  flag =
      let f : v.flags ≡ octet_at q 2 / 64 = omega (arith, w2, word_is q 2, r.flags, r.sequence_count, plain 3) in
      ap (λ (n : ℕ). not (eqb n 3)) f

  abbrev place : ℕ
  place = began (secondary_fields s v) m

  ends : Ends header_bound q 6 (secondary_octets s v)
  ends =
      let n = long in
      let k : length q - 6 ≡ m = omega arith in
      record {
        from = omega arith;
        short = omega arith;
        has = subst (λ (j : ℕ). Has q 6 (take j (secondary_octets s v))) (sym k) has6;
      }

  step : (secondary_f s header_bound q (segment v.flags)).step (goes 6) ≡ refused (6 + place) 6
  step =
      let e = pair_form s header_bound q v in
      let n = long in
      let k : length q - 6 ≡ m = omega arith in
      header_ends s header_bound q v 6 (pair_fit s header_bound q v r.head r.counter) (rw (← e) (omega (arith, r.header), omega (arith, r.header)))
      (subst (λ (l : List ℕ). Ends header_bound q 6 l) e ends)
      ∙ ap (λ (j : ℕ). refused (6 + began (secondary_fields s v) j) 6) k

  texts : (texts_at s q).walk ≡ refused (6 + place) 6
  texts =
      sym (told_step s q)
      ∙ ap (secondary_f s header_bound q (segmented q)).step start
      ∙ ap (λ (b : Bool). (secondary_f s header_bound q b).step (goes 6)) (sym flag)
      ∙ step

  end : ended s q ≡ refused (6 + place) 6
  unfolding body_test
  end = ap (body_test q) texts ∙ same (segmented q)
    where
      same : (b : Bool) → pick b (check (ltb (6 + place) (length q)) 14 (refused (6 + place) 6)) (refused (6 + place) 6) ≡ refused (6 + place) 6
      same true = check_refused (ltb (6 + place) (length q)) 14 (refused (6 + place) 6) refl
      same false = refl

  -- 6, and where the field begins that is cut
  pub cut_off_lem : read_packet s (cut_off m (octets_of s v)) ≡ refused_header (record { number = 6; octets = 0; place = began (secondary_fields s v) m })
  unfolding read_packet refusal_of
  cut_off_lem =
      let k : 6 + place - 6 ≡ place = omega arith in
      rw end (ap (λ (n : ℕ). refused_header (record { number = 6; octets = 0; place = n })) k)
