-- An accepted packet: the values that reading tells are in range, and the packet is their octets. By the laws of the secondary
-- header's field and of the primary header.
-- Assumes nothing.
use Prim.Native.Nat.{ℕ, ◌+◌, ◌-◌, ◌≤◌, ◌<◌}
use mathlib.Core.Path.{◌≡◌, refl, ap, sym, ◌∙◌, subst}
use mathlib.Core.List.{List}
use mathlib.Core.Bool.{true}
use native.Mathlib.Omega.{arith}
use lib.ListN.{length, length-append}
use Rattle.octets.specs.Octets.{Octets, part}
use Rattle.octets.proofs.Has.{Has, has_inside, has_both, has_part, part_length, octets_part}
use Rattle.octets.proofs.Numbers.{number_top}
use Rattle.walk.specs.declared.Settings.{Settings}
use Rattle.walk.specs.Walk.{Reading, goes, going, header_end, header_bound}
use Rattle.packet.specs.Format.{Values, segment, secondary_octets, data_octets, octets_of, InRange}
use Rattle.packet.specs.FixedPart.{after_sdu, after_area, after_service, after_operation, after_version, after_session}
use Rattle.packet.specs.FixedPart.{after_secondary, after_qualifier, after_transaction, after_presence, fixed_of, present_of}
use Rattle.packet.specs.Reading.{segmented, primary_of, ids_of, texts_of, start_at, texts_at, ended, accepted_header}
use Rattle.format.specs.Told.{head_of, values_of}
use Rattle.format.proofs.Field.{Sound, Took, took_at}
use Rattle.format.proofs.Secondary.{secondary_f}
use Rattle.format.proofs.Pairs.{pair_of, pair_form, fit_counter, fit_head}
use Rattle.format.proofs.Start.{Opens, start_only, body_only}
use Rattle.format.proofs.Frame.{Front, written}

-- what is left of a slice
pub rest_has :
    (p : List ℕ) (i n : ℕ) → i ≡ n → n ≤ length p →
    Has p n (part p i (length p - i)) × (n + length (part p i (length p - i)) ≡ length p)
rest_has p i n e l =
    let c = part_length p n (length p - n) (omega arith) in
    rw e (has_part p n (length p - n) (omega arith), omega arith)

module _ (s : Settings) (p : List ℕ) where
  -- the values that reading tells, if it tells any
  abbrev pub told : Values
  told = values_of p (accepted_header s p)

  pub told_pair : (secondary_f s header_bound p (segmented p)).value (start_at s p) ≡ pair_of told
  unfolding values_of head_of accepted_header primary_of fixed_of present_of ids_of texts_of after_sdu after_area after_service after_operation after_version
      after_session after_secondary after_qualifier after_transaction after_presence
  told_pair = refl

  pub told_step : (secondary_f s header_bound p (segmented p)).step (start_at s p) ≡ (texts_at s p).walk
  unfolding fixed_of present_of ids_of texts_of after_sdu after_area after_service after_operation after_version after_session after_secondary after_qualifier after_transaction after_presence
  told_step = refl

  pub told_front : Front p told
  unfolding values_of head_of accepted_header primary_of
  told_front = record { packet_type = refl; apid = refl; flags = refl; sequence_count = refl }

  pub told_segment : segment told.flags ≡ segmented p
  unfolding values_of head_of accepted_header primary_of
  told_segment = refl

  told_form : secondary_octets s told ≡ (secondary_f s header_bound p (segmented p)).form ((secondary_f s header_bound p (segmented p)).value (start_at s p))
  unfolding values_of head_of accepted_header primary_of fixed_of present_of ids_of texts_of after_sdu after_area after_service after_operation after_version
      after_session after_secondary after_qualifier after_transaction after_presence
  told_form = pair_form s header_bound p told

  told_fit :
      (secondary_f s header_bound p (segmented p)).Fit ((secondary_f s header_bound p (segmented p)).value (start_at s p)) →
      (secondary_f s header_bound p (segment told.flags)).Fit (pair_of told)
  unfolding values_of head_of accepted_header primary_of fixed_of present_of ids_of texts_of after_sdu after_area after_service after_operation after_version
      after_session after_secondary after_qualifier after_transaction after_presence
  told_fit f = f

  pub start_sound : Sound header_bound p (start_at s p)
  start_sound e = let d = start_only s p e in rw d.0 (d.1.six, omega arith)

  -- what an accepted packet gives
  pub record Good : Type 0 where
    pub opens : Opens s p
    pub has : Has p 6 (secondary_octets s told)
    pub limit : 6 + length (secondary_octets s told) ≤ header_end
    pub ends : (ended s p).at ≡ 6 + length (secondary_octets s told)
    pub fit : (secondary_f s header_bound p (segment told.flags)).Fit (pair_of told)
    pub some : segmented p ≡ true → (ended s p).at < length p

  told_took :
      Octets p → going (texts_at s p).walk ≡ true →
      Took header_bound p (start_at s p) (texts_at s p).walk (secondary_octets s told) × (secondary_f s header_bound p (segment told.flags)).Fit (pair_of told)
  unfolding values_of head_of accepted_header primary_of fixed_of present_of ids_of texts_of after_sdu after_area after_service after_operation after_version
      after_session after_secondary after_qualifier after_transaction after_presence
  told_took o g =
      let c = (secondary_f s header_bound p (segmented p)).only o (start_at s p) start_sound g in
      (subst (λ (l : List ℕ). Took header_bound p (start_at s p) (texts_at s p).walk l) (sym told_form) c.0, told_fit c.1)

  took_good :
      {w : Reading} (l : List ℕ) → start_at s p ≡ goes 6 → Took header_bound p (start_at s p) w l →
      Has p 6 l × ((6 + length l ≤ header_end) × (w.at ≡ 6 + length l))
  took_good l e t =
      let x : (start_at s p).at ≡ 6 = ap (λ (w : Reading). w.at) e in
      (rw x at t.has, (rw x at t.limit, took_at header_bound p l t ∙ ap (λ (i : ℕ). i + length l) x))

  pub good : Octets p → going (ended s p) ≡ true → Good
  good o g =
      let b = body_only s p (texts_at s p).walk g in
      let c = told_took o b.went in
      let d = start_only s p c.0.went in
      let e = took_good (secondary_octets s told) d.0 c.0 in
      let y : (ended s p).at ≡ (texts_at s p).walk.at = ap (λ (w : Reading). w.at) b.same in
      record {
        opens = d.1;
        has = e.0;
        limit = e.1.0;
        ends = y ∙ e.1.1;
        fit = c.1;
        some = λ q. rw y (b.some q);
      }

  told_data : Good → Has p 6 (data_octets s told) × (6 + length (data_octets s told) ≡ length p)
  unfolding values_of accepted_header data_octets
  told_data k =
      let m = has_inside (secondary_octets s told) k.has in
      let r = rest_has p (ended s p).at (6 + length (secondary_octets s told)) k.ends m in
      (has_both (secondary_octets s told) told.body k.has r.0, simp length-append (omega (arith, r.1)))

  pub told_written : Octets p → Good → octets_of s told ≡ p
  told_written o k = let d = told_data k in written s p told o k.opens told_front d.0 d.1

  told_body : Good → (length told.body ≡ length p - (ended s p).at) × ((ended s p).at ≤ length p)
  unfolding values_of accepted_header
  told_body k =
      let n = k.ends in
      let m = has_inside (secondary_octets s told) k.has in
      (part_length p (ended s p).at (length p - (ended s p).at) (omega arith), omega arith)

  told_octets : Octets p → Octets told.body
  unfolding values_of accepted_header
  told_octets o = octets_part p (ended s p).at (length p - (ended s p).at) o

  pub told_range : Octets p → Good → InRange s told
  told_range o k =
      let d = k.opens in
      let f = told_front in
      let b = told_body k in
      record {
        settings = d.settings;
        head = fit_head s header_bound p told k.fit (omega (arith, f.packet_type)) (omega (arith, f.apid, d.idle));
        flags = omega (arith, f.flags, o 2);
        sequence_count = omega (arith, f.sequence_count);
        counter = fit_counter s header_bound p told k.fit;
        body = told_octets o;
        packet = rw (told_written o k) (omega (arith, d.long, number_top 2 p 4 o));
        header = omega (arith, k.limit);
        some = λ q. omega (arith, k.some (sym told_segment ∙ q), b.0);
      }
