-- Which messages demand 3 speaks of, in plain numbers: header values in range, at most 256 octets of secondary header with the counter,
-- 2 to 4,096 bodies of octets, none empty and of any lengths, any counter of 32 bits to start from, and 10 + H octets and each body fit a
-- cell after its mark.
-- Assumes nothing.
use Prim.Native.Nat.{ℕ, suc, ◌+◌, ◌≤◌, ◌<◌}
use mathlib.Core.Path.{◌≡◌, ap, sym, ◌∙◌, subst}
use mathlib.Core.Bool.{Bool, true, false}
use mathlib.Core.List.{List, []}
use native.Mathlib.Omega.{arith}
use lib.ListN.{length, get_or}
use lib.Dec.{eqb}
use Rattle.octets.specs.Octets.{pick, Octets, most32}
use Rattle.walk.specs.declared.Settings.{Settings}
use Rattle.packet.specs.Format.{Opt, counter_octets, header_most, packet_most, SettingsInRange, HeadInRange, InRange}
use Rattle.packet.specs.Numbers.{segments_most}
use Rattle.format.proofs.Frame.{packet_long}
use Rattle.format.proofs.Back.{data_long}
use Rattle.format.proofs.Stretches.{counter_long, secondary_long}
use Rattle.demand3.specs.Sendings.{Sending, flags_in, many_of, start_of, values_at, packet_with, header_size, IsCut, counter_in}
use Rattle.demand3.proofs.ReadAs.{flags_segment}
use Rattle.sender.proofs.Stepping.{steps_counter}

flags_top : (n i : ℕ) → flags_in n i < 4
unfolding flags_in
flags_top n i = go (eqb i 0) (eqb (suc i) n)
  where
    go : (a b : Bool) → pick a 1 (pick b 2 0) < 4
    go true b = omega arith
    go false true = omega arith
    go false false = omega arith

module _ (s : Settings) (m : Sending) where
  abbrev pub part_of : ℕ → List ℕ
  part_of i = get_or m.bodies i []

  counter_four : (i c : ℕ) → length (counter_octets (values_at s m i c)) ≡ 4
  counter_four i c = counter_long (values_at s m i c) ∙ ap (λ (b : Bool). pick b 4 0) (flags_segment (many_of s m) i)

  -- 10 + H octets and the body
  pub segment_long : (i c : ℕ) → length (packet_with s m i c) ≡ 10 + header_size s m + length (part_of i)
  segment_long i c =
      packet_long s (values_at s m i c)
      ∙ omega (arith, data_long s (values_at s m i c), secondary_long s (values_at s m i c), counter_four i c)

  pub any_cut : (Z : ℕ) → Z ≤ 2 + packet_most → SettingsInRange s → HeadInRange s m.head → header_size s m + 4 ≤ header_most →
      2 ≤ many_of s m → many_of s m ≤ segments_most → start_of s m ≤ most32 →
      ((i : ℕ) → i < many_of s m → Octets (part_of i) × (1 ≤ length (part_of i)) × (12 + header_size s m + length (part_of i) ≤ Z)) →
      IsCut s Z m
  any_cut Z top t h long two few fit parts =
      record { many = two; most = few; range = in_range; fits = λ i l. omega (arith, segment_long i 0, (parts i l).2) }
    where
      in_range : (i : ℕ) → i < many_of s m → InRange s (values_at s m i 0)
      in_range i l =
          record {
            settings = t;
            head = h;
            flags = flags_top (many_of s m) i;
            sequence_count = omega arith;
            counter =
                subst (λ (b : Bool). Opt b (λ x. x < 4294967296) 0 (counter_in s m i)) (sym (flags_segment (many_of s m) i))
                (omega (arith, steps_counter i (start_of s m) fit));
            body = (parts i l).0;
            packet = omega (arith, segment_long i 0, (parts i l).2);
            header = omega (arith, secondary_long s (values_at s m i 0), counter_four i 0);
            some = λ e. (parts i l).1;
          }
