-- The run of `Day` meets every hypothesis of demand 3 (J-8): each packet may come, the messages are cut and apart, and there is a free cell before
-- each new segment.
-- Assumes nothing.
use Prim.Native.Nat.{ℕ, ◌<◌}
use mathlib.Core.Path.{◌≡◌, refl, sym, ◌∙◌, subst}
use mathlib.Core.Logic.{◌≢◌, ◌⊎◌, inl, inr}
use mathlib.Core.Bool.{true}
use native.Mathlib.Omega.{arith}
use Rattle.octets.specs.Octets.{alike}
use Rattle.packet.specs.Numbers.{next_counter, steps_most}
use Rattle.cells.specs.Segments.{carries, same_rest, reaches}
use Rattle.cells.specs.Order.{cell_size}
use Rattle.cells.specs.Messages.{look, role_of, bodies, rest_from, run_from, pick_in, among}
use Rattle.demand3.specs.Cells.{put, has_free, recorded, spans, forgotten}
use Rattle.demand3.specs.Traffic.{empty, taken_from, stepped, after, Room as CellRoom}
use Rattle.demand3.specs.Sendings.{Sending, many_of, segment_at, key_in, IsCut}
use Rattle.demand3.specs.Presupposed.{Traffic, Given}
use Rattle.demand3.proofs.Checks.{room_in, room_by}
use Rattle.demand3.proofs.Acts.{EachPacket, each_packet, act_events, room_told}
use Rattle.demand3.proofs.Day.{settings, three, two, messages, three_cut, two_cut}
use Rattle.demand3.proofs.DayComes.{one_of, Fine, three_fine, two_fine, single_fine, stub_fine, huge_fine, other_fine, no_counter_lem}
use Rattle.demand3.proofs.DayRun.{day, day_acts_lem, day_acts, events_are, in_use_lem, one}

abbrev Z : ℕ
Z = cell_size

pub fine : EachPacket Fine day
fine = (
  three_fine 2 (omega arith) 2 (omega arith),
  (
    two_fine 0 (omega arith) 3 (omega arith),
    (
      stub_fine,
      (
        single_fine,
        (
          three_fine 0 (omega arith) 0 (omega arith),
          (
            three_fine 2 (omega arith) 77 (omega arith),
            (
              huge_fine,
              (
                three_fine 1 (omega arith) 1 (omega arith),
                (
                  three_fine 1 (omega arith) 78 (omega arith),
                  (
                    three_fine 1 (omega arith) 79 (omega arith),
                    (
                      other_fine,
                      (
                        single_fine,
                        (
                          three_fine 0 (omega arith) 83 (omega arith),
                          (
                            two_fine 1 (omega arith) 4 (omega arith),
                            (
                              two_fine 0 (omega arith) 84 (omega arith),
                              (
                                three_fine 1 (omega arith) 85 (omega arith),
                                (
                                  three_fine 0 (omega arith) 80 (omega arith),
                                  (three_fine 1 (omega arith) 81 (omega arith), (three_fine 2 (omega arith) 82 (omega arith), tt)),
                                ),
                              ),
                            ),
                          ),
                        ),
                      ),
                    ),
                  ),
                ),
              ),
            ),
          ),
        ),
      ),
    ),
  ),
)

pub traffic : Traffic settings Z messages day
traffic =
    record {
      cut = λ m h. cut' m (one_of m h);
      apart = λ m w h k. apart' m w (one_of m h) (one_of w k);
      octets = λ p h. (each_packet Fine day fine p h).0;
      packets = λ p h. (each_packet Fine day fine p h).1;
    }
  where
    cut' : (m : Sending) → (m ≡ three) ⊎ (m ≡ two) → IsCut settings Z m
    cut' m (inl e) = subst (IsCut settings Z) (sym e) three_cut
    cut' m (inr e) = subst (IsCut settings Z) (sym e) two_cut

    Apart : Sending → Sending → Type 0
    Apart m w =
        (m ≡ w) ⊎ (key_in settings m ≢ key_in settings w) ⊎
        ((i j : ℕ) → i < many_of settings m → j < many_of settings w → (segment_at settings m i).counter ≢ (segment_at settings w j).counter)

    apart' : (m w : Sending) → (m ≡ three) ⊎ (m ≡ two) → (w ≡ three) ⊎ (w ≡ two) → Apart m w
    apart' m w (inl e) (inl f) = inl (e ∙ sym f)
    apart' m w (inl e) (inr f) =
        subst (λ (x : Sending). Apart x w) (sym e) (subst (Apart three) (sym f) (inr (inr no_counter_lem)))
    apart' m w (inr e) (inl f) =
        subst (λ (x : Sending). Apart x w) (sym e)
        (subst (Apart two) (sym f) (inr (inr (λ i j a b c. no_counter_lem j i b a (sym c)))))
    apart' m w (inr e) (inr f) = inl (e ∙ sym f)

has_room : room_in next_counter steps_most (empty 4) (act_events (empty 4) day_acts) ≡ true
unfolding act_events room_in after stepped taken_from look carries same_rest alike put has_free pick_in run_from rest_from role_of bodies among next_counter recorded spans
    reaches forgotten
has_room = refl

-- J-8: a free cell before each new segment (DEMANDS 3.5), with fewer cells than segments
pub given : Given settings Z 4 messages day
given =
    record {
      traffic = traffic;
      room =
          room_told settings Z 4 one in_use_lem day traffic.octets
          (subst (CellRoom next_counter steps_most (empty 4)) (sym (events_are day traffic.octets day_acts day_acts_lem))
          (room_by next_counter steps_most (empty 4) (act_events (empty 4) day_acts) has_room));
    }
