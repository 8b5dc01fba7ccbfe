-- A run of messages of one sender, each counted by the numbers as the one before left them; refused ones may be among them.
-- Assumes nothing: these are definitions.
use Rattle.std.specs.Prelude.{ℕ, ◌≤◌, ◌≡◌, Bool, List, [], ◌∷◌, ◌++◌, map, length}
use Rattle.octets.specs.Octets.{most32}
use Rattle.walk.specs.declared.Settings.{Settings}
use Rattle.fields.specs.Form.{joined}
use Rattle.packet.specs.Format.{Values, segment, when}
use Rattle.packet.specs.Numbers.{count_at, next_counter}
use Rattle.sender.specs.declared.Sender.{Sender}
use Rattle.sender.specs.Sending.{steps_of}
use Rattle.write.specs.declared.HeaderValues.{HeaderValues}
use Rattle.write.specs.Given.{Lent}
use Rattle.cut.specs.declared.Counted.{Counted}
use Rattle.cut.specs.Cutting.{count_answer, given_at}
use Rattle.fewest.specs.Carrying.{first_of}

-- what a sender is asked to send, with its own settings and limit, by the cutter or by the old one
pub record Message : Type 0 where
  pub old : Bool
  pub settings : Settings
  pub limit : ℕ
  pub values : HeaderValues
  pub texts : Lent
  pub body : List ℕ

-- what the count answers of it
abbrev pub counted : Sender → Message → Counted
counted d m = count_answer m.old m.settings m.limit m.values m.texts (length m.body) d

-- its packets, as many as the count answers: none if it is refused
abbrev pub packets_of : Sender → Message → List Values
packets_of d m =
    first_of (given_at m.settings m.limit m.values m.texts m.body d) (counted d m).count

-- the sender after a run
unfoldable pub after_run : Sender → List Message → Sender
after_run d [] = d
after_run d (m ∷ ms) = after_run (counted d m).sender ms

-- all packets of a run, in their order
unfoldable pub sent : Sender → List Message → List Values
sent d [] = []
sent d (m ∷ ms) = packets_of d m ++ sent (counted d m).sender ms

-- the sequence counts of packets
abbrev pub counts_of : List Values → List ℕ
counts_of l = map (λ (v : Values). v.sequence_count) l

-- the counters of the segments among them
abbrev pub counter_in : Values → List ℕ
counter_in v = when (segment v.flags) (v.counter ∷ [])

abbrev pub counters_of : List Values → List ℕ
counters_of l = joined counter_in l

-- a counter of 32 bits, as its type has it
abbrev pub Bits32 : Sender → Type 0
Bits32 d = d.counter.0 ≤ most32

-- what a list of packets, sent between a sender and the one after them, has
pub record Goes (d : Sender) (l : List Values) (e : Sender) : Type 0 where
  -- the sequence counts go on by one for each packet, from the sender's, with the wrap
  pub counts : counts_of l ≡ first_of (count_at d.sequence_count.0) (length l)
  -- and the sender after them has the next
  pub count : e.sequence_count.0 ≡ count_at d.sequence_count.0 (length l)
  -- the counters of the segments go on by one for each segment, from the sender's, round the end
  pub counters : counters_of l ≡ first_of (λ (i : ℕ). steps_of next_counter i d.counter.0) (length (counters_of l))
  -- and the sender after them has the next
  pub next : e.counter.0 ≡ steps_of next_counter (length (counters_of l)) d.counter.0
  pub bits : Bits32 e
