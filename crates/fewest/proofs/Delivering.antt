-- C-7 over the generated contracts: if `cut::count` answers n and no refusal, then `cut::packet` refuses none of the numbers below n if
-- the output has P octets, and what it wrote, read by `packet::read`, is the message delivered. So a `cut::packet` that refuses what
-- was counted does not meet its contract. The same of the old cutter, `cut::count_by` and `cut::packet_by`.
-- Assumes nothing.
use Prim.Native.Nat.{ℕ, ◌≤◌, ◌<◌}
use mathlib.Core.Path.{◌≡◌, ap, ap₂, sym, ◌∙◌, subst}
use mathlib.Core.Logic.{⊎_elim}
use mathlib.Core.Bool.{Bool, true, false}
use mathlib.Core.List.{List}
use native.Mathlib.Omega.{arith}
use contract.Lifetimes as L
use lib.ListN.{length, take}
use lib.Dec.{leb, ltb}
use borrow.Author.Tests.{le-leb, lt-ltb}
use Rattle.octets.proofs.Lists.{bool}
use Rattle.walk.specs.declared.Settings.{Settings}
use Rattle.walk.specs.declared.Tested.{Tested}
use Rattle.fields.specs.Form.{joined}
use Rattle.packet.specs.Answer.{Header}
use Rattle.packet.specs.Reading.{read_packet}
use Rattle.std.specs.Prelude.{Result}
use Rattle.walk.specs.declared.Refused.{Refused}
use Rattle.packet.specs.declared.Header.{Header as Decoded}
use Rattle.packet.specs.Decoded.{decoded}
use Rattle.packet.proofs.read.Reads as reads
use Rattle.packet.proofs.Arguments.{ReadCall, read_call}
use Rattle.sender.specs.declared.Sender.{Sender}
use Rattle.write.specs.declared.HeaderValues.{HeaderValues}
use Rattle.write.specs.Given.{Lent}
use Rattle.write.specs.Lending.{Lends}
use Rattle.write.proofs.Tests.{unless_true}
use Rattle.format.specs.Told.{content, values_of}
use Rattle.cut.specs.declared.Counted.{Counted}
use Rattle.cut.specs.declared.Cut.{Cut}
use Rattle.cut.specs.Cutting.{single, packets, header_length, count_refusal, count_answer, packet_refusal, packet_answer, packet_output}
use Rattle.cut.proofs.count.Reads as counts
use Rattle.cut.proofs.packet.Reads as cuts
use Rattle.cut.proofs.count_by.Reads as count-bys
use Rattle.cut.proofs.packet_by.Reads as cut-bys
use Rattle.cut.proofs.Arguments.{CountCall, count_call, CutCall, cut_call, cut_output, count_old, count_by_call, cut_old, cut_by_call, cut_by_output}
use Rattle.cut.proofs.Packets.{packet_most_lem}
use Rattle.fewest.specs.Carrying.{body_of}
use Rattle.fewest.specs.Cutting.{number, octets_at, AllBack}
use Rattle.fewest.specs.Delivering.{Delivered, Delivers}
use Rattle.fewest.proofs.Lists.{first_same, joined_first}
use Rattle.fewest.proofs.Parts.{packets_one, two_at_least}
use Rattle.fewest.proofs.Numbers.{cuts_well, room}
use Rattle.fewest.proofs.ReadBack.{packets_read_back}
use Rattle.fewest.proofs.Calls.{plain_counts, plain_wrote}

-- ---- over plain values

module _ (old : Bool) (s : Settings) (P : ℕ) (v : HeaderValues) (t : Lent) (body : List ℕ) (d : Sender) (z : (count_refusal old s P v t (length body) d).number ≡ 0) where
  abbrev H : ℕ
  H = header_length s v t

  abbrev n : ℕ
  n = number s P v t body d

  pub not_refused : (i room : ℕ) → i < n → P ≤ room → (packet_refusal old s P v t body d i room).number ≡ 0
  unfolding packet_refusal
  not_refused i room l m =
      let p = packet_most_lem s P v t body d i (cuts_well old s P v t body d z).some in
      ap (λ (r : Tested). r.number)
      (unless_true (leb (length (octets_at s P v t body d i)) room) 21 _ (le-leb (length (octets_at s P v t body d i)) room (omega (arith, p)))
      ∙ unless_true (ltb i n) 26 (count_refusal old s P v t (length body) d) (lt-ltb i n l))
      ∙ z

  some_packet : 1 ≤ n
  some_packet =
      ⊎_elim (λ e. omega (arith, packets_one P H (length body) e))
      (λ e. omega (arith, two_at_least P H (length body) e (room old s P v t body d z e)))
      (bool (single P H (length body)))

  one_enough_lem : AllBack s P v t body d → n ≡ 1 → single P H (length body) ≡ true
  one_enough_lem k e = ⊎_elim (λ b. b) (λ b. absurd (omega (arith, k.two b))) (bool (single P H (length body)))

  cut_needed : 2 ≤ n → single P H (length body) ≡ false
  cut_needed e = ⊎_elim (λ b. absurd (omega (arith, packets_one P H (length body) b))) (λ b. b) (bool (single P H (length body)))

  delivered : AllBack s P v t body d → (i : ℕ) → i < n → Delivered s P v t d n i (octets_at s P v t body d i) (read_packet s (octets_at s P v t body d i))
  unfolding values_of
  delivered a i l =
      let b = a.each i l in
      record {
        limit = b.limit;
        accepted = b.accepted;
        key = b.key;
        count = b.count_wraps;
        whole = λ e. (b.whole (one_enough_lem a e)).1;
        first = λ e. (b.segment (cut_needed e)).first;
        last = λ e. (b.segment (cut_needed e)).last;
        between = λ e. (b.segment (cut_needed e)).between;
        counter = λ e. (b.segment (cut_needed e)).counter;
      }

  -- packets that are octet for octet these, and what reading answers of them
  delivers :
      Lends v t body → (p : ℕ → List ℕ) (h : ℕ → Header) → ((i : ℕ) → i < n → p i ≡ octets_at s P v t body d i) →
      ((i : ℕ) → i < n → h i ≡ read_packet s (p i)) → Delivers s P v t d n body p h
  delivers w p h e f =
      let a = packets_read_back old s P v t body d w z in
      let g : (i : ℕ) → i < n → h i ≡ read_packet s (octets_at s P v t body d i) = λ i l. f i l ∙ ap (read_packet s) (e i l) in
      record {
        some = a.some;
        each =
            λ i l.
            subst (λ (x : Header). Delivered s P v t d n i (p i) x) (sym (g i l))
            (subst (λ (x : List ℕ). Delivered s P v t d n i x (read_packet s (octets_at s P v t body d i))) (sym (e i l)) (delivered a i l));
        bodies =
            ap (joined (λ (x : List ℕ). x))
            (first_same (λ (i : ℕ). content (p i) (h i).body) (λ (i : ℕ). body_of s (octets_at s P v t body d i)) n
            (λ i l. ap₂ (λ (x : List ℕ) (y : Header). content x y.body) (e i l) (g i l)))
            ∙ sym (joined_first (body_of s) (octets_at s P v t body d) n)
            ∙ a.bodies;
      }

-- ---- the calls

-- what `cut::packet` is asked for packet number i of the message that was counted
abbrev pub asked : CountCall → List ℕ → ℕ → List ℕ → CutCall
asked c body i out =
    record {
      settings = c.settings;
      limit = c.limit;
      header = c.header;
      texts = c.texts;
      body = body;
      sender = c.sender;
      index = i;
      output = out;
    }

-- what `packet::read` is asked
abbrev pub asked_read : Settings → List ℕ → ReadCall
asked_read s p = record { settings = s; packet = p }

-- what the contract of `cut::packet` says, by the arguments' names; of the old cutter too
pub record Does (old : Bool) (c : CutCall) (q : Cut) (after : List ℕ) : Type 0 where
  pub answers : q ≡ packet_answer old c.settings c.limit c.header c.texts c.body c.sender c.index (length c.output)
  pub leaves : after ≡ packet_output old c.settings c.limit c.header c.texts c.body c.sender c.index c.output
  pub known : Lends c.header c.texts c.body

-- what the count answered, and what the calls for each packet below it did
module _
    (old : Bool)
    (c : CountCall)
    (r : Counted)
    (k : r ≡ count_answer old c.settings c.limit c.header c.texts c.long c.sender)
    (z : r.refusal.number ≡ 0)
    (body : List ℕ)
    (m : length body ≡ c.long)
    (q : ℕ → Cut)
    (after out : ℕ → List ℕ)
    (j : (i : ℕ) → i < r.count → Does old (asked c body i (out i)) (q i) (after i))
    (g : (i : ℕ) → i < r.count → c.limit ≤ length (out i)) where
  counted : (count_refusal old c.settings c.limit c.header c.texts (length body) c.sender).number ≡ 0
  counted =
      ap (λ (B : ℕ). (count_refusal old c.settings c.limit c.header c.texts B c.sender).number) m
      ∙ (plain_counts old c.settings c.limit c.header c.texts c.long c.sender r k z).no_refusal_lem

  many : r.count ≡ number c.settings c.limit c.header c.texts body c.sender
  many =
      (plain_counts old c.settings c.limit c.header c.texts c.long c.sender r k z).count
      ∙ ap (packets c.limit (header_length c.settings c.header c.texts)) (sym m)

  -- no packet below the count is refused
  plain_not_refused : (i : ℕ) → i < r.count → (q i).refusal.number ≡ 0
  unfolding packet_answer
  plain_not_refused i l =
      ap (λ (w : Cut). w.refusal.number) (j i l).answers
      ∙ not_refused old c.settings c.limit c.header c.texts body c.sender counted i (length (out i)) (omega (arith, many)) (g i l)

  -- and the outputs, as many octets of each as its call answers, read, are the message delivered
  plain_delivers :
      (p : ℕ → List ℕ) (h : ℕ → Header) → ((i : ℕ) → i < r.count → p i ≡ take (q i).length (after i)) →
      ((i : ℕ) → i < r.count → h i ≡ read_packet c.settings (p i)) →
      Delivers c.settings c.limit c.header c.texts c.sender r.count body p h
  plain_delivers p h e f =
      let s = c.settings in
      let P = c.limit in
      let v = c.header in
      let t = c.texts in
      let d = c.sender in
      let some : 0 < r.count = omega (arith, many, some_packet old s P v t body d counted) in
      subst (λ (n : ℕ). Delivers s P v t d n body p h) (sym many)
      (delivers old s P v t body d counted (j 0 some).known p h
      (λ i l.
      let l' : i < r.count = omega (arith, many) in
      e i l'
      ∙ (plain_wrote old s P v t body d i (q i) (out i) (after i) (j i l').answers (j i l').leaves (plain_not_refused i l')).octets)
      (λ i l. let l' : i < r.count = omega (arith, many) in f i l'))

-- what `packet::read` was asked and answered
read_packet_lem :
    (s : Settings) (p : List ℕ) (h : Result Decoded Refused) (μs : L.Lfts 1) (f : _) (u : _) → reads.Post μs f h u → read_call μs f ≡ asked_read s p →
    decoded h ≡ read_packet s (read_call μs f).packet
read_packet_lem s p h μs f u o w = subst (λ (x : ReadCall). decoded h ≡ read_packet x.settings (read_call μs f).packet) w o.0

-- ---- `cut::count` and `cut::packet`

module _
    (κs : L.Lfts 1)
    (a : _)
    (r : _)
    (x : _)
    (k : counts.Post κs a r x)
    (z : r.refusal.number ≡ 0)
    (body : List ℕ)
    (m : length body ≡ (count_call κs a).long)
    (λs : ℕ → L.Lfts 3)
    (b : (i : ℕ) → _)
    (q : ℕ → Cut)
    (y : (i : ℕ) → _)
    (out : ℕ → List ℕ)
    (j : (i : ℕ) → i < r.count → cuts.Post (λs i) (b i) (q i) (y i))
    (e : (i : ℕ) → i < r.count → cut_call (λs i) (b i) ≡ asked (count_call κs a) body i (out i))
    (g : (i : ℕ) → i < r.count → (count_call κs a).limit ≤ length (out i)) where
  does : (i : ℕ) (l : i < r.count) → Does false (asked (count_call κs a) body i (out i)) (q i) (cut_output (λs i) (y i))
  does i l =
      subst (λ (w : CutCall). Does false w (q i) (cut_output (λs i) (y i))) (e i l)
      (record { answers = (j i l).0; leaves = (j i l).1; known = (j i l).2 })

  -- no packet below the count is refused
  pub cut_not_refused : (i : ℕ) → i < r.count → (q i).refusal.number ≡ 0
  cut_not_refused = plain_not_refused false (count_call κs a) r k z body m q (λ (i : ℕ). cut_output (λs i) (y i)) out does g

  -- and the outputs, as many octets of each as its call answers, read by `packet::read`, are the message delivered
  pub cut_delivers :
      (μs : ℕ → L.Lfts 1) (f : (i : ℕ) → _) (h : ℕ → Result Decoded Refused) (u : (i : ℕ) → _) →
      ((i : ℕ) → i < r.count → reads.Post (μs i) (f i) (h i) (u i)) →
      ((i : ℕ) → i < r.count → read_call (μs i) (f i) ≡ asked_read (count_call κs a).settings (take (q i).length (cut_output (λs i) (y i)))) →
      (let c = count_call κs a in
      Delivers c.settings c.limit c.header c.texts c.sender r.count body (λ (i : ℕ). (read_call (μs i) (f i)).packet) (λ (i : ℕ). decoded (h i)))
  cut_delivers μs f h u o w =
      plain_delivers false (count_call κs a) r k z body m q (λ (i : ℕ). cut_output (λs i) (y i)) out does g
      (λ (i : ℕ). (read_call (μs i) (f i)).packet) (λ (i : ℕ). decoded (h i))
      (λ i l. ap (λ (x : ReadCall). x.packet) (w i l))
      (λ i l. read_packet_lem _ _ (h i) (μs i) (f i) (u i) (o i l) (w i l))

-- ---- `cut::count_by` and `cut::packet_by`: the old cutter, with a zone too

module _
    (κs : L.Lfts 1)
    (a : _)
    (r : _)
    (x : _)
    (k : count-bys.Post κs a r x)
    (z : r.refusal.number ≡ 0)
    (body : List ℕ)
    (m : length body ≡ (count_by_call κs a).long)
    (λs : ℕ → L.Lfts 3)
    (b : (i : ℕ) → _)
    (q : ℕ → Cut)
    (y : (i : ℕ) → _)
    (out : ℕ → List ℕ)
    (j : (i : ℕ) → i < r.count → cut-bys.Post (λs i) (b i) (q i) (y i))
    (o : (i : ℕ) → i < r.count → cut_old (λs i) (b i) ≡ count_old κs a)
    (e : (i : ℕ) → i < r.count → cut_by_call (λs i) (b i) ≡ asked (count_by_call κs a) body i (out i))
    (g : (i : ℕ) → i < r.count → (count_by_call κs a).limit ≤ length (out i)) where
  by_does :
      (i : ℕ) (l : i < r.count) → Does (count_old κs a) (asked (count_by_call κs a) body i (out i)) (q i) (cut_by_output (λs i) (y i))
  by_does i l =
      subst (λ (w : CutCall). Does (count_old κs a) w (q i) (cut_by_output (λs i) (y i))) (e i l)
      (subst (λ (n : Bool). Does n (cut_by_call (λs i) (b i)) (q i) (cut_by_output (λs i) (y i))) (o i l)
      (record { answers = (j i l).0; leaves = (j i l).1; known = (j i l).2 }))

  pub cut_by_not_refused : (i : ℕ) → i < r.count → (q i).refusal.number ≡ 0
  cut_by_not_refused =
      plain_not_refused (count_old κs a) (count_by_call κs a) r k z body m q (λ (i : ℕ). cut_by_output (λs i) (y i)) out by_does g

  pub cut_by_delivers :
      (μs : ℕ → L.Lfts 1) (f : (i : ℕ) → _) (h : ℕ → Result Decoded Refused) (u : (i : ℕ) → _) →
      ((i : ℕ) → i < r.count → reads.Post (μs i) (f i) (h i) (u i)) →
      ((i : ℕ) → i < r.count →
      read_call (μs i) (f i) ≡ asked_read (count_by_call κs a).settings (take (q i).length (cut_by_output (λs i) (y i)))) →
      (let c = count_by_call κs a in
      Delivers c.settings c.limit c.header c.texts c.sender r.count body (λ (i : ℕ). (read_call (μs i) (f i)).packet) (λ (i : ℕ). decoded (h i)))
  cut_by_delivers μs f h u n w =
      plain_delivers (count_old κs a) (count_by_call κs a) r k z body m q (λ (i : ℕ). cut_by_output (λs i) (y i)) out by_does g
      (λ (i : ℕ). (read_call (μs i) (f i)).packet) (λ (i : ℕ). decoded (h i))
      (λ i l. ap (λ (x : ReadCall). x.packet) (w i l))
      (λ i l. read_packet_lem _ _ (h i) (μs i) (f i) (u i) (n i l) (w i l))
