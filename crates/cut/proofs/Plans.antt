-- A message's plan as the code makes it is the definition's, and the count's answer follows.
-- Assumes nothing.
use Prim.Native.Nat.{ℕ, ◌+◌, ◌≤◌}
use mathlib.Core.Path.{◌≡◌, ap, ap₂, sym, ◌∙◌}
use mathlib.Core.Logic.{⊎_elim}
use mathlib.Core.Bool.{Bool, true, false}
use native.Mathlib.Omega.{arith}
use lib.ListN.{length}
use lib.Dec.{leb}
use borrow.Author.Tests.{le-leb, leb-true, eq-eqb, ne_eqb}
use Rattle.octets.specs.Octets.{pick, most32}
use Rattle.octets.proofs.Lists.{bool}
use Rattle.walk.specs.declared.Settings.{Settings}
use Rattle.walk.specs.declared.Tested.{Tested}
use Rattle.walk.specs.Walk.{refusal, none_failed, unless}
use Rattle.fields.specs.Inner.{capped}
use Rattle.fields.specs.Fields.{parts_most}
use Rattle.fields.specs.Form.{split}
use Rattle.packet.specs.Format.{header_most, packet_most}
use Rattle.packet.specs.Numbers.{count_most, segments_most}
use Rattle.sender.specs.declared.Sender.{Sender}
use Rattle.sender.specs.declared.Sent.{Sent}
use Rattle.sender.specs.declared.Sent.TheVariants.{Whole, Segments}
use Rattle.sender.specs.Sending.{after_packet, after_segments, after_message}
use Rattle.write.specs.declared.HeaderValues.{HeaderValues}
use Rattle.write.specs.Given.{Lent, header_checks, utf8_checks, unless_all}
use Rattle.write.specs.Writing.{settings_test, zone_fits, zone_test, parts_test, text_test, fine}
use Rattle.write.proofs.Tests.{unless_true, unless_fine, unless_all_fine, AllHold}
use Rattle.write.proofs.Answers.{shut, below_cap, cap_middle}
use Rattle.cut.specs.declared.Plan.{Plan}
use Rattle.cut.specs.Cutting.{single, chunk, packets, limit_test, value_tests, message_tests, header_length, count_refusal, sender_after, count_answer, body_most, limit_least}
use Rattle.cut.proofs.Counting.{sent_on}
use Rattle.cut.specs.Inner.{single_of, packets_of, plan_refusal, plan_of}

-- ---- the tests before the plan

abbrev pub before : Bool → Settings → ℕ → HeaderValues → Lent → Sender → Tested
before old s P v t d = text_test t (parts_test t (zone_test old v (value_tests s v t d (limit_test s P none_failed))))

-- the code's tests, one after another; a counter of 32 bits passes its own
pub values_tested :
    (old : Bool) (s : Settings) (P : ℕ) (v : HeaderValues) (t : Lent) (d : Sender) {a b c z e q : Tested} {f : Bool} → d.counter.0 ≤ most32 →
    f ≡ zone_fits old v.has → a ≡ limit_test s P none_failed → b ≡ unless_all (header_checks s v t) 22 a →
    c ≡ unless (leb d.sequence_count.0 count_most) 22 b → z ≡ unless f 30 c → e ≡ unless (leb (length t.lengths) parts_most) 13 z →
    q ≡ unless_all (utf8_checks t.zone t.session_name (split t.lengths t.domain)) 28 e → q ≡ before old s P v t d
unfolding text_test parts_test zone_test value_tests
values_tested old s P v t d {a} {b} {c} h ef ea eb ec ez ee eq =
    eq
    ∙ ap (unless_all (utf8_checks t.zone t.session_name (split t.lengths t.domain)) 28)
    (ee
    ∙ ap (unless (leb (length t.lengths) parts_most) 13)
    (ez
    ∙ ap (λ (x : Bool). unless x 30 c) ef
    ∙ ap (unless (zone_fits old v.has) 30)
    (ec
    ∙ ap (unless (leb d.sequence_count.0 count_most) 22) (eb ∙ ap (unless_all (header_checks s v t) 22) ea)
    ∙ sym (unless_true (leb d.counter.0 most32) 22 _ (le-leb d.counter.0 most32 h)))))

-- what holds where none of them refused
pub record Good (s : Settings) (P : ℕ) (v : HeaderValues) (t : Lent) (d : Sender) : Type 0 where
  pub texts : AllHold (utf8_checks t.zone t.session_name (split t.lengths t.domain))
  pub parts : length t.lengths ≤ parts_most
  pub counter : d.counter.0 ≤ most32
  pub sequence_count : d.sequence_count.0 ≤ count_most
  pub checks : AllHold (header_checks s v t)
  pub low : limit_least ≤ P
  pub top : P ≤ packet_most
  pub settings : fine (settings_test s none_failed) ≡ true

pub good : (old : Bool) (s : Settings) (P : ℕ) (v : HeaderValues) (t : Lent) (d : Sender) → fine (before old s P v t d) ≡ true → Good s P v t d
unfolding text_test parts_test zone_test value_tests limit_test
good old s P v t d g =
    let u = unless_all_fine (utf8_checks t.zone t.session_name (split t.lengths t.domain)) 27 (parts_test t (zone_test old v (value_tests s v t d (limit_test s P none_failed)))) g in
    let a = unless_fine (leb (length t.lengths) parts_most) 12 (zone_test old v (value_tests s v t d (limit_test s P none_failed))) u.0 in
    let z = unless_fine (zone_fits old v.has) 29 (value_tests s v t d (limit_test s P none_failed)) a.before in
    let n = unless_fine (leb d.counter.0 most32) 21 _ z.before in
    let b = unless_fine (leb d.sequence_count.0 count_most) 21 (unless_all (header_checks s v t) 22 (limit_test s P none_failed)) n.before in
    let c = unless_all_fine (header_checks s v t) 21 (limit_test s P none_failed) b.before in
    let e = unless_fine (leb P packet_most) 14 (unless (leb limit_least P) 15 (settings_test s none_failed)) c.0 in
    let f = unless_fine (leb limit_least P) 14 (settings_test s none_failed) e.before in
    record {
      texts = u.1;
      parts = leb-true (length t.lengths) parts_most a.held;
      counter = leb-true d.counter.0 most32 n.held;
      sequence_count = leb-true d.sequence_count.0 count_most b.held;
      checks = c.1;
      low = leb-true limit_least P f.held;
      top = leb-true P packet_most e.held;
      settings = f.before;
    }

-- ---- the plan, from a size told up to the limit

module _ (P H B : ℕ) {h : ℕ} (eh : h ≡ capped H) (top : P ≤ packet_most) where
  pub single_same : single_of P h B ≡ single P H B
  single_same =
      ap (λ (n : ℕ). leb (capped (6 + n + B)) P) eh
      ∙ ap (λ (n : ℕ). leb n P) (cap_middle H B)
      ∙ below_cap (6 + H + B) P (omega arith)

  pub chunk_same : chunk P h ≡ chunk P H
  chunk_same = omega arith

  pub packets_same : packets_of (single_of P h B) B (chunk P h) ≡ packets P H B
  unfolding packets
  packets_same = ap₂ (λ (o : Bool) (c : ℕ). packets_of o B c) single_same chunk_same

  head_same : (one : Bool) → leb (pick one h (capped (h + 4))) header_most ≡ leb (pick one H (H + 4)) header_most
  head_same true = ap (λ (n : ℕ). leb n header_most) eh ∙ below_cap H header_most (omega arith)
  head_same false =
      let e : capped (h + 4) ≡ capped (H + 4) = omega arith in
      ap (λ (n : ℕ). leb n header_most) e ∙ below_cap (H + 4) header_most (omega arith)

  tests_same : (r : Tested) → plan_refusal (single_of P h B) h B (chunk P h) r ≡ message_tests P H B r
  unfolding plan_refusal message_tests
  tests_same r = rw (packets_same, single_same, chunk_same, head_same (single P H B))

-- a refusal that was there stays
still_plan : (one : Bool) (h B C : ℕ) (r : Tested) → fine r ≡ false → plan_refusal one h B C r ≡ r
unfolding plan_refusal
still_plan one h B C r e =
    rw (shut (leb B body_most) 23 r e, shut (leb (pick one h (capped (h + 4))) header_most) 12 r e, shut (pick one true (leb 1 C)) 24 r e)
    (shut (pick one true (leb (packets_of one B C) segments_most)) 29 r e)

pub still_tests : (P H B : ℕ) (r : Tested) → fine r ≡ false → message_tests P H B r ≡ r
unfolding message_tests
still_tests P H B r e =
    rw (shut (leb B body_most) 23 r e, shut (leb (pick (single P H B) H (H + 4)) header_most) 12 r e, shut (pick (single P H B) true (leb 1 (chunk P H))) 24 r e)
    (shut (pick (single P H B) true (leb (packets P H B) segments_most)) 29 r e)

-- what holds where the plan refused nothing
pub record Cuts (P H B : ℕ) : Type 0 where
  pub body : B ≤ body_most
  pub header : pick (single P H B) H (H + 4) ≤ header_most
  pub some : pick (single P H B) true (leb 1 (chunk P H)) ≡ true
  pub segments : pick (single P H B) true (leb (packets P H B) segments_most) ≡ true

pub cuts : (P H B : ℕ) (r : Tested) → fine (message_tests P H B r) ≡ true → Cuts P H B × (fine r ≡ true)
unfolding message_tests
cuts P H B r g =
    let a = unless_fine (pick (single P H B) true (leb (packets P H B) segments_most)) 28 _ g in
    let b = unless_fine (pick (single P H B) true (leb 1 (chunk P H))) 23 _ a.before in
    let c = unless_fine (leb (pick (single P H B) H (H + 4)) header_most) 11 _ b.before in
    let e = unless_fine (leb B body_most) 22 r c.before in (
      record {
        body = leb-true B body_most e.held;
        header = leb-true (pick (single P H B) H (H + 4)) header_most c.held;
        some = b.held;
        segments = a.held;
      },
      e.before,
    )

-- ---- the code's plan

module _ (old : Bool) (s : Settings) (P : ℕ) (v : HeaderValues) (t : Lent) (B : ℕ) (d : Sender) {h : ℕ} {r : Tested} {q : Plan}
    (er : r ≡ before old s P v t d) (eh : h ≡ capped (header_length s v t)) (eq : q ≡ plan_of P h B r) where
  abbrev H : ℕ
  H = header_length s v t

  pub refusal_same : q.tested ≡ count_refusal old s P v t B d
  unfolding plan_of count_refusal
  refusal_same =
      ap (λ (x : Plan). x.tested) eq
      ∙ ⊎_elim
      (λ g. let k = good old s P v t d (ap fine (sym er) ∙ g) in tests_same P H B eh k.top r)
      (λ e. still_plan (single_of P h B) h B (chunk P h) r e ∙ sym (still_tests P H B r e))
      (bool (fine r))
      ∙ ap (message_tests P H B) er

  -- where nothing refused
  pub record Planned : Type 0 where
    pub fine_count : fine (count_refusal old s P v t B d) ≡ true
    pub good_values : Good s P v t d
    pub cuts_well : Cuts P H B
    pub single_is : q.single ≡ single P H B
    pub chunk_is : q.chunk ≡ chunk P H
    pub count_is : q.count ≡ packets P H B

  pub planned : fine q.tested ≡ true → Planned
  unfolding plan_of count_refusal
  planned g =
      let f : fine (count_refusal old s P v t B d) ≡ true = ap fine (sym refusal_same) ∙ g in
      let c = cuts P H B (before old s P v t d) f in
      let k = good old s P v t d c.1 in
      record {
        fine_count = f;
        good_values = k;
        cuts_well = c.0;
        single_is = ap (λ (x : Plan). x.single) eq ∙ single_same P H B eh k.top;
        chunk_is = ap (λ (x : Plan). x.chunk) eq ∙ chunk_same P H B eh k.top;
        count_is = ap (λ (x : Plan). x.count) eq ∙ packets_same P H B eh k.top;
      }

  pub refused_count : (q.tested.number ≡ 0 → ⊥) → record { refusal = refusal q.tested.number; count = 0; sender = d } ≡ count_answer old s P v t B d
  unfolding count_answer
  refused_count n =
      let f : fine (count_refusal old s P v t B d) ≡ false = ap fine (sym refusal_same) ∙ ne_eqb q.tested.number 0 n in
      λ i.
      record {
        refusal = refusal (refusal_same i).number;
        count = ap (λ (x : Bool). pick x (packets P H B) 0) (sym f) i;
        sender = ap (λ (x : Bool). pick x (sender_after P H B d) d) (sym f) i;
      }

  pub made_count :
      q.tested.number ≡ 0 → {m : Sender} {w : Sent} → w ≡ pick q.single Whole (Segments q.count) → m ≡ after_message w d →
      record { refusal = refusal 0; count = q.count; sender = m } ≡ count_answer old s P v t B d
  unfolding count_answer sender_after
  made_count z {m} ew em =
      let k = planned (eq-eqb q.tested.number 0 z) in
      let f = k.fine_count in
      let a : m ≡ pick (single P H B) (after_packet d) (after_segments (packets P H B) d) =
      sent_on q.single q.count d ew em ∙ ap₂ (λ (o : Bool) (n : ℕ). pick o (after_packet d) (after_segments n d)) k.single_is k.count_is in
      let n : 0 ≡ (count_refusal old s P v t B d).number = sym z ∙ ap (λ (x : Tested). x.number) refusal_same in
      λ i.
      record {
        refusal = refusal (n i);
        count = (k.count_is ∙ ap (λ (x : Bool). pick x (packets P H B) 0) (sym f)) i;
        sender = (a ∙ ap (λ (x : Bool). pick x (pick (single P H B) (after_packet d) (after_segments (packets P H B) d)) d) (sym f)) i;
      }
