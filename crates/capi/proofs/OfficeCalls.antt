-- The calls of the office for C: two outcomes that a contract allows for the same arguments have the same answer and the same output; and
-- each refusal is one of the call's list.
-- Assumes nothing.
use Prim.Native.Nat.{ℕ}
use mathlib.Core.Path.{◌≡◌, sym, subst, ◌∙◌}
use mathlib.Core.List.{List}
use contract.Lifetimes as L
use denote.Triple.Clauses.{AtExit}
use borrow.Fn.Kinds.{ended_of}
use Rattle.walk.specs.declared.Settings.{Settings}
use Rattle.carry.specs.declared.Route.{Route}
use Rattle.carry.specs.There.{to_pdu_answer}
use Rattle.carry.specs.Back.{to_message_answer}
use Rattle.flat_office.specs.Numbers.{written_numbers, carried_numbers}
use Rattle.numbers.specs.Lists.{of_to_pdu, of_to_message}
use Rattle.numbers.proofs.Carrying.{to_pdu, to_message}
use Rattle.capi.proofs.Numbered.{Refuses}
use Rattle.capi.proofs.office.orl_to_pdu.Kinds as there-kinds
use Rattle.capi.proofs.office.orl_to_pdu.Reads as there
use Rattle.capi.proofs.office.orl_to_message.Kinds as back-kinds
use Rattle.capi.proofs.office.orl_to_message.Reads as back

-- `orl_to_pdu`
abbrev pub to_pdu_output_lem : (κs : L.Lfts 3) → AtExit (ended_of 3 there-kinds.ps there-kinds.r) κs → List ℕ
to_pdu_output_lem κs x = x.1.1.1.1.0.now

abbrev pub to_pdu_answer_lem : (κs : L.Lfts 3) → AtExit (ended_of 3 there-kinds.ps there-kinds.r) κs → List ℕ
to_pdu_answer_lem κs x = x.1.1.1.1.1.0.now

-- `orl_to_message`
abbrev pub to_message_output_lem : (κs : L.Lfts 4) → AtExit (ended_of 4 back-kinds.ps back-kinds.r) κs → List ℕ
to_message_output_lem κs x = x.1.1.1.1.0.now

abbrev pub to_message_answer_lem : (κs : L.Lfts 4) → AtExit (ended_of 4 back-kinds.ps back-kinds.r) κs → List ℕ
to_message_answer_lem κs x = x.1.1.1.1.1.0.now

pub to_pdu_same_answer :
    (κs : L.Lfts 3) (a : _) (r q : _) (s t : _) → there.Post κs a r s → there.Post κs a q t → to_pdu_answer_lem κs s ≡ to_pdu_answer_lem κs t
to_pdu_same_answer κs a r q s t k j = k.0 ∙ sym j.0

pub to_pdu_same_output :
    (κs : L.Lfts 3) (a : _) (r q : _) (s t : _) → there.Post κs a r s → there.Post κs a q t → to_pdu_output_lem κs s ≡ to_pdu_output_lem κs t
to_pdu_same_output κs a r q s t k j = k.1 ∙ sym j.1

pub to_message_same_answer :
    (κs : L.Lfts 4) (a : _) (r q : _) (s t : _) → back.Post κs a r s → back.Post κs a q t → to_message_answer_lem κs s ≡ to_message_answer_lem κs t
to_message_same_answer κs a r q s t k j = k.0 ∙ sym j.0

pub to_message_same_output :
    (κs : L.Lfts 4) (a : _) (r q : _) (s t : _) → back.Post κs a r s → back.Post κs a q t → to_message_output_lem κs s ≡ to_message_output_lem κs t
to_message_same_output κs a r q s t k j = k.1 ∙ sym j.1

-- ---- the refusals

written : (s : Settings) (e : ℕ) (m : List ℕ) (room : ℕ) → Refuses of_to_pdu (written_numbers (to_pdu_answer s e m room))
unfolding written_numbers
written s e m room = to_pdu s e m room

carried : (s : Settings) (l : Route) (p : List ℕ) (room : ℕ) → Refuses of_to_message (carried_numbers (to_message_answer s l p room))
unfolding carried_numbers
carried s l p room = to_message s l p room

pub to_pdu_numbered : (κs : L.Lfts 3) (a : _) (r : _) (x : _) → there.Post κs a r x → Refuses of_to_pdu (to_pdu_answer_lem κs x)
to_pdu_numbered κs a r x k = subst (Refuses of_to_pdu) (sym k.0) (written _ _ _ _)

pub to_message_numbered : (κs : L.Lfts 4) (a : _) (r : _) (x : _) → back.Post κs a r x → Refuses of_to_message (to_message_answer_lem κs x)
to_message_numbered κs a r x k = subst (Refuses of_to_message) (sym k.0) (carried _ _ _ _)
