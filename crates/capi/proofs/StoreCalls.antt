-- The contracts of the store's half: two outcomes that one of them allows for the same arguments have the same numbers in the answer,
-- and the same octets in every lent buffer.
-- Assumes nothing.
use mathlib.Core.Path.{◌≡◌, sym, ◌∙◌}
use contract.Lifetimes as L
use Rattle.capi.proofs.Buffers.{arrive_answer, arrive_store, take_answer, take_output, take_store, join_answer, join_output, join_store, view_answer}
use Rattle.capi.proofs.Buffers.{forget_answer, forget_store, in_order_answer, recording_answer, recording_output, salvage_answer, salvage_list}
use Rattle.capi.proofs.stored.orl_arrive.Reads as arrives
use Rattle.capi.proofs.stored.orl_take.Reads as takes
use Rattle.capi.proofs.stored.orl_forget.Reads as forgets
use Rattle.capi.proofs.stored.orl_join.Reads as joins
use Rattle.capi.proofs.stored.orl_view.Reads as views
use Rattle.capi.proofs.stored.orl_in_order.Reads as orders
use Rattle.capi.proofs.stored.orl_join_recording.Reads as recordings
use Rattle.capi.proofs.stored.orl_salvage.Reads as salvages

-- ---- arrival

pub arrive_same_answer :
    (κs : L.Lfts 3) (a : _) (r q : _) (s t : _) → arrives.Post κs a r s → arrives.Post κs a q t → arrive_answer κs s ≡ arrive_answer κs t
arrive_same_answer κs a r q s t k j = k.0 ∙ sym j.0

pub arrive_same_store :
    (κs : L.Lfts 3) (a : _) (r q : _) (s t : _) → arrives.Post κs a r s → arrives.Post κs a q t → arrive_store κs s ≡ arrive_store κs t
arrive_same_store κs a r q s t k j = k.1 ∙ sym j.1

-- ---- taking

pub take_same_answer :
    (κs : L.Lfts 3) (a : _) (r q : _) (s t : _) → takes.Post κs a r s → takes.Post κs a q t → take_answer κs s ≡ take_answer κs t
take_same_answer κs a r q s t k j = k.0 ∙ sym j.0

pub take_same_output :
    (κs : L.Lfts 3) (a : _) (r q : _) (s t : _) → takes.Post κs a r s → takes.Post κs a q t → take_output κs s ≡ take_output κs t
take_same_output κs a r q s t k j = k.1.0 ∙ sym j.1.0

pub take_same_store :
    (κs : L.Lfts 3) (a : _) (r q : _) (s t : _) → takes.Post κs a r s → takes.Post κs a q t → take_store κs s ≡ take_store κs t
take_same_store κs a r q s t k j = k.1.1 ∙ sym j.1.1

-- ---- forgetting

pub forget_same_answer :
    (κs : L.Lfts 2) (a : _) (r q : _) (s t : _) → forgets.Post κs a r s → forgets.Post κs a q t → forget_answer κs s ≡ forget_answer κs t
forget_same_answer κs a r q s t k j = k.0 ∙ sym j.0

pub forget_same_store :
    (κs : L.Lfts 2) (a : _) (r q : _) (s t : _) → forgets.Post κs a r s → forgets.Post κs a q t → forget_store κs s ≡ forget_store κs t
forget_same_store κs a r q s t k j = k.1 ∙ sym j.1

-- ---- joining

pub join_same_answer :
    (κs : L.Lfts 4) (a : _) (r q : _) (s t : _) → joins.Post κs a r s → joins.Post κs a q t → join_answer κs s ≡ join_answer κs t
join_same_answer κs a r q s t k j = k.0 ∙ sym j.0

pub join_same_store :
    (κs : L.Lfts 4) (a : _) (r q : _) (s t : _) → joins.Post κs a r s → joins.Post κs a q t → join_store κs s ≡ join_store κs t
join_same_store κs a r q s t k j = k.1.0 ∙ sym j.1.0

pub join_same_output :
    (κs : L.Lfts 4) (a : _) (r q : _) (s t : _) → joins.Post κs a r s → joins.Post κs a q t → join_output κs s ≡ join_output κs t
join_same_output κs a r q s t k j = k.1.1 ∙ sym j.1.1

-- ---- the view, and the order of a store

pub view_same_answer :
    (κs : L.Lfts 3) (a : _) (r q : _) (s t : _) → views.Post κs a r s → views.Post κs a q t → view_answer κs s ≡ view_answer κs t
view_same_answer κs a r q s t k j = k ∙ sym j

pub order_same_answer :
    (κs : L.Lfts 2) (a : _) (r q : _) (s t : _) → orders.Post κs a r s → orders.Post κs a q t → in_order_answer κs s ≡ in_order_answer κs t
order_same_answer κs a r q s t k j = k ∙ sym j

-- ---- a whole recording

pub recording_same_answer :
    (κs : L.Lfts 3) (a : _) (r q : _) (s t : _) → recordings.Post κs a r s → recordings.Post κs a q t → recording_answer κs s ≡ recording_answer κs t
recording_same_answer κs a r q s t k j = k.0 ∙ sym j.0

pub recording_same_output :
    (κs : L.Lfts 3) (a : _) (r q : _) (s t : _) → recordings.Post κs a r s → recordings.Post κs a q t → recording_output κs s ≡ recording_output κs t
recording_same_output κs a r q s t k j = k.1 ∙ sym j.1

-- ---- salvaging

pub salvage_same_answer :
    (κs : L.Lfts 3) (a : _) (r q : _) (s t : _) → salvages.Post κs a r s → salvages.Post κs a q t → salvage_answer κs s ≡ salvage_answer κs t
salvage_same_answer κs a r q s t k j = k.0 ∙ sym j.0

pub salvage_same_list :
    (κs : L.Lfts 3) (a : _) (r q : _) (s t : _) → salvages.Post κs a r s → salvages.Post κs a q t → salvage_list κs s ≡ salvage_list κs t
salvage_same_list κs a r q s t k j = k.1 ∙ sym j.1
