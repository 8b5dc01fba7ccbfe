-- Each tile once, over the store's octets (docs/DEMANDS.md, "Each tile once"). What is presupposed is demand 3's, `Given`, and that no call
-- forgets a record. What is promised of a message: `Once`, handed out at most once, and out or complete exactly if all its segments have
-- arrived; and of takings until one is refused by 20: `Drained`. The calls, the store after them and what hands out a message are demand 3's.
-- Assumes nothing: these are definitions.
use Rattle.std.specs.Prelude.{ℕ, ◌≤◌, ◌<◌, ◌≡◌, ◌⊎◌, ◌↔◌, length}
use Rattle.std.proofs.Math.Option.{some}
use mathlib.Core.List.{List, ◌∷◌, ◌++◌, map, Memᴰ}
use Rattle.walk.specs.declared.Settings.{Settings}
use Rattle.taking.specs.Taking.{unable}
use Rattle.demand3.specs.Calls.{Call, taking, forgetting, took_by}
use Rattle.demand3.specs.Sendings.{Sending}
use Rattle.demand3.specs.Presupposed.{InUse, store_behind, AllCame, TakesIt, Given}
use Rattle.demand3.specs.Whole.{IsComplete, Delivers, LongEnough}

-- none of the calls forgets a record
abbrev pub NoneForgets : List Call → Type 0
NoneForgets cs = (i : ℕ) → Memᴰ (forgetting i) cs → ⊥

module _ (s : Settings) (Z n : ℕ) where
  -- what is presupposed: demand 3's conditions, whose room counts the records, and no forgetting
  pub record Unforgotten (ms : List Sending) (cs : List Call) : Type 0 where
    pub given : Given s Z n ms cs
    pub none_forgets : NoneForgets cs

  -- the message is out: one of the calls, a taking or a joining, handed it out, by its key and its first counter, and whole
  pub record HandedOut (m : Sending) (cs : List Call) : Type 0 where
    pub earlier : List Call
    pub call : Call
    pub others : List Call
    pub place : cs ≡ earlier ++ call ∷ others
    pub takes : TakesIt s Z m (store_behind s Z n earlier) call
    pub whole : Delivers s Z n m (store_behind s Z n earlier) call

  -- no two of the calls hand out something by its key and its first counter
  abbrev pub AtMostOnce : Sending → List Call → Type 0
  AtMostOnce m cs = (x y z : List Call) (c d : Call) → cs ≡ (x ++ c ∷ y) ++ d ∷ z → TakesIt s Z m (store_behind s Z n x) c →
      TakesIt s Z m (store_behind s Z n (x ++ c ∷ y)) d → ⊥

  -- what is promised of a message
  pub record Once (m : Sending) (cs : List Call) : Type 0 where
    -- it is handed out at most once
    pub once : AtMostOnce m cs
    -- it is out or complete if all its segments have arrived, and only then
    pub exactly : (HandedOut m cs ⊎ IsComplete s Z n m (store_behind s Z n cs)) ↔ AllCame s m cs
    -- and never both
    pub either : HandedOut m cs → IsComplete s Z n m (store_behind s Z n cs) → ⊥

  -- one of these takings, after the calls, hands out the message
  abbrev pub HandedBy : Sending → List Call → List (List ℕ) → Type 0
  HandedBy m cs outs = (x : List (List ℕ)) × (out : List ℕ) × (y : List (List ℕ)) × (outs ≡ x ++ out ∷ y) ×
      Delivers s Z n m (store_behind s Z n (cs ++ map taking x)) (taking out)

  -- takings with these outputs, after the calls, one after the other
  pub record Drained (ms : List Sending) (cs : List Call) (outs : List (List ℕ)) : Type 0 where
    -- after no more of them than there are cells
    pub asked : List (List ℕ)
    pub last : List ℕ
    pub others : List (List ℕ)
    pub place : outs ≡ asked ++ last ∷ others
    pub few : length asked ≤ n
    -- one is refused by 20
    pub empty : took_by s Z (store_behind s Z n (cs ++ map taking asked)) (taking last) ≡ some (unable 20)
    -- and by then every message that was complete is handed out, by one of them
    pub handed : (m : Sending) → Memᴰ m ms → IsComplete s Z n m (store_behind s Z n cs) → HandedBy m cs asked
    -- so that every message all of whose segments have arrived is out
    pub out : (m : Sending) → Memᴰ m ms → AllCame s m cs → HandedOut m (cs ++ map taking asked)

-- each message once, for cells of Z octets
abbrev pub EachOnce : ℕ → Type 0
EachOnce Z = (s : Settings) (n : ℕ) → InUse s n → (ms : List Sending) (cs : List Call) → Unforgotten s Z n ms cs →
    (m : Sending) → Memᴰ m ms → Once s Z n m cs

-- more takings than cells, each with output at least as long as what it picks, come to refusal 20
abbrev pub AllOut : ℕ → Type 0
AllOut Z = (s : Settings) (n : ℕ) → InUse s n → (ms : List Sending) (cs : List Call) → Unforgotten s Z n ms cs →
    (outs : List (List ℕ)) → n < length outs → LongEnough s Z n (store_behind s Z n cs) outs → Drained s Z n ms cs outs
