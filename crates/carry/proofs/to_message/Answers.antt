-- `carry::to_message` meets its contract: each refusal in its turn, or what is written.
use mathlib.Core.Path.{◌∙◌}
use Rattle.carry.proofs.Returned.{refused_route, refused_pdu, carried_back, pdu_ready}
use Rattle.carry.proofs.to_message.Goals as goal

-- a pair with the names of the clauses
named : {A B : Type 0} → A × B → record { answer : A; octets : B }
named p = record { answer = p.0; octets = p.1 }

pub returns-then-a-ne0 : goal.returns-then-a-ne0
returns-then-a-ne0 c =
    let d = refused_route _ _ _ _ c.test_route-a.ensures c.if-a-ne0.true in record { answer = (c.not_carried.ensures ∙ rw c.numbered.ensures d.0, d.1); octets = λ i. (c.type_inv.p i).fits }

pub returns-then-refusal-ne0 : goal.returns-then-refusal-ne0
returns-then-refusal-ne0 c =
    let d =
    refused_pdu _ _ _ _ c.test_route-a.ensures c.if-a-ne0.false c.read-h.ensures.answer c.if-refusal-ne0.true in record
    { answer = (c.not_carried-then-refusal-ne0.ensures ∙ d.0, d.1); octets = λ i. (c.type_inv.p i).fits }

pub write_message-requires : goal.write_message-requires
write_message-requires c =
    pdu_ready _ c.read-h.ensures.answer

pub returns : goal.returns
returns c =
    named ((
      carried_back _ _ _ _ c.test_route-a.ensures c.if-a-ne0.false c.read-h.ensures.answer c.if-refusal-ne0.false
          c.write_message.ensures,
      λ i. (c.type_inv.p i).fits,
    ))
