-- `pdu::write` meets its contract: the tests on sizes are the definition's, and the pieces laid are the PDU.
use borrow.Author.Rules.{rules}
use native.Mathlib.Omega.{arith}
use Rattle.write.specs.Given.{lent_of}
use Rattle.pdu.proofs.Pieces.{variable_small}
use Rattle.pdu.proofs.Answers.{refused_answer, refused_output, written_answer, written_output}
use Rattle.pdu.proofs.write.Goals as goal

pub returns-then-r-ne0 : goal.returns-then-r-ne0
returns-then-r-ne0 c =
    let a = c.args in (
      rw c.numbered.ensures
          (refused_answer a.v _ _ _ _ c.variable_size-variable.ensures c.plus_to-rest.ensures _ c.test_values-values.ensures
          c.test_sizes-r.ensures c.if-r-ne0.true),
      refused_output a.v _ _ _ _ c.variable_size-variable.ensures c.plus_to-rest.ensures _ c.test_values-values.ensures
          c.test_sizes-r.ensures c.if-r-ne0.true,
      record {
        source_octets = λ j. (c.type_inv.source j).fits;
        destination_octets = λ j. (c.type_inv.destination j).fits;
        octets = c.lent_in_octets.ensures;
        transaction = search rules;
      },
    )

pub overflow_add-result-2 : goal.overflow_add-result-2
overflow_add-result-2 c =
    let a = c.args in let t = lent_of a.texts in
    omega (arith, variable_small a.v a.source.now a.destination.now t c.variable_size-variable.ensures)

pub returns : goal.returns
returns c =
    let a = c.args in (
      rw c.numbered-2.ensures
          (written_answer a.v _ _ _ _ c.variable_size-variable.ensures c.plus_to-rest.ensures _
          c.test_values-values.ensures c.test_sizes-r.ensures c.if-r-ne0.false),
      written_output a.v _ _ _ _ c.variable_size-variable.ensures c.plus_to-rest.ensures _
          c.test_values-values.ensures c.test_sizes-r.ensures c.if-r-ne0.false c.put_pdu.ensures,
      record {
        source_octets = λ j. (c.type_inv.source j).fits;
        destination_octets = λ j. (c.type_inv.destination j).fits;
        octets = c.lent_in_octets.ensures;
        transaction = search rules;
      },
    )
