-- `carry::make_message` meets its contract: the tests on sizes are the definition's, and the pieces laid are the message.
use mathlib.Core.Path.{◌∙◌}
use native.Mathlib.Omega.{arith}
use Rattle.carry.proofs.Made.{refused_answer, refused_output, written_answer, written_output}
use Rattle.carry.proofs.make_message.Goals as goal

pub test_sizes-r-requires : goal.test_sizes-r-requires
test_sizes-r-requires c =
    omega (arith, c.header_size-h.ensures)

pub returns-then-r-ne0 : goal.returns-then-r-ne0
returns-then-r-ne0 c =
    let a = c.args in (
      c.not_carried.ensures
          ∙ rw c.numbered.ensures
          (refused_answer a.s a.v _ _ c.header_size-h.ensures _ c.test_sizes-r.ensures a.encoding c.if-r-ne0.true),
      refused_output a.s a.v _ _ c.header_size-h.ensures _ c.test_sizes-r.ensures c.if-r-ne0.true,
    )

pub returns : goal.returns
returns c =
    let a = c.args in (
      rw c.numbered-2.ensures
          (written_answer a.s a.v _ _ c.header_size-h.ensures _ c.test_sizes-r.ensures a.encoding c.if-r-ne0.false),
      written_output a.s a.v _ _ c.header_size-h.ensures _ c.test_sizes-r.ensures c.if-r-ne0.false
          c.put_message.ensures,
    )
