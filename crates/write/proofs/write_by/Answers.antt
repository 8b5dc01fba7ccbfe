-- `write::write_by` meets its contract: the tests are the definition's, and the pieces laid are the packet.
use borrow.Author.Rules.{rules}
use mathlib.Core.Path.{refl, sym, ap}
use native.Mathlib.Omega.{arith}
use Rattle.std.proofs.lemmas.Result.{err_from_is_err_and}
use Rattle.write.specs.Writing.{is_old}
use Rattle.write.proofs.Steps.{values_refused, sizes_refused, size_least, packet_written}
use Rattle.write.proofs.write_by.Goals as goal

pub returns-in_err-test_values : goal.returns-in_err-test_values
returns-in_err-test_values c =
    let g = c.args in
    let p = err_from_is_err_and c.from_residual.result c.from_residual.ensures.1 in
    -- the sizes are not made yet, so any will do
    let d = values_refused g.s g.v g.o _ _ refl refl refl (is_old g.writer) g.out.now _ c.in_err-test_values.ensures in
    (rw (p.1, p.2) d.0, d.1, record { octets = c.lent_in_octets.ensures; transaction = search rules })

pub returns-in_err-test_sizes : goal.returns-in_err-test_sizes
returns-in_err-test_sizes c =
    let g = c.args in
    let p = err_from_is_err_and c.from_residual-in_err-test_sizes.result c.from_residual-in_err-test_sizes.ensures.1 in
    let z = sym (ap (λ (r : _). r.number) c.in_ok-test_values.ensures) in
    let d = sizes_refused g.s g.v g.o _ _ c.header_size-h.ensures c.secondary_size-secondary.ensures c.packet_size-size.ensures
    (is_old g.writer) g.out.now z _ c.in_err-test_sizes.ensures in
    (rw (p.1, p.2) d.0, d.1, record { octets = c.lent_in_octets.ensures; transaction = search rules })

pub overflow_sub-size : goal.overflow_sub-size
overflow_sub-size c =
    let g = c.args in
    let z = sym (ap (λ (r : _). r.number) c.in_ok-test_values.ensures) in
    let y = sym (ap (λ (r : _). r.number) c.in_ok-test_sizes.ensures) in
    let l = size_least g.s g.v g.o _ g.body.now c.header_size-h.ensures c.secondary_size-secondary.ensures c.packet_size-size.ensures
    (is_old g.writer) g.out.now z y in
    omega arith

pub returns : goal.returns
returns c =
    let g = c.args in
    let z = sym (ap (λ (r : _). r.number) c.in_ok-test_values.ensures) in
    let y = sym (ap (λ (r : _). r.number) c.in_ok-test_sizes.ensures) in
    let d = packet_written g.s g.v g.o _ g.body.now c.header_size-h.ensures c.secondary_size-secondary.ensures c.packet_size-size.ensures
    (is_old g.writer) g.out.now z y c.put_packet.ensures in
    (d.0, d.1, record { octets = c.lent_in_octets.ensures; transaction = search rules })
