-- `laying::put_full` meets its contract.
use Rattle.laying.proofs.Whole.{full_pieces}
use Rattle.octets.proofs.Laying.{lays_both}
use Rattle.write.specs.Given.{lent_of}
use mathlib.Core.Path.{◌∙◌}
use Rattle.laying.proofs.put_full.Goals as goal

pub put_fixed-requires : goal.put_fixed-requires
put_fixed-requires c =
    record { in_bounds = c.requires.in_bounds; in_limits = c.requires.ready.numbers.limited; own = c.requires.own; present_value = c.requires.present_value }

pub blob_if-f-requires : goal.blob_if-f-requires
blob_if-f-requires c =
    let r = c.requires.ready in record { profile_value = r.numbers.profile; x_len_bound = r.texts.name.most }

pub domain_if-g-requires : goal.domain_if-g-requires
domain_if-g-requires c =
    let r = c.requires.ready in record { profile_value = r.numbers.profile; x_len_bound = r.texts.domain.most; lengths_len_bound = r.texts.parts }

pub blob_if-i-requires : goal.blob_if-i-requires
blob_if-i-requires c =
    let r = c.requires.ready in record { profile_value = r.numbers.profile; x_len_bound = r.texts.authentication.most }

pub shape_of-out : goal.shape_of-out
shape_of-out c =
    c.block.auto.out
    ∙ (c.blob_if-i.auto.out
    ∙ (c.domain_if-g.auto.out
    ∙ (c.blob_if-f.auto.out
    ∙ (c.block_if-e.auto.out
    ∙ (c.uinteger_if-d.auto.out
    ∙ (c.four_if-c.auto.out
    ∙ (c.octet_if-b.auto.out ∙ (c.octet_if-a.auto.out ∙ c.put_fixed.auto.out))))))))

pub returns : goal.returns
returns c =
    let g = c.args in let p = full_pieces g.s g.h.now
    (lent_of g.texts) g.flags g.count g.counter g.n
    g.body.now c.requires.ready.numbers.limited.has_zone in
    rw (← p)
    (lays_both c.put_fixed.ensures
    (lays_both c.octet_if-a.ensures
    (lays_both c.octet_if-b.ensures
    (lays_both c.four_if-c.ensures
    (lays_both c.uinteger_if-d.ensures
    (lays_both c.block_if-e.ensures
    (lays_both c.blob_if-f.ensures
    (lays_both c.domain_if-g.ensures
    (lays_both c.blob_if-i.ensures c.block.ensures)))))))))
