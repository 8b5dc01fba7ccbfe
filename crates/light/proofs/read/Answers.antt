-- `light::read` meets its contract.
use Rattle.std.specs.Prelude.{Ok}
use Rattle.light.specs.Light.{seen}
use Rattle.light.specs.declared.Light.{Light as Seen}
use Rattle.light.proofs.Plain.{segment_light, whole_light}
use mathlib.Core.Path.{sym, ap, ◌∙◌}
use Rattle.light.proofs.read.Goals as goal

pub returns-then-not-is_segment : goal.returns-then-not-is_segment
returns-then-not-is_segment c =
    let r = c.ready.ensures c.if-ready.true in
    let e = sym c.octet.ensures.value ∙ c.if-octet-eq0.true in
    let q = sym c.is_segment.ensures ∙ c.if-not-is_segment.true in
    ap (λ (x : Seen). seen (Ok x)) c.unsegmented.ensures ∙ whole_light c.args.s c.args.p.now r e q

pub returns-then-p-gt31 : goal.returns-then-p-gt31
returns-then-p-gt31 c =
    let r = c.ready.ensures c.if-ready.true in
    let e = sym c.octet.ensures.value ∙ c.if-octet-eq0.true in
    let q = sym c.is_segment.ensures ∙ c.if-not-is_segment.false in
    ap (λ (x : Seen). seen (Ok x)) c.segment.ensures ∙ segment_light c.args.s c.args.p.now r e q c.if-p-gt31.true
