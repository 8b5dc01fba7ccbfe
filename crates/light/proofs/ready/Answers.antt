-- `light::ready` meets its contract.
use Prim.Native.Nat.{ℕ, ◌+◌, ◌%◌}
use Rattle.light.proofs.FixedPart.{ready_is}
use borrow.Author.Tests.{ltb-true}
use mathlib.Core.Path.{ap, ◌∙◌}
use native.Mathlib.Omega.{arith}
use Rattle.light.proofs.ready.Goals as goal

pub returns : goal.returns
returns c =
    λ h.
    ready_is c.args.s c.args.p.now (omega (arith, c.if-p-lt27.false))
    (omega (arith, c.if-s-lt1.false)) (omega (arith, c.if-s-gt16.false)) (omega (arith, c.if-s-gt1.false))
    (omega (arith, c.if-first-gt31.false)) c.if-first-ne1.false
    (λ q. c.if-apid-eq2047.false (ap (λ (x : ℕ). x % 2048) c.word-apid.ensures.value ∙ q))
    (c.if-p-size.false ∙ ap (λ (x : ℕ). x + 7) c.word-size.ensures.value) (omega arith) (ltb-true _ _ h)
