-- `laying::packet_size` meets its contract.
use Rattle.laying.proofs.Whole.{writes}
use Rattle.light.proofs.Plain.{no}
use borrow.Author.Tests.{eq-eqb}
use mathlib.Core.Bool.{not}
use mathlib.Core.Path.{sym, ap, ◌∙◌}
use native.Mathlib.Omega.{arith}
use Rattle.laying.proofs.packet_size.Goals as goal

pub returns-then-not-own_ready : goal.returns-then-not-own_ready
returns-then-not-own_ready c =
    λ h. absurd (omega arith)

pub returns-then-not-ready : goal.returns-then-not-ready
returns-then-not-ready c =
    λ h. absurd (omega arith)

pub header_size-requires : goal.header_size-requires
header_size-requires c =
    c.ready.ensures c.if-not-ready.false

pub overflow_add-second : goal.overflow_add-second
overflow_add-second c =
    omega (arith, c.header_size.ensures.small, c.counter_size.ensures.small)

pub returns-then-second-gt-HEADER_MOST : goal.returns-then-second-gt-HEADER_MOST
returns-then-second-gt-HEADER_MOST c =
    λ h. absurd (omega arith)

pub returns-then-body : goal.returns-then-body
returns-then-body c =
    λ h. absurd (omega arith)

pub overflow_add-size : goal.overflow_add-size
overflow_add-size c =
    omega (arith, c.if-second-gt-HEADER_MOST.false)

pub overflow_add-size-2 : goal.overflow_add-size-2
overflow_add-size-2 c =
    omega (arith, c.if-second-gt-HEADER_MOST.false, c.if-body.false)

pub returns-then-room-size : goal.returns-then-room-size
returns-then-room-size c =
    λ h. absurd (omega arith)

pub returns-then-body-eq0 : goal.returns-then-body-eq0
returns-then-body-eq0 c =
    λ h. absurd (omega arith)

pub returns-else-body-eq0 : goal.returns-else-body-eq0
returns-else-body-eq0 c =
    λ h.
    writes (c.ready.ensures c.if-not-ready.false) (c.own_ready.ensures c.if-not-own_ready.false) _ c.header_size.ensures.size
    c.counter_size.ensures.size c.args.room (omega (arith, c.if-second-gt-HEADER_MOST.false)) (omega
    (arith, c.if-body.false)) (omega (arith, c.if-room-size.false))
    (λ q. omega (arith, c.if-body-eq0.false))

pub returns-else-flags-ne3 : goal.returns-else-flags-ne3
returns-else-flags-ne3 c =
    λ h.
    writes (c.ready.ensures c.if-not-ready.false) (c.own_ready.ensures c.if-not-own_ready.false) _ c.header_size.ensures.size
    c.counter_size.ensures.size c.args.room (omega (arith, c.if-second-gt-HEADER_MOST.false)) (omega
    (arith, c.if-body.false)) (omega (arith, c.if-room-size.false))
    (λ q. no (sym (ap not (eq-eqb _ 3 c.if-flags-ne3.false)) ∙ q))
