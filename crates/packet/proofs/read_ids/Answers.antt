-- `packet::read_ids` meets its contract: its steps are the definition's.
use Rattle.std.proofs.Common.{arith}
use Rattle.packet.specs.Reading.{ids_of}
use Rattle.walk.proofs.Keeps.{octet_keeps, wide_keeps, uinteger_keeps, optional_kept}
use Rattle.std.proofs.lemmas.Result.{err_from_is_err_and}
use Prim.Native.Nat.{ℕ}
use mathlib.Core.List.{List}
use Rattle.walk.specs.declared.Settings.{Settings}
use Rattle.walk.specs.declared.Bound.{Bound}
use Rattle.walk.specs.Walk.{Reading, Step, octet_field, wide_field, uinteger}
use Rattle.fields.specs.Fields.{opt}
use Rattle.packet.proofs.Chain.{opted, then_went, then_stopped}
use Rattle.packet.proofs.read_ids.Goals as goal

-- the steps, for any settings, bound and octets
abbrev octet_at : Settings → Bound → List ℕ → Reading → Step ℕ
octet_at s b p = octet_field b p

abbrev counter_at : Settings → Bound → List ℕ → Reading → Step ℕ
counter_at s b p = wide_field 4 b p

pub returns-in_err-optional : goal.returns-in_err-optional
unfolding ids_of
returns-in_err-optional c = grind (arith, octet_keeps, wide_keeps, uinteger_keeps, optional_kept)

pub returns-in_err-optional-2 : goal.returns-in_err-optional-2
unfolding ids_of
returns-in_err-optional-2 c = grind (arith, octet_keeps, wide_keeps, uinteger_keeps, optional_kept)

pub returns-in_err-optional-3 : goal.returns-in_err-optional-3
unfolding ids_of
returns-in_err-optional-3 c = grind (arith, octet_keeps, wide_keeps, uinteger_keeps, optional_kept)

pub returns-in_err-optional-4 : goal.returns-in_err-optional-4
unfolding ids_of
returns-in_err-optional-4 c =
    let source = opted octet_at c.args.has.source 0 _ _ _ _ _ (λ s l k. k) c.in_ok-optional.ensures.present c.in_ok-optional.ensures.absent in
    let to = opted octet_at c.args.has.destination 0 _ _ _ _ _ (λ s l k. k) c.in_ok-optional-2.ensures.present c.in_ok-optional-2.ensures.absent in
    let counter = opted counter_at c.args.segment 0 _ _ _ _ _ (λ s l k. k) c.in_ok-optional-3.ensures.present c.in_ok-optional-3.ensures.absent in
    let priority = opted uinteger c.args.has.priority 0 _ _ _ _ _ (λ s l k. k) c.in_err-optional-4.ensures.present c.in_err-optional-4.ensures.absent in
    let both = then_went (λ s b p. opt c.args.has.destination 0 (octet_at s b p)) source to in
    let three = then_went (λ s b p. opt c.args.segment 0 (counter_at s b p)) both counter in
    let h = then_stopped (λ s b p. opt c.args.has.priority 0 (uinteger s b p)) three priority in
    let p = err_from_is_err_and c.from_residual-in_err-optional-4.result c.from_residual-in_err-optional-4.ensures.1 in rw (p.1, p.2) h

pub returns : goal.returns
unfolding ids_of
returns c = grind (arith, octet_keeps, wide_keeps, uinteger_keeps, optional_kept)
