-- `flat::packet_of` meets its contract: each number fits, or one does not.
use mathlib.Core.List.{[], ◌∷◌}
use native.Mathlib.Omega.{arith}
use Rattle.flat.proofs.Fitting.{fits_none, fits_next, fits_not, passed_on}
use Rattle.flat.specs.Given.{packet_widths}
use Rattle.flat.proofs.packet_of.Goals as goal

pub returns-in_err-try_from : goal.returns-in_err-try_from
returns-in_err-try_from c =
    passed_on _ _ _ c.from_residual.result c.from_residual.ensures.1
    (fits_not 3 (c.args.flags ∷ c.args.sequence_count ∷ c.args.counter ∷ []) packet_widths 0 (omega arith) (omega (arith, c.in_err-try_from.ensures)))

pub returns-in_err-try_from-2 : goal.returns-in_err-try_from-2
returns-in_err-try_from-2 c =
    passed_on _ _ _ c.from_residual-in_err-try_from-2.result c.from_residual-in_err-try_from-2.ensures.1
    (fits_not 3 (c.args.flags ∷ c.args.sequence_count ∷ c.args.counter ∷ []) packet_widths 1 (omega arith) (omega (arith, c.in_err-try_from-2.ensures)))

pub returns-in_err-try_from-3 : goal.returns-in_err-try_from-3
returns-in_err-try_from-3 c =
    passed_on _ _ _ c.from_residual-in_err-try_from-3.result c.from_residual-in_err-try_from-3.ensures.1
    (fits_not 3 (c.args.flags ∷ c.args.sequence_count ∷ c.args.counter ∷ []) packet_widths 2 (omega arith) (omega (arith, c.in_err-try_from-3.ensures)))

pub returns : goal.returns
returns c = (
  fits_next 2 (c.args.flags ∷ c.args.sequence_count ∷ c.args.counter ∷ []) packet_widths (omega (arith, c.in_ok-try_from-3.ensures))
      (fits_next 1 (c.args.flags ∷ c.args.sequence_count ∷ c.args.counter ∷ []) packet_widths (omega (arith, c.in_ok-try_from-2.ensures))
      (fits_next 0 (c.args.flags ∷ c.args.sequence_count ∷ c.args.counter ∷ []) packet_widths (omega (arith, c.in_ok-try_from.ensures))
      (fits_none (c.args.flags ∷ c.args.sequence_count ∷ c.args.counter ∷ []) packet_widths))),
  simp (
    c.in_ok-try_from.ensures.1,
    c.in_ok-try_from-2.ensures.1,
    c.in_ok-try_from-3.ensures.1,
  ),
)
