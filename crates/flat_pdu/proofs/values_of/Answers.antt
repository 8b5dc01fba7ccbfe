-- `flat_pdu::values_of` meets its contract: each number fits, or one does not.
use native.Mathlib.Omega.{arith}
use Rattle.std.proofs.lemmas.Bool.{false_from_ne_true}
use Rattle.flat.proofs.Fitting.{fits_at, fits_none, fits_next, fits_not, passed_on}
use Rattle.flat_pdu.specs.Numbers.{pdu_widths, values_of}
use Rattle.flat_pdu.proofs.values_of.Goals as goal

pub returns-in_err-try_from : goal.returns-in_err-try_from
returns-in_err-try_from c =
    passed_on _ _ _ c.from_residual.result c.from_residual.ensures.1
    (fits_not 19 c.args.l.now pdu_widths 0 (omega arith) (omega (arith, c.in_err-try_from.ensures)))

pub returns-in_err-try_from-2 : goal.returns-in_err-try_from-2
returns-in_err-try_from-2 c =
    passed_on _ _ _ c.from_residual-in_err-try_from-2.result c.from_residual-in_err-try_from-2.ensures.1
    (fits_not 19 c.args.l.now pdu_widths 1 (omega arith) (omega (arith, c.in_err-try_from-2.ensures)))

pub returns-in_err-try_from-3 : goal.returns-in_err-try_from-3
returns-in_err-try_from-3 c =
    passed_on _ _ _ c.from_residual-in_err-try_from-3.result c.from_residual-in_err-try_from-3.ensures.1
    (fits_not 19 c.args.l.now pdu_widths 2 (omega arith) (omega (arith, c.in_err-try_from-3.ensures)))

pub returns-in_err-try_from-4 : goal.returns-in_err-try_from-4
returns-in_err-try_from-4 c =
    passed_on _ _ _ c.from_residual-in_err-try_from-4.result c.from_residual-in_err-try_from-4.ensures.1
    (fits_not 19 c.args.l.now pdu_widths 3 (omega arith) (omega (arith, c.in_err-try_from-4.ensures)))

pub returns-in_err-try_from-5 : goal.returns-in_err-try_from-5
returns-in_err-try_from-5 c =
    passed_on _ _ _ c.from_residual-in_err-try_from-5.result c.from_residual-in_err-try_from-5.ensures.1
    (fits_not 19 c.args.l.now pdu_widths 4 (omega arith) (omega (arith, c.in_err-try_from-5.ensures)))

pub returns-in_err-try_from-6 : goal.returns-in_err-try_from-6
returns-in_err-try_from-6 c =
    passed_on _ _ _ c.from_residual-in_err-try_from-6.result c.from_residual-in_err-try_from-6.ensures.1
    (fits_not 19 c.args.l.now pdu_widths 5 (omega arith) (omega (arith, c.in_err-try_from-6.ensures)))

pub returns-in_err-try_from-7 : goal.returns-in_err-try_from-7
returns-in_err-try_from-7 c =
    passed_on _ _ _ c.from_residual-in_err-try_from-7.result c.from_residual-in_err-try_from-7.ensures.1
    (fits_not 19 c.args.l.now pdu_widths 6 (omega arith) (omega (arith, c.in_err-try_from-7.ensures)))

pub returns-in_err-try_from-8 : goal.returns-in_err-try_from-8
returns-in_err-try_from-8 c =
    passed_on _ _ _ c.from_residual-in_err-try_from-8.result c.from_residual-in_err-try_from-8.ensures.1
    (fits_not 19 c.args.l.now pdu_widths 7 (omega arith) (omega (arith, c.in_err-try_from-8.ensures)))

pub returns-in_err-try_from-9 : goal.returns-in_err-try_from-9
returns-in_err-try_from-9 c =
    passed_on _ _ _ c.from_residual-in_err-try_from-9.result c.from_residual-in_err-try_from-9.ensures.1
    (fits_not 19 c.args.l.now pdu_widths 17 (omega arith) (omega (arith, c.in_err-try_from-9.ensures)))

pub returns-in_err-present_of : goal.returns-in_err-present_of
returns-in_err-present_of c =
    passed_on _ _ _ c.from_residual-in_err-present_of.result c.from_residual-in_err-present_of.ensures.1
    (false_from_ne_true _ (λ e.
    let f = fits_at 19 c.args.l.now pdu_widths e in
    absurd (c.in_err-present_of.ensures (record {
      source = f 9 (omega arith);
      destination = f 10 (omega arith);
      priority = f 11 (omega arith);
      timestamp = f 12 (omega arith);
      zone = f 13 (omega arith);
      session_name = f 14 (omega arith);
      domain = f 15 (omega arith);
      authentication = f 16 (omega arith);
    }))))

pub returns : goal.returns
unfolding values_of
returns c = (
  fits_next 18 c.args.l.now pdu_widths (omega (arith, c.fits-l 18))
      (fits_next 17 c.args.l.now pdu_widths (omega (arith, c.in_ok-try_from-9.ensures))
      (fits_next 16 c.args.l.now pdu_widths (omega (arith, c.in_ok-present_of.ensures.0))
      (fits_next 15 c.args.l.now pdu_widths (omega (arith, c.in_ok-present_of.ensures.0))
      (fits_next 14 c.args.l.now pdu_widths (omega (arith, c.in_ok-present_of.ensures.0))
      (fits_next 13 c.args.l.now pdu_widths (omega (arith, c.in_ok-present_of.ensures.0))
      (fits_next 12 c.args.l.now pdu_widths (omega (arith, c.in_ok-present_of.ensures.0))
      (fits_next 11 c.args.l.now pdu_widths (omega (arith, c.in_ok-present_of.ensures.0))
      (fits_next 10 c.args.l.now pdu_widths (omega (arith, c.in_ok-present_of.ensures.0))
      (fits_next 9 c.args.l.now pdu_widths (omega (arith, c.in_ok-present_of.ensures.0))
      (fits_next 8 c.args.l.now pdu_widths (omega (arith, c.fits-l 8))
      (fits_next 7 c.args.l.now pdu_widths (omega (arith, c.in_ok-try_from-8.ensures))
      (fits_next 6 c.args.l.now pdu_widths (omega (arith, c.in_ok-try_from-7.ensures))
      (fits_next 5 c.args.l.now pdu_widths (omega (arith, c.in_ok-try_from-6.ensures))
      (fits_next 4 c.args.l.now pdu_widths (omega (arith, c.in_ok-try_from-5.ensures))
      (fits_next 3 c.args.l.now pdu_widths (omega (arith, c.in_ok-try_from-4.ensures))
      (fits_next 2 c.args.l.now pdu_widths (omega (arith, c.in_ok-try_from-3.ensures))
      (fits_next 1 c.args.l.now pdu_widths (omega (arith, c.in_ok-try_from-2.ensures))
      (fits_next 0 c.args.l.now pdu_widths (omega (arith, c.in_ok-try_from.ensures))
      (fits_none c.args.l.now pdu_widths))))))))))))))))))),
  simp (
    c.in_ok-try_from.ensures.1,
    c.in_ok-try_from-2.ensures.1,
    c.in_ok-try_from-3.ensures.1,
    c.in_ok-try_from-4.ensures.1,
    c.in_ok-try_from-5.ensures.1,
    c.in_ok-try_from-6.ensures.1,
    c.in_ok-try_from-7.ensures.1,
    c.in_ok-try_from-8.ensures.1,
    c.in_ok-present_of.ensures.1,
    c.in_ok-try_from-9.ensures.1,
  ),
)
