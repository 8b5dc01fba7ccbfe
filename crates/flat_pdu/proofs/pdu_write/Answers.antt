-- `flat_pdu::pdu_write` meets its contract: numbers that fit go to the call, any other is 22.
use Rattle.flat_pdu.proofs.Choosing.{write_refused_lem, write_kept, write_told, write_laid}
use Rattle.flat_pdu.proofs.pdu_write.Goals as goal

pub returns-in_default : goal.returns-in_default
returns-in_default c =
    let f = c.in_default.ensures in
    (write_refused_lem _ _ _ _ _ f _, write_kept _ _ _ _ _ f _)

pub returns : goal.returns
returns c =
    let v = c.in-Ok.ensures in let w = c.write.ensures in (
      write_told _ _ _ _ _ v.0 _ v.1 _ _ _ w.0 c.written_numbers.ensures,
      write_laid _ _ _ _ _ v.0 _ v.1 _ _ w.1,
    )
