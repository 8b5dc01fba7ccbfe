-- Two answers of reading that the definitions' record doesn't tell apart are the same.
-- Assumes nothing.
use mathlib.Core.Path.{◌≡◌, sym, ap}
use Rattle.std.specs.Prelude.{Result, Ok, Err}
use Rattle.walk.specs.declared.Refused.{Refused}
use Rattle.walk.proofs.Refuses.{has_number}
use Rattle.walk.proofs.Apart.{told_one}
use Rattle.packet.specs.Answer.{Header}
use Rattle.packet.specs.declared.Header.{Header as Decoded}
use Rattle.packet.specs.Reading.{refused_header}
use Rattle.packet.specs.Decoded.{decoded}

part : Header → Decoded
part h =
    record {
      primary = h.primary;
      fixed = h.fixed;
      has = h.has;
      ids = h.ids;
      texts = h.texts;
      h = h.h;
      body = h.body;
      withdrawn = h.withdrawn;
    }

pub decoded_one : (x y : Result Decoded Refused) → decoded x ≡ decoded y → x ≡ y
unfolding part refused_header
decoded_one (Ok h) (Ok g) e = ap (λ (x : Header). Ok (part x)) e
decoded_one (Ok h) (Err r) e = absurd (has_number r (sym (ap (λ (x : Header). x.refusal.number) e)))
decoded_one (Err r) (Ok h) e = absurd (has_number r (ap (λ (x : Header). x.refusal.number) e))
decoded_one (Err r) (Err q) e = ap (λ (x : Refused). Err x) (told_one (ap (λ (x : Header). x.refusal) e))
