-- What reading answers, as the definitions have it: the refusal, or none, with a header, which is zeros beside a refusal.
-- Assumes nothing: these are definitions.
use Rattle.std.specs.Prelude.{ℕ, Bool}
use Rattle.walk.specs.declared.Refusal.{Refusal}
use Rattle.fields.specs.declared.Place.{Place}
use Rattle.packet.specs.declared.Primary.{Primary}
use Rattle.packet.specs.declared.Fixed.{Fixed}
use Rattle.packet.specs.declared.Present.{Present}
use Rattle.packet.specs.declared.Ids.{Ids}
use Rattle.packet.specs.declared.Texts.{Texts}

-- h is H, the octets of the secondary header without its counter; a header with a zone is of the withdrawn kind
pub record Header : Type 0 where
  pub refusal : Refusal
  pub primary : Primary
  pub fixed : Fixed
  pub has : Present
  pub ids : Ids
  pub texts : Texts
  pub h : ℕ
  pub body : Place
  pub withdrawn : Bool
