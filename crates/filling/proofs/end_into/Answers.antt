-- `filling::end_into` meets its contract.
use Prim.Native.Nat.{◌/◌}
use Rattle.filling.proofs.FixedPart.{bit_of}
use Rattle.light.proofs.Header.{body_there}
use Rattle.packet.specs.FixedPart.{flags_of}
use mathlib.Core.Path.{◌∙◌}
use Rattle.filling.proofs.end_into.Goals as goal

pub returns : goal.returns
unfolding flags_of
returns c =
    record {
      walk = body_there c.args.p.now c.args.at (λ q. c.has_body.ensures c.if-not-has_body.false (c.requires.seg_value ∙ q));
      same =
          simp (
            c.saturating_sub-h.ensures,
            c.saturating_sub.ensures,
            c.counter_size.ensures,
            c.requires.seg_value,
            bit_of (c.args.f / 8),
          );
    }
