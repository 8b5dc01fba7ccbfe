-- `walk::Settings::check` meets its contract: its tests are the definition's.
use mathlib.Core.Path.{ap}
use Rattle.walk.specs.Walk.{refusal}
use Rattle.walk.proofs.Begins.{begun_short, begun_long, begun_unknown, begun_none}
use Rattle.walk.proofs.Settings.check.Goals as goal
use Rattle.walk.proofs.Settings.check.Goals.{then-self-lt-TIMESTAMP_LEAST-via-then-self-lt-TIMESTAMP_LEAST}
use Rattle.walk.proofs.Settings.check.Goals.{then-self-lt-TIMESTAMP_LEAST-via-else-self-lt-TIMESTAMP_LEAST+then-self-gt-TIMESTAMP_MOST}
use Rattle.walk.proofs.Settings.check.Goals.{then-self-lt-TIMESTAMP_LEAST-via-else-self-lt-TIMESTAMP_LEAST+else-self-gt-TIMESTAMP_MOST+then-self-gt-PROFILE_FIXED}

pub returns-then-self-lt-TIMESTAMP_LEAST : goal.returns-then-self-lt-TIMESTAMP_LEAST
returns-then-self-lt-TIMESTAMP_LEAST c =
    ap refusal
    (elim c.then-self-lt-TIMESTAMP_LEAST.branch [
      | then-self-lt-TIMESTAMP_LEAST-via-then-self-lt-TIMESTAMP_LEAST w ↦
          begun_short _ w.if-self-lt-TIMESTAMP_LEAST.true
      | then-self-lt-TIMESTAMP_LEAST-via-else-self-lt-TIMESTAMP_LEAST+then-self-gt-TIMESTAMP_MOST w ↦
          begun_long _ w.if-self-lt-TIMESTAMP_LEAST.false w.if-self-gt-TIMESTAMP_MOST.true
      | then-self-lt-TIMESTAMP_LEAST-via-else-self-lt-TIMESTAMP_LEAST+else-self-gt-TIMESTAMP_MOST+then-self-gt-PROFILE_FIXED w ↦
          begun_unknown _ w.if-self-lt-TIMESTAMP_LEAST.false w.if-self-gt-TIMESTAMP_MOST.false w.if-self-gt-PROFILE_FIXED.true
    ])

pub returns : goal.returns
returns c =
    ap refusal (begun_none _ c.if-self-lt-TIMESTAMP_LEAST.false c.if-self-gt-TIMESTAMP_MOST.false c.if-self-gt-PROFILE_FIXED.false)
