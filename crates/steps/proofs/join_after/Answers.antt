-- `steps::join_after` meets its contract: joining has the part of the output after the room for mark and length.
use Prim.Native.Nat.{ℕ}
use mathlib.Core.Path.{ap, ◌∙◌}
use lib.ListN.{length}
use Rattle.join.specs.Joining.{joining, store_joined}
use Rattle.join.specs.Told.{joined_of}
use Rattle.join.specs.Inner.{is_late}
use Rattle.join.proofs.Inner.{arrives, joining_open, store_open, out_open}
use Rattle.steps.proofs.Joins.{lent_long, behind_out}
use Rattle.steps.proofs.join_after.Goals as goal

-- a pair with the names of the clauses
named : {A B C D : Type 0} → A × (B × (C × D)) → record { joined_value : A; late_value : B; store_after : C; out_after : D }
named p = record { joined_value = p.0; late_value = p.1.0; store_after = p.1.1.0; out_after = p.1.1.1 }

pub join_in-requires : goal.join_in-requires
join_in-requires c =
    c.requires.zero_value

pub returns : goal.returns
returns c =
    let l = lent_long c.args.s (length c.args.zero.now) c.args.store.now c.args.p.now c.args.out.now c.requires.room_in_bounds in named ((
      c.join_in.ensures.joined_value ∙ ap joined_of (joining_open _ _ _ _ c.requires.store_value c.requires.n_value _ ∙ ap
          (λ (m : ℕ). joining c.args.s (length c.args.zero.now) c.args.store.now c.args.p.now m) l),
      (
        c.join_in.ensures.late_value ∙ ap is_late (arrives _ _ _ _ c.requires.store_value c.requires.n_value),
        (
          c.join_in.ensures.store_after ∙ store_open _ _ _ _ c.requires.store_value c.requires.n_value _ ∙ ap (λ (m : ℕ). store_joined c.args.s (length c.args.zero.now) c.args.store.now
              c.args.p.now m) l,
          behind_out _ _ _ _ _ c.requires.room_in_bounds (c.join_in.ensures.out_after ∙ out_open _ _ _ _ c.requires.store_value c.requires.n_value _),
        ),
      ),
    ))
