-- `taking::draw` meets its contract: the message is copied, and then the cells of its key and counters are cleared.
use native.Mathlib.Omega.{arith}
use Rattle.taking.proofs.Drawn.{draw_cell, draw_opens, draw_header, draw_told, draw_out, draw_fits, draw_store}
use Rattle.taking.proofs.draw.Goals as goal

-- a pair with the names of the clauses
named_2 : {A B : Type 0} → A × B → record { zero_value : A; counter_width_in_bounds : B }
named_2 p = record { zero_value = p.0; counter_width_in_bounds = p.1 }

-- a pair with the names of the clauses
named_3 : {A B C : Type 0} → A × (B × C) → record { value : A; out_after : B; store_after : C }
named_3 p = record { value = p.0; out_after = p.1.0; store_after = p.1.1 }

pub copy_message-t-requires : goal.copy_message-t-requires
copy_message-t-requires c =
    record {
      lent = c.requires.lent;
      h_value = c.requires.h_value;
      i_value = draw_cell _ _ _ c.args.out.now _ _ _ c.requires.i_value c.requires.i_lt_n.0 c.requires.i_lt_n.1 c.requires.b_in_bounds;
      opens = draw_opens _ _ _ _ _ _ _ c.requires.i_value c.requires.i_lt_n.0 c.requires.i_lt_n.1 c.requires.b_in_bounds;
    }

pub overflow_add-t : goal.overflow_add-t
overflow_add-t c =
    omega (
      arith,
      draw_header _ _ _ c.args.out.now _ c.args.i c.args.b c.requires.i_value c.requires.i_lt_n.0 c.requires.i_lt_n.1 c.requires.b_in_bounds
          (λ j. (c.slice_known-1.given j).fits) c.copy_message-t.ensures.value,
    )

pub clear-requires : goal.clear-requires
clear-requires c =
    named_2 ((
      c.requires.lent.1,
      draw_fits _ _ _ c.args.out.now _ _ _ c.requires.i_value c.requires.i_lt_n.0 c.requires.i_lt_n.1 c.requires.b_in_bounds
          (λ j. (c.slice_known-1.given j).fits) c.copy_message-t.ensures.value c.copy_message-t.ensures.out_after
          c.span-key.ensures,
    ))

pub returns : goal.returns
returns c =
    named_3 ((
      draw_told _ _ _ c.args.out.now _ _ _ c.requires.i_value c.requires.i_lt_n.0 c.requires.i_lt_n.1 c.requires.b_in_bounds c.copy_message-t.ensures.value,
      (
        draw_out _ _ _ _ _ _ _ c.requires.i_value c.requires.i_lt_n.0 c.requires.i_lt_n.1 c.requires.b_in_bounds c.copy_message-t.ensures.out_after,
        draw_store _ _ _ _ _ _ _ c.requires.i_value c.requires.i_lt_n.0 c.requires.i_lt_n.1 c.requires.b_in_bounds
            (λ j. (c.slice_known-1.given j).fits) c.copy_message-t.ensures.value c.copy_message-t.ensures.out_after c.span-key.ensures
            c.clear.ensures,
      ),
    ))
