-- `taking::copy_message` meets its contract: the key, the first's body and the others' are laid one after another.
use mathlib.Core.Path.{ap, sym, ◌∙◌}
use Rattle.packet.specs.Reading.{read_packet}
use Rattle.cells.specs.Rows.{packet_in}
use Rattle.packet.specs.Numbers.{next_counter, steps_most}
use Rattle.taking.proofs.Heads.{head_asked, head_told, head_key_room, head_body_room, head_ready, head_written}
use Rattle.taking.proofs.copy_message.Goals as goal

-- a pair with the names of the clauses
named : {A B : Type 0} → A × B → record { asked : A; q_in_bounds : B }
named p = record { asked = p.0; q_in_bounds = p.1 }

-- a pair with the names of the clauses
named_2 : {A B C : Type 0} → A × (B × C) → record { lent : A; asked : B; ready : C }
named_2 p = record { lent = p.0; asked = p.1.0; ready = p.1.1 }

-- a pair with the names of the clauses
named_3 : {A B : Type 0} → A × B → record { value : A; out_after : B }
named_3 p = record { value = p.0; out_after = p.1 }

pub put_key-key-requires : goal.put_key-key-requires
put_key-key-requires c =
    let r = c.row-r.ensures in let q = c.packet_in-q.ensures in let h = c.requires.h_value ∙ ap (read_packet c.args.s) (sym (c.packet_in-q.ensures ∙ ap packet_in c.row-r.ensures)) in let t = c.piece_in-t.ensures in named ((
      head_asked next_counter steps_most _ _ _ c.args.n _ (λ j. (c.type_inv.store j).fits) c.requires.i_value r q h t,
      head_key_room next_counter steps_most _ _ _ c.args.n _ (λ j. (c.type_inv.store j).fits) c.requires.i_value r q h t c.requires.opens,
    ))

pub put_body-at-requires : goal.put_body-at-requires
put_body-at-requires c =
    let r = c.row-r.ensures in
    let q = c.packet_in-q.ensures in
    let h = c.requires.h_value ∙ ap (read_packet c.args.s) (sym (c.packet_in-q.ensures ∙ ap packet_in c.row-r.ensures)) in
    let t = c.piece_in-t.ensures in
    head_body_room next_counter steps_most _ _ _ c.args.n _ (λ j. (c.type_inv.store j).fits) c.requires.i_value r q h t c.requires.opens
    c.put_key-key.ensures.value c.put_key-key.ensures.out_after

pub copy_rest-steps-requires : goal.copy_rest-steps-requires
copy_rest-steps-requires c =
    let r = c.row-r.ensures in let q = c.packet_in-q.ensures in let h = c.requires.h_value ∙ ap (read_packet c.args.s) (sym (c.packet_in-q.ensures ∙ ap packet_in c.row-r.ensures)) in let t = c.piece_in-t.ensures in named_2 ((
      c.requires.lent,
      (
        head_asked next_counter steps_most _ _ _ c.args.n _ (λ j. (c.type_inv.store j).fits) c.requires.i_value r q h t,
        head_ready next_counter steps_most _ _ _ c.args.n _ (λ j. (c.type_inv.store j).fits) c.requires.i_value r q h t c.requires.opens
            c.put_key-key.ensures.value c.put_key-key.ensures.out_after c.put_body-at.ensures.value c.put_body-at.ensures.out_after,
      ),
    ))

pub returns : goal.returns
returns c =
    let r = c.row-r.ensures in let q = c.packet_in-q.ensures in let h = c.requires.h_value ∙ ap (read_packet c.args.s) (sym (c.packet_in-q.ensures ∙ ap packet_in c.row-r.ensures)) in let t = c.piece_in-t.ensures in named_3 ((
      head_told next_counter steps_most _ _ _ c.args.n _ (λ j. (c.type_inv.store j).fits) c.requires.i_value r q h t c.copy_rest-steps.ensures.value,
      head_written next_counter steps_most _ _ _ c.args.n _ (λ j. (c.type_inv.store j).fits) c.requires.i_value r q h t c.requires.opens
          c.put_key-key.ensures.value c.put_key-key.ensures.out_after c.put_body-at.ensures.value c.put_body-at.ensures.out_after c.copy_rest-steps.ensures.out_after,
    ))
