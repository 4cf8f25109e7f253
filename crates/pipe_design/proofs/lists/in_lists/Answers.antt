use Rattle.std.proofs.Common.{◌≡◌, ◌∙◌, refl, ap, map as map_list}
use Rattle.block_core.specs.View.{block_of}
use Rattle.pipe_design.specs.Order.{blocks_in}
use Rattle.pipe_design.proofs.Joining.{cons_both}
use Rattle.pipe_design.proofs.lists.in_lists.Goals as goal

pub returns : goal.returns
returns c =
    ap blocks_in c.in_ok-all.ensures.items
    ∙ cons_both (ap (map_list block_of) c.in_ok-first.ensures.items)
    (cons_both refl
    (cons_both (ap (map_list block_of) c.in_ok-sources.ensures.items)
    (cons_both c.in_ok-slots.ensures
    (cons_both c.in_ok-words.ensures
    (cons_both c.in_ok-targets.ensures
    (cons_both (ap (map_list block_of) c.in_ok-actions.ensures.items)
    (cons_both c.in_ok-operations.ensures
    (cons_both (ap (map_list block_of) c.in_ok-control.ensures.items) (cons_both refl (cons_both (ap (map_list block_of) c.in_ok-answers.ensures.items) (cons_both refl refl)))))))))))
