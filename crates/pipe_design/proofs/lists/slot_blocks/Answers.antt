use Rattle.std.proofs.Common.{◌∙◌, ap, sym, map as map_list}
use Rattle.block_core.specs.View.{block_of}
use Rattle.pipe_design.proofs.Joining.{all_yielded}
use Rattle.pipe_design.proofs.lists.slot_blocks.Goals as goal

pub returns : goal.returns
returns c =
    let at = c.loop-part.invariant in
    let none = c.in-None.ensures.steps in
    at.made ∙ ap (map_list (λ x. block_of x.block)) (all_yielded _ _ _ at.left (sym at.count ∙ none.0))
