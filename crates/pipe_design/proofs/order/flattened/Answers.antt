use Rattle.std.proofs.Common.{◌≡◌, ◌∙◌, ap, sym, refl, subst, arith, length, map as map_list}
use Rattle.block_core.specs.View.{block_of}
use Rattle.pipe_design.specs.Order.{blocks_in, all_of}
use Rattle.pipe_design.proofs.Joining.{all_yielded, left_more, all_more}
use Rattle.pipe_design.proofs.order.flattened.Goals as goal

pub loop-list-preserved : goal.loop-list-preserved
loop-list-preserved c =
    let at = c.loop-list.invariant in
    let some = c.in-Some.ensures.steps in
    record {
      left = left_more _ c.in-Some.list _ _ _ some.0 at.left;
      count = let short = ap length some.0 in let gone = some.1 in let was = at.count in omega arith;
      made = ap (map_list block_of) c.in_ok-append.ensures.items ∙ all_more block_of (λ xs. map_list block_of xs.items) _ _ c.loop-list.yielded c.in-Some.list at.made refl;
    }

pub returns : goal.returns
returns c =
    let at = c.loop-list.invariant in
    let none = c.in-None.ensures.steps in
    at.made ∙ ap (λ l. all_of (blocks_in l)) (all_yielded _ _ _ at.left (sym at.count ∙ none.0))
