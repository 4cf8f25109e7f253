use Rattle.std.proofs.Common.{◌≡◌, [], ◌∷◌, ◌++◌, length, sym, ap, ◌∙◌, arith, rules}
use Rattle.std.specs.List.{range_with_len}
use Rattle.std.proofs.lemmas.List.Sorted.{IsNonDecreasingBy-from_sort_by_key}
use Rattle.event_sim.specs.Orders.{rank}
use Rattle.event_sim.proofs.Walks.{range_more, sorted_order}
use Rattle.event_sim.proofs.order.order_of.Goals as goal

pub loop-at-preserved : goal.loop-at-preserved
loop-at-preserved c = c.in_ok-push.ensures.items ∙ ap (λ l. l ++ c.loop-at.at ∷ []) c.loop-at.invariant ∙ sym (range_more c.loop-at.at)

pub returns-clause-order : goal.returns-clause-order
returns-clause-order c =
    let all : c.loop-at.at ≡ length c.args.draws.now = omega arith in
    sorted_order (length c.args.draws.now) _ _ (c.loop-at.invariant ∙ ap (range_with_len 0) all) c.in_ok-sort_by_key.ensures.permutation

pub returns-clause-sorted : goal.returns-clause-sorted
returns-clause-sorted c = IsNonDecreasingBy-from_sort_by_key (rank c.args.draws.now) _ c.in_ok-sort_by_key.ensures.sorted (λ a r q k. search rules)
