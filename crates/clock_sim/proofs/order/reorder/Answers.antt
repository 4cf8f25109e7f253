use Rattle.std.proofs.Common.{subst, rules}
use Rattle.std.proofs.lemmas.List.Sorted.{IsNonDecreasingBy-from_sort_by_key}
use Rattle.clock_sim.specs.Orders.{AreDepths, rank}
use Rattle.clock_sim.proofs.OrderLemmas.{reordered}
use Rattle.clock_sim.proofs.order.reorder.Goals as goal

pub returns : goal.returns
returns c =
    let depths = c.in_ok-depths.depths.items in
    let sorted = IsNonDecreasingBy-from_sort_by_key (rank depths) _ c.in_ok-sort_by_key.ensures.sorted (λ a r q k. search rules) in
    let are = subst (λ l. AreDepths depths l) c.deref.ensures.value c.in_ok-depths.ensures in
    reordered _ _ _ depths c.requires.climb c.requires.reading are c.in_ok-sort_by_key.ensures.permutation sorted
