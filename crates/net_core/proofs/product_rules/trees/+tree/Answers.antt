use Rattle.std.proofs.Common.{refl}
use Rattle.net_core.proofs.product_rules.trees.+tree.Goals as goal

pub in_tree-returns-in-Binary-clause-apart : goal.in_tree-returns-in-Binary-clause-apart
in_tree-returns-in-Binary-clause-apart t c =
    let l = c.in_tree-left.ensures in
    let r = c.in_tree-right.ensures in
    rw (c.under.ensures.apart, c.both.ensures.product, c.both.ensures.apart, l.product, l.apart, r.product, r.apart, c.in-Binary.is, c.deref-in-Binary.ensures, c.deref-in-Binary-2.ensures) refl
