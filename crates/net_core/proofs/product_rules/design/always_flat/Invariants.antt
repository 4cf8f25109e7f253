use Rattle.std.proofs.Common.{◌≡◌, drop, map}
use Rattle.net_core.specs.View.{statement_of}
use Rattle.net_core.specs.ProductRules.Products as products
use Rattle.net_core.proofs.product_rules.design.always_flat.Given as goal

abbrev pub invariant-loop-stmt : goal.invariant-loop-stmt
invariant-loop-stmt l = products.always_flat l.marks (map statement_of (drop l.stmt-index l.always)) ≡ products.always_flat l.marks (map statement_of l.always)
