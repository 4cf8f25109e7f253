use Rattle.std.proofs.Common.{◌≡◌, drop, map}
use Rattle.net_core.specs.View.{assign_of}
use Rattle.net_core.specs.ProductRules.Products as products
use Rattle.net_core.proofs.product_rules.design.assigns_flat.Given as goal

abbrev pub invariant-loop-assign : goal.invariant-loop-assign
invariant-loop-assign l = products.assigns_flat l.marks (map assign_of (drop l.assign-index l.assigns)) ≡ products.assigns_flat l.marks (map assign_of l.assigns)
