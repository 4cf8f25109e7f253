use Rattle.std.proofs.Common.{◌≡◌, [], drop, map}
use Rattle.net_core.specs.View.{wire_of}
use Rattle.net_core.specs.ProductRules.Products.{wires_flat, wire_products}
use Rattle.net_core.proofs.product_rules.design.has_no_product_chains.Given as goal

abbrev pub invariant-loop-wire : goal.invariant-loop-wire
invariant-loop-wire l = record {
  flat : wires_flat l.marks.items (map wire_of (drop l.wire-index l.wire-items)) ≡ wires_flat [] (map wire_of l.wire-items);
  marks : wire_products l.marks.items (map wire_of (drop l.wire-index l.wire-items)) ≡ wire_products [] (map wire_of l.wire-items);
}
