use Rattle.std.proofs.Common.{◌≡◌, true, map, take}
use Rattle.net_core.specs.View.{statement_of}
use Rattle.net_core.specs.Clock.{edge}
use Rattle.net_rules.specs.NetSizes.Fitting.{sizes_of}
use Rattle.net_rules.specs.NetSizes.Keeping.{Keeps}
use Rattle.net_rules.proofs.net_sizes.keeping.edge_keeps.Given as goal

abbrev pub invariant-loop-stmt : goal.invariant-loop-stmt
invariant-loop-stmt l = l.all ≡ true → Keeps (sizes_of l.sizes) (λ v s. edge v (map statement_of (take l.stmt-index l.always)) s)
