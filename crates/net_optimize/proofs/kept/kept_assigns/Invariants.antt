use Rattle.std.proofs.Common.{◌≡◌, ◌++◌, map, drop}
use Rattle.net_core.specs.View.{assign_of}
use Rattle.net_optimize.specs.Renumber.{numbers_of, renumber_assign}
use Rattle.net_optimize.proofs.kept.kept_assigns.Given as goal

abbrev pub invariant-loop-assign : goal.invariant-loop-assign
invariant-loop-assign l = map assign_of l.all.items ++ map (renumber_assign (numbers_of l.numbers)) (map assign_of (drop l.assign-index l.assigns)) ≡ map (renumber_assign (numbers_of l.numbers)) (map assign_of l.assigns)
