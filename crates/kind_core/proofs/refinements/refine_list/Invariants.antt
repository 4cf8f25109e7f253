use Rattle.std.proofs.Common.{◌≡◌, ◌++◌, map, take, drop}
use Rattle.kind_core.specs.Edges.{refined}
use Rattle.kind_core.proofs.refinements.refine_list.Given as goal

abbrev pub invariant-loop-i : goal.invariant-loop-i
invariant-loop-i l = l.kinds ≡ map (refined l.refinement) (take l.i l.initial.kinds) ++ drop l.i l.initial.kinds
