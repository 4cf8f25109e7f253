use Rattle.std.proofs.Common.{map, take}
use Rattle.net_core.specs.declared.tree.Net.{Net}
use Rattle.net_core.specs.View.{assign_of}
use Rattle.net_core.specs.Value.{Env}
use Rattle.register_rules.specs.NarrowRegisters.Narrow.{Each}
use Rattle.net_optimize.specs.SimpleLogic.Simple.{Hold, IsSameAssign}
use Rattle.net_optimize.proofs.simple_logic.statements.simple_assigns.Given as goal

abbrev pub invariant-loop-assign : goal.invariant-loop-assign
invariant-loop-assign l = (v : Env Net) → Hold l.facts v → Each (IsSameAssign v) (map assign_of (take l.assign-index l.assigns)) (map assign_of l.all.items)
