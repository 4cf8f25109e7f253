use Rattle.std.proofs.Common.{◌≡◌, map, take}
use Rattle.net_core.specs.declared.tree.Net.{Net}
use Rattle.net_core.specs.View.{statement_of}
use Rattle.net_core.specs.Value.{Env}
use Rattle.net_core.specs.Clock.{Stored, edge}
use Rattle.net_optimize.specs.SimpleLogic.Simple.{Hold}
use Rattle.net_optimize.proofs.simple_logic.statements.simple_always.Given as goal

abbrev pub invariant-loop-stmt : goal.invariant-loop-stmt
invariant-loop-stmt l = (v : Env Net) (s : Stored) → Hold l.facts v → edge v (map statement_of l.all.items) s ≡ edge v (map statement_of (take l.stmt-index l.always)) s
