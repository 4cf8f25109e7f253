use Rattle.std.proofs.Common.{◌≡◌, map, length}
use Rattle.net_core.specs.declared.tree.Net.{Net}
use Rattle.net_core.specs.View.{statement_of, statements_of}
use Rattle.net_core.specs.Value.{Env}
use Rattle.net_core.specs.Clock.{Stored, all_done, edge}
use Rattle.net_optimize.specs.SimpleLogic.Lost.{AreOverwritten}
use Rattle.net_optimize.proofs.simple_logic.lost_sets.without_lost.Given as goal

abbrev pub invariant-loop-last : goal.invariant-loop-last
invariant-loop-last l = record {
  done : (v : Env Net) (s : Stored) → all_done v (statements_of l.list) (edge v (map statement_of l.prefix.items) s) ≡ edge v (map statement_of l.fn.prefix.items) s;
  overwritten : AreOverwritten (statements_of l.list) l.registers.keys;
}

abbrev pub decreases-loop-last : goal.decreases-loop-last
decreases-loop-last l = length l.prefix.items
