use Rattle.std.proofs.Common.{◌≡◌, ◌≤◌, ◌++◌, map}
use Rattle.net_core.specs.declared.tree.Net.{Net}
use Rattle.net_core.specs.declared.tree.Stmts.{size-Stmts}
use Rattle.net_core.specs.View.{statements_of}
use Rattle.register_rules.specs.EqualRegisters.Settings.{setting_of, all_behind, all_settings}
use Rattle.register_rules.proofs.equal_registers.settings.+settings.Given as goal

abbrev pub invariant-add_all-loop-left : goal.invariant-add_all-loop-left
invariant-add_all-loop-left l = record {
  place : all_behind l.at (statements_of l.left) ≡ all_behind l.fn.place (statements_of l.fn.stmts);
  settings : map setting_of l.all.items ++ all_settings l.at (statements_of l.left) ≡ map setting_of l.fn.all.items ++ all_settings l.fn.place (statements_of l.fn.stmts);
  depth : size-Stmts Net l.left ≤ size-Stmts Net l.fn.stmts;
}
