use Rattle.std.proofs.Common.{◌≡◌, ◌≤◌, map}
use Rattle.net_core.specs.declared.tree.Net.{Net}
use Rattle.net_core.specs.declared.tree.Stmts.{size-Stmts}
use Rattle.net_core.specs.View.{statement_of, statements_of}
use Rattle.net_core.specs.Value.{Env}
use Rattle.net_core.specs.Clock.{Stored, all_done, edge}
use Rattle.register_rules.specs.NarrowRegisters.Narrow.{coding_of, AreNarrowed, IsNarrowed}
use Rattle.register_rules.proofs.narrow_registers.assigning.+statements.Given as goal

abbrev pub invariant-narrow_stmts-loop-left : goal.invariant-narrow_stmts-loop-left
invariant-narrow_stmts-loop-left l = record {
  done : (v t : Env Net) → AreNarrowed (coding_of l.codes) v t → (r s : Stored) → IsNarrowed (coding_of l.codes).registers r s
      → (now : Stored) × (all_done v (statements_of l.left) now ≡ all_done v (statements_of l.fn.stmts) r) × IsNarrowed (coding_of l.codes).registers now (edge t (map statement_of l.prefix.items) s);
  depth : size-Stmts Net l.left ≤ size-Stmts Net l.fn.stmts;
}
