-- Whatever adds the parts that are left has added all of them.
use Rattle.std.proofs.Common.{ℕ, ◌≤◌, List}
use Rattle.net_core.specs.declared.tree.Net.{Net}
use Rattle.net_core.specs.declared.tree.Parts.{size-Parts}
use Rattle.net_core.specs.Names.{name_of}
use Rattle.net_core.specs.View.{netlist_of, trees_of}
use Rattle.verilog_write.specs.VerilogGrammar.Grammar.{parts_lexemes}
use Rattle.verilog_write.specs.Adds.{AddsWord}
use Rattle.verilog_write.specs.Writable.{AreWritable}
use Rattle.verilog_write.proofs.expression.+expression.Given as goal

abbrev pub invariant-push_parts-loop-left : goal.invariant-push_parts-loop-left
invariant-push_parts-loop-left l = record {
  rest : (new : List ℕ) → AddsWord l.text.items new (parts_lexemes (name_of (netlist_of l.names.design.now)) (trees_of l.left)) → AddsWord l.fn.text.items new (parts_lexemes (name_of (netlist_of l.names.design.now)) (trees_of l.fn.parts));
  writable : AreWritable (netlist_of l.names.design.now) (trees_of l.left);
  depth : size-Parts Net l.left ≤ size-Parts Net l.fn.parts;
}
