use Rattle.std.proofs.Common.{◌≡◌}
use Rattle.net_core.specs.View.{netlist_of}
use Rattle.verilog_expression.specs.View.{lexemes_left}
use Rattle.verilog_read.specs.declared.section.Section.TheVariants as section
use Rattle.verilog_read.specs.Items.{items_at}
use Rattle.verilog_read.specs.View.{KeepsOrder}
use Rattle.verilog_read.proofs.sections.items.Given as goal

abbrev pub invariant-loop-left : goal.invariant-loop-left
invariant-loop-left l = record {
  same : items_at l.fn.most section.Declared (netlist_of l.fn.partial) (lexemes_left l.fn.rest) ≡ items_at l.left l.now (netlist_of l.before) (lexemes_left l.after);
  order : KeepsOrder l.now (netlist_of l.before);
}

abbrev pub decreases-loop-left : goal.decreases-loop-left
decreases-loop-left l = l.left
