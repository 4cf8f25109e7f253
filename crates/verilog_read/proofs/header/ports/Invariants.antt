use Rattle.std.proofs.Common.{◌≡◌}
use Rattle.net_core.specs.View.{netlist_of}
use Rattle.verilog_expression.specs.View.{lexemes_left}
use Rattle.verilog_read.specs.Header.{ports_at}
use Rattle.verilog_read.specs.View.{OnlyPorts}
use Rattle.verilog_read.proofs.header.ports.Given as goal

abbrev pub invariant-loop-left : goal.invariant-loop-left
invariant-loop-left l = record {
  same : ports_at l.fn.most (netlist_of l.fn.partial) (lexemes_left l.fn.rest) ≡ ports_at l.left (netlist_of l.before) (lexemes_left l.after);
  only : OnlyPorts (netlist_of l.before);
}

abbrev pub decreases-loop-left : goal.decreases-loop-left
decreases-loop-left l = l.left
