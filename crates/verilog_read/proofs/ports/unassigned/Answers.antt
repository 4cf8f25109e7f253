use Rattle.std.proofs.Common.{◌∙◌, sym, arith}
use Rattle.net_core.specs.Ports.{input}
use Rattle.net_core.specs.View.{netlist_of}
use Rattle.verilog_read.proofs.Listed.{output_here, output_later, no_output}
use Rattle.verilog_read.proofs.ports.unassigned.Goals as goal

pub returns-then-lacks_assign : goal.returns-then-lacks_assign
returns-then-lacks_assign c = sym (c.loop-k.invariant ∙ output_here (netlist_of c.args.partial.now).assigns c.args.ports.now c.loop-k.k (input 0) (omega arith) (sym c.lacks_assign.ensures ∙ c.if-lacks_assign.true))

pub loop-k-preserved : goal.loop-k-preserved
loop-k-preserved c = c.loop-k.invariant ∙ output_later (netlist_of c.args.partial.now).assigns c.args.ports.now c.loop-k.k (input 0) (omega arith) (sym c.lacks_assign.ensures ∙ c.if-lacks_assign.false)

pub returns : goal.returns
returns c = sym (c.loop-k.invariant ∙ no_output (netlist_of c.args.partial.now).assigns c.args.ports.now c.loop-k.k (omega arith))
