use Rattle.std.proofs.Common.{◌∙◌}
use Rattle.net_core.specs.View.{netlist_of}
use Rattle.verilog_read.proofs.Free.{clock_found, other_found}
use Rattle.verilog_read.proofs.partial.PartialNames.find.Goals as goal

pub returns-then-eq : goal.returns-then-eq
returns-then-eq c = clock_found (netlist_of c.args.self.now) c.args.name.now cc

pub returns : goal.returns
returns c = other_found c.self.inside.design c.args.self.now c.self.inside.entries.entries _ _ _ c.args.name.now _ c.self.view_is c.self.invariant (cc) (c.copied.ensures ∙ c.get.ensures.value)
