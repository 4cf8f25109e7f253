use Rattle.std.proofs.Common.{◌∙◌, sym, arith, map, string_bytes}
use Rattle.verilog_read.proofs.Listed.{other_here, other_later, more_ports}
use Rattle.verilog_read.proofs.ports.other_port.Goals as goal

pub returns-then-not-is_listed : goal.returns-then-not-is_listed
returns-then-not-is_listed c = sym (c.loop-k.invariant ∙ other_here (map string_bytes c.args.names.now) c.args.ports.now c.loop-k.k (omega arith) (sym c.is_listed.ensures ∙ c.if-not-is_listed.true))

pub loop-k-preserved : goal.loop-k-preserved
loop-k-preserved c = c.loop-k.invariant ∙ other_later (map string_bytes c.args.names.now) c.args.ports.now c.loop-k.k (omega arith) (sym c.is_listed.ensures ∙ c.if-not-is_listed.false)

pub returns-then-ports-gt-PORT_COUNT : goal.returns-then-ports-gt-PORT_COUNT
returns-then-ports-gt-PORT_COUNT c = sym (c.loop-k.invariant ∙ more_ports (map string_bytes c.args.names.now) c.args.ports.now c.loop-k.k (omega arith) (omega arith))
