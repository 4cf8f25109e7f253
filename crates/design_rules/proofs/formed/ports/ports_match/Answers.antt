-- One step of the comparison of ports.
use Rattle.std.proofs.Common.{arith, ◌∙◌, sym}
use Rattle.net_core.specs.Ports.{port_list, input}
use Rattle.design_rules.specs.Formed.{same_port}
use Rattle.design_rules.proofs.FormedPorts.{pointwise_here, pointwise_more}
use Rattle.design_rules.proofs.formed.ports.ports_match.Goals as goal

pub returns-then-not-port_matches : goal.returns-then-not-port_matches
returns-then-not-port_matches c =
    sym (sym c.loop-k.invariant.1
    ∙ pointwise_here same_port c.args.ports.now port_list c.loop-k.k (input 0) (input 0) (omega arith) (omega arith) (sym c.port_matches.ensures ∙ c.if-not-port_matches.true))

pub loop-k-preserved : goal.loop-k-preserved
loop-k-preserved c = (
  c.loop-k.invariant.0,
  pointwise_more same_port c.args.ports.now port_list c.loop-k.k (input 0) (input 0) (omega arith) (omega arith) (sym c.port_matches.ensures ∙ c.if-not-port_matches.false)
      ∙ c.loop-k.invariant.1,
)
