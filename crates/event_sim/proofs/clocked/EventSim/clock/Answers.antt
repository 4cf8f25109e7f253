use Rattle.std.specs.Prelude.{option_map}
use Rattle.std.proofs.Common.{◌≡◌, Ok, Some, None, ap}
use Rattle.net_core.specs.declared.tree.Net.TheVariants.{Wire}
use Rattle.net_core.specs.Clock.{clock, stopping, shown}
use Rattle.net_core.specs.Ports.{words_of, outputs_at}
use Rattle.clock_sim.specs.Running.{stopped_net}
use Rattle.event_sim.proofs.Clocking.{as_clock}
use Rattle.event_sim.proofs.clocked.EventSim.clock.Goals as goal
use Rattle.event_sim.proofs.clocked.EventSim.clock.Goals.{in-Ok, in-Err-XValue}

pub returns-clause-runs : goal.returns-clause-runs
returns-clause-runs c =
    elim c.match-edge.branch [
      | in-Ok w ↦ rw w.result-is (as_clock (λ d i s. stopping d i s ≡ None) c.args.self.now c.self.inside.events c.set.new.self c.settle.new.self (words_of c.args.inputs.now) c.self.view_is c.set.ensures c.settle.ensures.settles w.in-Ok.ensures.may.runs)
      | in-Err-XValue w ↦ rw w.result-is tt
    ]

pub returns-clause-stored : goal.returns-clause-stored
returns-clause-stored c =
    elim c.match-edge.branch [
      | in-Ok w ↦ rw w.result-is (as_clock (λ d i s. clock d i s ≡ Ok c.edge.new.self.stored) c.args.self.now c.self.inside.events c.set.new.self c.settle.new.self (words_of c.args.inputs.now) c.self.view_is c.set.ensures c.settle.ensures.settles w.in-Ok.ensures.stored)
      | in-Err-XValue w ↦ rw w.result-is tt
    ]

pub returns-clause-outputs : goal.returns-clause-outputs
returns-clause-outputs c =
    elim c.match-edge.branch [
      | in-Ok w ↦ rw w.result-is (as_clock (λ d i s. w.in-Ok.outputs ≡ outputs_at (λ port. (shown d i s port).value)) c.args.self.now c.self.inside.events c.set.new.self c.settle.new.self (words_of c.args.inputs.now) c.self.view_is c.set.ensures c.settle.ensures.settles w.in-Ok.ensures.outputs)
      | in-Err-XValue w ↦ rw w.result-is tt
    ]

pub returns-clause-stops : goal.returns-clause-stops
returns-clause-stops c =
    elim c.match-edge.branch [
      | in-Ok w ↦ rw w.result-is tt
      | in-Err-XValue w ↦
          let refused = rw w.in-Err-XValue.field-0-is at w.in-Err-XValue.ensures.refused in
          rw w.result-is (as_clock (λ d i s. stopped_net d i s ≡ Some (Wire w.in-Err-XValue.net)) c.args.self.now c.self.inside.events c.set.new.self c.settle.new.self (words_of c.args.inputs.now) c.self.view_is c.set.ensures c.settle.ensures.settles (ap (option_map Wire) refused.2))
    ]
