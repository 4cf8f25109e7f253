use Rattle.std.specs.Prelude.{All}
use Rattle.std.proofs.Common.{◌≡◌, ◌<◌, sym, ap, ◌∙◌, subst, arith, add-one, below_more}
use Rattle.net_core.specs.Nets.{Netlist}
use Rattle.event_sim.specs.Events.{State, net_count, ran, events_in, swept}
use Rattle.event_sim.proofs.Blocks.{order_below}
use Rattle.event_sim.proofs.Ended.{IsFormed, swept_netlist, stopped_idle, stopped_all}
use Rattle.event_sim.proofs.States.{formed_of}
use Rattle.event_sim.proofs.events.Events.settle.Goals as goal

pub loop-sweeps-preserved : goal.loop-sweeps-preserved
loop-sweeps-preserved c =
    let order = c.args.order.now in
    let s = c.args.self.now in
    let fired = c.run.ensures.fired ∙ ap (λ t. events_in t order) c.loop-sweeps.invariant.is in
    let some = c.if-run-eq0.false in
    record {
      is = c.run.ensures.ran ∙ ap (λ t. ran t order) c.loop-sweeps.invariant.is ∙ ap (swept s order) (sym (add-one c.loop-sweeps.sweeps));
      busy = below_more (λ k. 0 < events_in (swept s order k) order) c.loop-sweeps.sweeps c.loop-sweeps.invariant.busy (omega (arith, fired, some));
    }

pub run-requires : goal.run-requires
run-requires c =
    subst (λ (d : Netlist). All (λ n. n < net_count d) c.args.order.now) (sym (ap (λ (s : State). s.netlist) c.loop-sweeps.invariant.is ∙ swept_netlist c.args.self.now c.args.order.now c.loop-sweeps.sweeps))
    (order_below (net_count c.args.self.now.netlist) c.args.order.now c.requires)

pub returns-then-run-eq0-clause-settles : goal.returns-then-run-eq0-clause-settles
returns-then-run-eq0-clause-settles c =
    let formed = subst IsFormed c.self.view_is (formed_of _ c.self.invariant.state) in
    (stopped_idle c.args.self.now c.loop-sweeps.self c.run.new.self formed c.args.order.now c.requires c.loop-sweeps.sweeps c.loop-sweeps.invariant.is (sym c.run.ensures.fired ∙ c.if-run-eq0.true) c.run.ensures.ran).settles

pub returns-then-run-eq0-clause-quiet : goal.returns-then-run-eq0-clause-quiet
returns-then-run-eq0-clause-quiet c =
    let formed = subst IsFormed c.self.view_is (formed_of _ c.self.invariant.state) in
    (stopped_idle c.args.self.now c.loop-sweeps.self c.run.new.self formed c.args.order.now c.requires c.loop-sweeps.sweeps c.loop-sweeps.invariant.is (sym c.run.ensures.fired ∙ c.if-run-eq0.true) c.run.ensures.ran).quiet

pub returns-then-run-eq0-clause-settled : goal.returns-then-run-eq0-clause-settled
returns-then-run-eq0-clause-settled c =
    let formed = subst IsFormed c.self.view_is (formed_of _ c.self.invariant.state) in
    (stopped_idle c.args.self.now c.loop-sweeps.self c.run.new.self formed c.args.order.now c.requires c.loop-sweeps.sweeps c.loop-sweeps.invariant.is (sym c.run.ensures.fired ∙ c.if-run-eq0.true) c.run.ensures.ran).settled

pub returns-then-run-eq0-clause-sweeps : goal.returns-then-run-eq0-clause-sweeps
returns-then-run-eq0-clause-sweeps c =
    let formed = subst IsFormed c.self.view_is (formed_of _ c.self.invariant.state) in
    (stopped_idle c.args.self.now c.loop-sweeps.self c.run.new.self formed c.args.order.now c.requires c.loop-sweeps.sweeps c.loop-sweeps.invariant.is (sym c.run.ensures.fired ∙ c.if-run-eq0.true) c.run.ensures.ran).sweeps

pub returns-clause-settles : goal.returns-clause-settles
returns-clause-settles c =
    let formed = subst IsFormed c.self.view_is (formed_of _ c.self.invariant.state) in
    let count = ap (λ (s : State). net_count s.netlist) c.self.view_is in
    let all : c.loop-sweeps.sweeps ≡ net_count c.args.self.now.netlist = omega (arith, count, c.net_count-count.ensures, c.loop-sweeps-test.false, c.loop-sweeps.auto.sweeps-end) in
    (stopped_all c.args.self.now c.loop-sweeps.self formed c.args.order.now c.requires c.loop-sweeps.sweeps all c.loop-sweeps.invariant.is).settles

pub returns-clause-quiet : goal.returns-clause-quiet
returns-clause-quiet c =
    let formed = subst IsFormed c.self.view_is (formed_of _ c.self.invariant.state) in
    let count = ap (λ (s : State). net_count s.netlist) c.self.view_is in
    let all : c.loop-sweeps.sweeps ≡ net_count c.args.self.now.netlist = omega (arith, count, c.net_count-count.ensures, c.loop-sweeps-test.false, c.loop-sweeps.auto.sweeps-end) in
    (stopped_all c.args.self.now c.loop-sweeps.self formed c.args.order.now c.requires c.loop-sweeps.sweeps all c.loop-sweeps.invariant.is).quiet

pub returns-clause-settled : goal.returns-clause-settled
returns-clause-settled c =
    let formed = subst IsFormed c.self.view_is (formed_of _ c.self.invariant.state) in
    let count = ap (λ (s : State). net_count s.netlist) c.self.view_is in
    let all : c.loop-sweeps.sweeps ≡ net_count c.args.self.now.netlist = omega (arith, count, c.net_count-count.ensures, c.loop-sweeps-test.false, c.loop-sweeps.auto.sweeps-end) in
    (stopped_all c.args.self.now c.loop-sweeps.self formed c.args.order.now c.requires c.loop-sweeps.sweeps all c.loop-sweeps.invariant.is).settled
