use Rattle.std.proofs.Common.{map, ap, sym, ◌∙◌, arith}
use Rattle.net_core.specs.Clock.{rights, stopped_at}
use Rattle.net_core.specs.View.{right_of, wire_of}
use Rattle.event_sim.specs.Views.{env_in, state_of}
use Rattle.event_sim.proofs.Ended.{quiet_stop}
use Rattle.event_sim.proofs.States.{formed_of}
use Rattle.event_sim.proofs.Walks.{drop_right, stop_here, stop_later, stop_none}
use Rattle.event_sim.proofs.nets.first_stop.Goals as goal

pub returns-then-stops : goal.returns-then-stops
returns-then-stops c =
    let v = env_in c.args.values.now in
    let s = state_of c.args.design.now c.args.values.now in
    let e = drop_right c.as_slice-wires.result.now c.loop-at.at c.index-wires-at.result c.loop-at-test.true c.index-wires-at.is in
    sym (stop_here v c.loop-at.at (right_of c.index-wires-at.result.right) _ _ e (sym c.stops.ensures ∙ c.if-stops.true))
    ∙ c.loop-at.invariant
    ∙ ap (λ ws. stopped_at v 0 (rights (map wire_of ws))) c.as_slice-wires.ensures.value
    ∙ quiet_stop s (formed_of s c.requires.state) c.requires.quiet

pub loop-at-preserved : goal.loop-at-preserved
loop-at-preserved c =
    let v = env_in c.args.values.now in
    let e = drop_right c.as_slice-wires.result.now c.loop-at.at c.index-wires-at.result c.loop-at-test.true c.index-wires-at.is in
    sym (stop_later v c.loop-at.at (right_of c.index-wires-at.result.right) _ _ e (sym c.stops.ensures ∙ c.if-stops.false)) ∙ c.loop-at.invariant

pub returns : goal.returns
returns c =
    let v = env_in c.args.values.now in
    let s = state_of c.args.design.now c.args.values.now in
    sym (stop_none v c.loop-at.at c.as_slice-wires.result.now (omega (arith, c.loop-at-test.false)))
    ∙ c.loop-at.invariant
    ∙ ap (λ ws. stopped_at v 0 (rights (map wire_of ws))) c.as_slice-wires.ensures.value
    ∙ quiet_stop s (formed_of s c.requires.state) c.requires.quiet
