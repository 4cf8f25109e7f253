use Rattle.std.specs.Prelude.{slice_set}
use Rattle.std.proofs.Common.{◌<◌, sym, subst}
use Rattle.event_sim.specs.Events.{State, net_count}
use Rattle.event_sim.specs.Ends.{EndsFromAny}
use Rattle.event_sim.specs.Views.{state_of}
use Rattle.event_sim.specs.Inside.{IsState}
use Rattle.event_sim.proofs.Ended.{ends_from_any}
use Rattle.event_sim.proofs.States.{formed_of, fired_state}
use Rattle.event_sim.proofs.events.Events.fire.Goals as goal

pub returns-then-same_word-clause-ends : goal.returns-then-same_word-clause-ends
returns-then-same_word-clause-ends c = subst EndsFromAny c.self.view_is (ends_from_any _ (formed_of _ c.self.invariant.state))

pub invariant_of-self : goal.invariant_of-self
invariant_of-self c =
    let s = state_of c.self.inside.design c.self.inside.values in
    let there = subst (λ (t : State). c.args.net < net_count t.netlist) (sym c.self.view_is) c.requires in
    record {
      state = subst (λ w. IsState (record s { nets = slice_set s.nets c.args.net w })) (sym c.right_side-word.ensures) (fired_state s c.self.invariant.state c.args.net there);
      copy = c.self.invariant.copy;
    }

pub returns-clause-ends : goal.returns-clause-ends
returns-clause-ends c = subst EndsFromAny c.self.view_is (ends_from_any _ (formed_of _ c.self.invariant.state))
