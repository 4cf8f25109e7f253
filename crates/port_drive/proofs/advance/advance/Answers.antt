use Rattle.std.proofs.Common.{◌≡◌, refl, sym, ap, ◌∙◌}
use Rattle.net_core.specs.Ports.{words_of}
use Rattle.net_core.specs.Trace.{cycle_of}
use Rattle.realization.specs.History.{drive_inputs, inputs_with}
use Rattle.net_core.proofs.ClockLaws.{clock_leaves}
use Rattle.port_drive.proofs.BeatLemmas.{inputs_are, left_gone, left_stays}
use Rattle.port_drive.proofs.advance.advance.Goals as goal

pub returns-in-Err-clause-stops : goal.returns-in-Err-clause-stops
returns-in-Err-clause-stops g c =
    let is : c.inputs_with-inputs.result ≡ drive_inputs c.args.left.now = c.inputs_with-inputs.ensures ∙ ap inputs_with c.first.ensures.first ∙ inputs_are c.args.left.now in
    rw (← is) c.in-Err.ensures.stops

pub returns-then-shown-clause-runs : goal.returns-then-shown-clause-runs
returns-then-shown-clause-runs g c =
    let is : c.inputs_with-inputs.result ≡ drive_inputs c.args.left.now = c.inputs_with-inputs.ensures ∙ ap inputs_with c.first.ensures.first ∙ inputs_are c.args.left.now in
    rw (← is) c.in-Ok.ensures.runs

pub returns-then-shown-clause-stored : goal.returns-then-shown-clause-stored
returns-then-shown-clause-stored g c =
    let is : c.inputs_with-inputs.result ≡ drive_inputs c.args.left.now = c.inputs_with-inputs.ensures ∙ ap inputs_with c.first.ensures.first ∙ inputs_are c.args.left.now in
    rw (← is) (clock_leaves (g.C.Clocked.netlist c.args.sim.now) (words_of c.inputs_with-inputs.result) (g.C.Clocked.stored c.args.sim.now) _ c.in-Ok.ensures.runs c.in-Ok.ensures.stored)

pub returns-then-shown-clause-outputs : goal.returns-then-shown-clause-outputs
returns-then-shown-clause-outputs g c =
    let is : c.inputs_with-inputs.result ≡ drive_inputs c.args.left.now = c.inputs_with-inputs.ensures ∙ ap inputs_with c.first.ensures.first ∙ inputs_are c.args.left.now in
    rw (← is) c.in-Ok.ensures.outputs

pub returns-then-shown-clause-left : goal.returns-then-shown-clause-left
returns-then-shown-clause-left g c =
    let is : c.inputs_with-inputs.result ≡ drive_inputs c.args.left.now = c.inputs_with-inputs.ensures ∙ ap inputs_with c.first.ensures.first ∙ inputs_are c.args.left.now in
    let shown = ap (λ o. o.in_ready) (rw is at c.in-Ok.ensures.outputs) in
    c.take.ensures ∙ sym (left_gone (cycle_of (g.C.Clocked.netlist c.args.sim.now) (g.C.Clocked.stored c.args.sim.now) (drive_inputs c.args.left.now)) c.args.left.now refl (sym shown ∙ c.if-shown.true))

pub returns-else-shown-clause-runs : goal.returns-else-shown-clause-runs
returns-else-shown-clause-runs g c =
    let is : c.inputs_with-inputs.result ≡ drive_inputs c.args.left.now = c.inputs_with-inputs.ensures ∙ ap inputs_with c.first.ensures.first ∙ inputs_are c.args.left.now in
    rw (← is) c.in-Ok.ensures.runs

pub returns-else-shown-clause-stored : goal.returns-else-shown-clause-stored
returns-else-shown-clause-stored g c =
    let is : c.inputs_with-inputs.result ≡ drive_inputs c.args.left.now = c.inputs_with-inputs.ensures ∙ ap inputs_with c.first.ensures.first ∙ inputs_are c.args.left.now in
    rw (← is) (clock_leaves (g.C.Clocked.netlist c.args.sim.now) (words_of c.inputs_with-inputs.result) (g.C.Clocked.stored c.args.sim.now) _ c.in-Ok.ensures.runs c.in-Ok.ensures.stored)

pub returns-else-shown-clause-outputs : goal.returns-else-shown-clause-outputs
returns-else-shown-clause-outputs g c =
    let is : c.inputs_with-inputs.result ≡ drive_inputs c.args.left.now = c.inputs_with-inputs.ensures ∙ ap inputs_with c.first.ensures.first ∙ inputs_are c.args.left.now in
    rw (← is) c.in-Ok.ensures.outputs

pub returns-else-shown-clause-left : goal.returns-else-shown-clause-left
returns-else-shown-clause-left g c =
    let is : c.inputs_with-inputs.result ≡ drive_inputs c.args.left.now = c.inputs_with-inputs.ensures ∙ ap inputs_with c.first.ensures.first ∙ inputs_are c.args.left.now in
    let shown = ap (λ o. o.in_ready) (rw is at c.in-Ok.ensures.outputs) in
    sym (left_stays (cycle_of (g.C.Clocked.netlist c.args.sim.now) (g.C.Clocked.stored c.args.sim.now) (drive_inputs c.args.left.now)) c.args.left.now (sym shown ∙ c.if-shown.false))
