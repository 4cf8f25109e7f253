use Rattle.std.proofs.Common.{◌^◌, ◌<◌, false, length, drop, get_or, sym, ap, ◌∙◌, subst}
use Rattle.net_core.specs.declared.tree.Word.{Word}
use Rattle.net_core.specs.Ports.{port_list, output_width}
use Rattle.net_core.proofs.PortLaws.{outputs_same}
use Rattle.event_sim.specs.Views.{state_of}
use Rattle.event_sim.proofs.Edges.{outputs_found, shown_fit}
use Rattle.event_sim.proofs.edge.outputs_of.Goals as goal

pub shown-requires-clause-fit : goal.shown-requires-clause-fit
shown-requires-clause-fit c port =
    let d = c.args.design.now in
    let v = c.args.values.now in
    let words = c.split_at.ensures.back ∙ ap (λ l. drop (length l) c.as_slice-nets.result.now) c.as_slice-wires.ensures.value ∙ ap (drop (length d.wires.items)) c.as_slice-nets.ensures.value in
    let is = outputs_found d v c.requires.state c.requires.quiet c.requires.runs c.as_slice-assigns.result.now c.as_slice-assigns.ensures.value c.split_at.result.1.now words port in
    subst (λ (w : Word). w.value < 2 ^ output_width (get_or port_list port (record { output = false; width = 0 }))) (sym is) (shown_fit (state_of d v) c.requires.state port)

pub returns : goal.returns
returns c =
    let d = c.args.design.now in
    let v = c.args.values.now in
    let words = c.split_at.ensures.back ∙ ap (λ l. drop (length l) c.as_slice-nets.result.now) c.as_slice-wires.ensures.value ∙ ap (drop (length d.wires.items)) c.as_slice-nets.ensures.value in
    let is = outputs_found d v c.requires.state c.requires.quiet c.requires.runs c.as_slice-assigns.result.now c.as_slice-assigns.ensures.value c.split_at.result.1.now words in
    c.shown.ensures ∙ outputs_same _ _ (λ port l. ap (λ (w : Word). w.value) (is port))
