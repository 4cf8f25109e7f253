use Rattle.std.proofs.Common.{map, sym, ◌∙◌, string_bytes}
use Rattle.net_core.specs.View.{wire_of}
use Rattle.block_core.specs.View.{output_of}
use Rattle.block_core.proofs.GatheredLaws.{length_map}
use Rattle.block_core.proofs.Linkings.{link_made, past_totals, past_wires, past_assigns, past_statements, all_in_range}
use Rattle.block_core.proofs.Ranges.{not_many}
use Rattle.block_core.proofs.whole.link.Goals as goal

pub returns-in_err-starts-clause-in_range : goal.returns-in_err-starts-clause-in_range
returns-in_err-starts-clause-in_range g c = λ d made.
    not_many c.from_residual.result _ _ c.from_residual.ensures.1
    (λ many. past_totals g.P.Part.place c.args.parts.now d made (map output_of c.args.outputs.now) (c.in_err-starts.ensures.range many))

pub returns-in_err-wires-clause-in_range : goal.returns-in_err-wires-clause-in_range
returns-in_err-wires-clause-in_range g c = λ d made.
    let s = c.in_ok-starts.starts in
    not_many c.from_residual-in_err-wires.result _ _ c.from_residual-in_err-wires.ensures.1
    (λ many. past_wires g.P.Part.place c.args.parts.now d s made c.in_ok-starts.ensures.starts (map output_of c.args.outputs.now) (c.in_err-wires.ensures.range many))

pub returns-in_err-assigns-clause-in_range : goal.returns-in_err-assigns-clause-in_range
returns-in_err-assigns-clause-in_range g c = λ d made.
    let s = c.in_ok-starts.starts in
    not_many c.from_residual-in_err-assigns.result _ _ c.from_residual-in_err-assigns.ensures.1
    (λ many. past_assigns g.P.Part.place c.args.parts.now d s made c.in_ok-starts.ensures.starts (map output_of c.args.outputs.now) (c.in_err-assigns.ensures.range many))

pub returns-in_err-always-clause-in_range : goal.returns-in_err-always-clause-in_range
returns-in_err-always-clause-in_range g c = λ d made.
    let s = c.in_ok-starts.starts in
    not_many c.from_residual-in_err-always.result _ _ c.from_residual-in_err-always.ensures.1
    (λ many. past_statements g.P.Part.place c.args.parts.now d s made c.in_ok-starts.ensures.starts (map output_of c.args.outputs.now) (c.in_err-always.ensures.range many))

pub returns-clause-linked : goal.returns-clause-linked
returns-clause-linked g c = λ d made.
    let s = c.in_ok-starts.starts in
    link_made g.P.Part.place c.args.parts.now d s made c.in_ok-starts.ensures.starts (map string_bytes c.args.port_names.items) _ c.args.ports.items (map output_of c.args.outputs.now) c.in_ok-declared.declared.items _ _ _ _ _ _ _
    c.in_ok-declared.ensures c.in_ok-all_memories.ensures c.in_ok-wires.ensures.linked c.in_ok-assigns.ensures.linked c.in_ok-always.ensures.linked c.in_ok-add_names.ensures
    (c.len-registers.ensures ∙ c.in_ok-declared.declared.ok.0) (c.len.ensures ∙ c.all_memories.new.all.ok.0) (c.len-2.ensures ∙ c.in_ok-wires.wires.ok.0 ∙ sym (length_map wire_of c.in_ok-wires.wires.items))

pub returns-clause-past : goal.returns-clause-past
returns-clause-past g c = λ d made no.
    let s = c.in_ok-starts.starts in
    absurd (no (all_in_range g.P.Part.place c.args.parts.now d s made c.in_ok-starts.ensures.starts (map output_of c.args.outputs.now) c.in_ok-starts.ensures.range c.in_ok-wires.ensures.range c.in_ok-assigns.ensures.range c.in_ok-always.ensures.range))
