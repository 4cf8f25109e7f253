use Rattle.std.proofs.Common.{◌≡◌, ◌∙◌, Some, None, sym, ap}
use Rattle.xdp_state.specs.bpf_isa.declared.instruction.Insn.{Insn}
use Rattle.xdp_state.specs.bpf_isa.Text.{insn_at}
use Rattle.unfold_core.specs.declared.edges.Point.{Point}
use Rattle.row_rules.proofs.node_rows.stages.insn_of_node.Goals as goal

clash : (i : Insn) → Some i ≡ None → ⊥
clash i e = absurd (cc)

pub unreachable-requires : goal.unreachable-requires
unreachable-requires c =
    let links = c.nodes_have_links.ensures c.args.unfolded.now.offsets c.args.program.now c.args.unfolded.now.loops.items c.args.unfolded.now.nodes.items c.args.node c.index.result.now c.requires.unfolded.loops.loops c.requires.unfolded.graph c.requires.node in
    clash links.insn (sym links.insn_is ∙ ap (λ (x : Point). insn_at c.args.program.now.insns x.node.place) (sym c.index.ensures)
    ∙ sym (c.requires.units.are.same c.index.result.now.node.place) ∙ sym c.insn_at.ensures.found ∙ c.in-None.is)
