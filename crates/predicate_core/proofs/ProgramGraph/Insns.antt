-- Each node of a graph has an allowed instruction.
use Rattle.std.proofs.Common.{◌≡◌, Some, refl, ◌∙◌, ap}
use Rattle.xdp_machine.specs.bpf_isa.Text.{insn_at}
use Rattle.kind_core.specs.Effects.{effect_of, verdict}
use Rattle.kind_core.specs.declared.kind.Offsets.TheVariants.{Fixed}
use Rattle.unfold_core.specs.Graphs.{first_point}
use Rattle.unfold_core.specs.LinkLaws.{NodesHaveLinks}
use Rattle.operator_cells.specs.HeldCells.Paths.{node_at}
use Rattle.predicate_core.specs.ProgramGraph.Graphs.{graph_of}
use Rattle.predicate_core.specs.ProgramGraph.Nodes.{NodesHaveInsns}
use Rattle.predicate_core.proofs.ProgramGraph.Viewing.{node_is, node_inside}
use Rattle.predicate_core.proofs.ProgramGraph.References.{refers_load}

pub nodes_have_insns : NodesHaveLinks → NodesHaveInsns
nodes_have_insns links p u k program unfolded below =
    let lt = node_inside p u k below in
    let has = links u.offsets p u.loops.items u.nodes.items k (first_point Fixed u.loops.items) unfolded.loops.loops unfolded.graph lt in
    let insn : insn_at p.insns (node_at (graph_of p u).nodes k).place ≡ Some has.insn = ap (λ n. insn_at p.insns n.place) (node_is p u k lt) ∙ has.insn_is in
    record {
      insn = has.insn;
      node = record { insn = insn; kinds_are = refl; allowed = ap (λ n. verdict (effect_of p.decls n.kinds has.insn)) (node_is p u k lt) ∙ has.allowed; legal = program.legal };
      refers = refers_load p.insns _ p.refs (node_at (graph_of p u).nodes k).place has.insn program.refs insn;
    }
