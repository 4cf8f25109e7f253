use Rattle.std.proofs.Common.{◌≡◌, ℕ, ◌<◌, List, length, is_some, sym, ◌∙◌, ap, subst, arith}
use Rattle.std.specs.Prelude.{Option, None, slice_index_or}
use Rattle.std.proofs.lemmas.List.{length-map}
use Rattle.xdp_machine.specs.bpf_isa.declared.instruction.Insn.{Insn}
use Rattle.operator_cells.specs.HeldCells.Paths.{NodeView, node_at}
use Rattle.edge_cells.specs.NodeCells.Ends.{HasEnds}
use Rattle.predicate_core.specs.declared.program_graph.edge_ends.NodeEnds.{NodeEnds}
use Rattle.predicate_core.specs.ProgramGraph.Graphs.{node_view, graph_of}
use Rattle.predicate_core.specs.ProgramGraph.Nodes.{HasInsn}
use Rattle.predicate_core.specs.StepCells.Stepping.{made_of}
use Rattle.predicate_core.specs.Pointing.{PointSoFar}
use Rattle.predicate_core.specs.Progress.{pending_of}
use Rattle.predicate_core.specs.Reading.{ReadSoFar}
use Rattle.predicate_core.proofs.Progressing.{node_is, turn_insn, turn_node}
use Rattle.predicate_core.proofs.program.make_nodes.Goals as goal

pub insn_at-insn-requires : goal.insn_at-insn-requires
insn_at-insn-requires c =
    let low : c.loop-k.k < length c.args.unfolded.now.nodes.items = omega (arith, c.loop-k-test.true, c.len-k-end.ensures) in
    let inside : c.loop-k.k < length (graph_of c.args.program.now c.args.unfolded.now).nodes = omega (arith, low, length-map c.args.unfolded.now.nodes.items node_view) in
    let is : node_at (graph_of c.args.program.now c.args.unfolded.now).nodes c.loop-k.k ≡ node_view c.index.result.now = node_is c.args.program.now c.args.unfolded.now c.loop-k.k c.index.result.now low c.index.ensures in
    let has : HasInsn (graph_of c.args.program.now c.args.unfolded.now) c.loop-k.k = c.nodes_have_insns.ensures c.args.program.now c.args.unfolded.now c.loop-k.k c.decls-maps.ensures.program c.requires.unfolded inside in
    let x = turn_insn c.args.program.now c.args.unfolded.now c.loop-k.k c.place.result c.in_ok-units.units.items (slice_index_or c.deref.result.now c.place.result None) has c.in_ok-units.ensures (c.place.ensures ∙ sym (ap (λ (n : NodeView). n.place) is))
    (ap (λ (us : List (Option Insn)). slice_index_or us c.place.result None) c.deref.ensures.value) in
    ap is_some x.1

pub make_node-requires-clause-insn : goal.make_node-requires-clause-insn
make_node-requires-clause-insn c =
    let low : c.loop-k.k < length c.args.unfolded.now.nodes.items = omega (arith, c.loop-k-test.true, c.len-k-end.ensures) in
    let inside : c.loop-k.k < length (graph_of c.args.program.now c.args.unfolded.now).nodes = omega (arith, low, length-map c.args.unfolded.now.nodes.items node_view) in
    let is : node_at (graph_of c.args.program.now c.args.unfolded.now).nodes c.loop-k.k ≡ node_view c.index.result.now = node_is c.args.program.now c.args.unfolded.now c.loop-k.k c.index.result.now low c.index.ensures in
    let has : HasInsn (graph_of c.args.program.now c.args.unfolded.now) c.loop-k.k = c.nodes_have_insns.ensures c.args.program.now c.args.unfolded.now c.loop-k.k c.decls-maps.ensures.program c.requires.unfolded inside in
    let x = turn_insn c.args.program.now c.args.unfolded.now c.loop-k.k c.place.result c.in_ok-units.units.items (slice_index_or c.deref.result.now c.place.result None) has c.in_ok-units.ensures (c.place.ensures ∙ sym (ap (λ (n : NodeView). n.place) is))
    (ap (λ (us : List (Option Insn)). slice_index_or us c.place.result None) c.deref.ensures.value) in
    turn_node (graph_of c.args.program.now c.args.unfolded.now) c.loop-k.k (node_at (graph_of c.args.program.now c.args.unfolded.now).nodes c.loop-k.k).kinds x.0 c.insn_at-insn.result (slice_index_or c.deref.result.now c.place.result None) x.1 x.2 c.insn_at-insn.ensures

pub make_node-requires-clause-ends : goal.make_node-requires-clause-ends
make_node-requires-clause-ends c =
    let low : c.loop-k.k < length c.args.unfolded.now.nodes.items = omega (arith, c.loop-k-test.true, c.len-k-end.ensures) in
    let inside : c.loop-k.k < length (graph_of c.args.program.now c.args.unfolded.now).nodes = omega (arith, low, length-map c.args.unfolded.now.nodes.items node_view) in
    let is : node_at (graph_of c.args.program.now c.args.unfolded.now).nodes c.loop-k.k ≡ node_view c.index.result.now = node_is c.args.program.now c.args.unfolded.now c.loop-k.k c.index.result.now low c.index.ensures in
    let has : HasInsn (graph_of c.args.program.now c.args.unfolded.now) c.loop-k.k = c.nodes_have_insns.ensures c.args.program.now c.args.unfolded.now c.loop-k.k c.decls-maps.ensures.program c.requires.unfolded inside in
    let x = turn_insn c.args.program.now c.args.unfolded.now c.loop-k.k c.place.result c.in_ok-units.units.items (slice_index_or c.deref.result.now c.place.result None) has c.in_ok-units.ensures (c.place.ensures ∙ sym (ap (λ (n : NodeView). n.place) is))
    (ap (λ (us : List (Option Insn)). slice_index_or us c.place.result None) c.deref.ensures.value) in
    let node = turn_node (graph_of c.args.program.now c.args.unfolded.now) c.loop-k.k (node_at (graph_of c.args.program.now c.args.unfolded.now).nodes c.loop-k.k).kinds x.0 c.insn_at-insn.result (slice_index_or c.deref.result.now c.place.result None) x.1 x.2 c.insn_at-insn.ensures in
    subst (λ (e : NodeEnds). HasEnds (graph_of c.args.program.now c.args.unfolded.now) c.loop-k.k c.insn_at-insn.result e.next e.jump) (sym c.index-in-loop-k.ensures) (c.in_ok-ends.ensures.each c.loop-k.k c.insn_at-insn.result c.index-in-loop-k.result.now inside node.insn)

pub returns-clause-points : goal.returns-clause-points
returns-clause-points c =
    let end : c.loop-k.k ≡ length c.args.unfolded.now.nodes.items = omega (arith, c.loop-k-test.false, c.loop-k.auto.k-end, c.len-k-end.ensures) in
    subst (λ (n : ℕ). PointSoFar c.args.program.now.decls n (made_of c.loop-k.progress.made)) end c.loop-k.invariant.points

pub returns-clause-reads : goal.returns-clause-reads
returns-clause-reads c =
    let end : c.loop-k.k ≡ length c.args.unfolded.now.nodes.items = omega (arith, c.loop-k-test.false, c.loop-k.auto.k-end, c.len-k-end.ensures) in
    subst (λ (n : ℕ). ReadSoFar c.args.program.now.decls n (made_of c.loop-k.progress.made) (pending_of c.loop-k.progress)) end c.loop-k.invariant.reads
