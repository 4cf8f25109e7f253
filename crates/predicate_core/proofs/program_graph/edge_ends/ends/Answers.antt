use Rattle.std.proofs.Common.{◌≡◌, ◌≤◌, ◌<◌, length, slice_index_or, sym, ◌∙◌, ap, subst, false}
use Rattle.std.proofs.lemmas.List.{take_all}
use Rattle.unfold_core.specs.declared.links.Edge.{Edge}
use Rattle.predicate_core.proofs.ProgramGraph.Adding.{AreEndsOf, next_edge}
use Rattle.predicate_core.proofs.ProgramGraph.Ending.{Laws, from_inside, have_ends}
use Rattle.predicate_core.proofs.program_graph.edge_ends.ends.Goals as goal

pub index-requires : goal.index-requires
index-requires c =
    let laws : Laws = record { links = c.nodes_have_links.ensures; leads = c.edges_lead_on.ensures } in
    let edges = c.args.unfolded.now.edges.items in
    let d : Edge = record { from = 0; taken = false; to = 0 } in
    let x = slice_index_or c.deref-edge-items.result.now c.loop-edge.edge-index d in
    let is : x ≡ slice_index_or edges c.loop-edge.edge-index d = ap (λ es. slice_index_or es c.loop-edge.edge-index d) c.deref-edge-items.ensures.value in
    let below : c.loop-edge.edge-index < length edges = subst (λ es. c.loop-edge.edge-index < length es) c.deref-edge-items.ensures.value c.loop-edge-test.true in
    let inside : x.from < length c.args.unfolded.now.nodes.items = subst (λ y. y.from < length c.args.unfolded.now.nodes.items) (sym is) (from_inside c.args.program.now c.args.unfolded.now laws c.requires c.loop-edge.edge-index d below) in
    subst (λ n. x.from < n) (sym (c.loop-edge.ends.ok.0 ∙ c.loop-edge.invariant.size)) inside

pub index_mut-requires : goal.index_mut-requires
index_mut-requires c =
    let laws : Laws = record { links = c.nodes_have_links.ensures; leads = c.edges_lead_on.ensures } in
    let edges = c.args.unfolded.now.edges.items in
    let d : Edge = record { from = 0; taken = false; to = 0 } in
    let x = slice_index_or c.deref-edge-items.result.now c.loop-edge.edge-index d in
    let is : x ≡ slice_index_or edges c.loop-edge.edge-index d = ap (λ es. slice_index_or es c.loop-edge.edge-index d) c.deref-edge-items.ensures.value in
    let below : c.loop-edge.edge-index < length edges = subst (λ es. c.loop-edge.edge-index < length es) c.deref-edge-items.ensures.value c.loop-edge-test.true in
    let inside : x.from < length c.args.unfolded.now.nodes.items = subst (λ y. y.from < length c.args.unfolded.now.nodes.items) (sym is) (from_inside c.args.program.now c.args.unfolded.now laws c.requires c.loop-edge.edge-index d below) in
    subst (λ n. x.from < n) (sym (c.loop-edge.ends.ok.0 ∙ c.loop-edge.invariant.size)) inside

pub loop-edge-preserved : goal.loop-edge-preserved
loop-edge-preserved c =
    let laws : Laws = record { links = c.nodes_have_links.ensures; leads = c.edges_lead_on.ensures } in
    let edges = c.args.unfolded.now.edges.items in
    let d : Edge = record { from = 0; taken = false; to = 0 } in
    let x = slice_index_or c.deref-edge-items.result.now c.loop-edge.edge-index d in
    let is : x ≡ slice_index_or edges c.loop-edge.edge-index d = ap (λ es. slice_index_or es c.loop-edge.edge-index d) c.deref-edge-items.ensures.value in
    let below : c.loop-edge.edge-index < length edges = subst (λ es. c.loop-edge.edge-index < length es) c.deref-edge-items.ensures.value c.loop-edge-test.true in
    let step = next_edge edges c.loop-edge.ends.items c.loop-edge.edge-index (length c.args.unfolded.now.nodes.items) x d c.index.result.now c.with_edge.result c.loop-edge.invariant.are c.loop-edge.invariant.size below is
    (subst (λ y. y.from < length c.args.unfolded.now.nodes.items) (sym is) (from_inside c.args.program.now c.args.unfolded.now laws c.requires c.loop-edge.edge-index d below)) c.index.ensures c.with_edge.ensures in
    record { size = step.0; are = step.1 }

pub returns : goal.returns
returns c =
    let edges = c.args.unfolded.now.edges.items in
    let all : length edges ≤ c.loop-edge.edge-index = subst (λ es. length es ≤ c.loop-edge.edge-index) c.deref-edge-items.ensures.value c.loop-edge-test.false in
    have_ends c.args.program.now c.args.unfolded.now (record { links = c.nodes_have_links.ensures; leads = c.edges_lead_on.ensures }) c.requires c.loop-edge.ends.items
    (subst (λ es. AreEndsOf es c.loop-edge.ends.items) (take_all c.loop-edge.edge-index edges all) c.loop-edge.invariant.are) c.loop-edge.invariant.size
