-- The nodes and edges of a graph as those of its unfolded program.
use Rattle.std.proofs.Common.{◌≡◌, ℕ, ◌<◌, length, get_or, sym, ◌∙◌, ap, subst}
use Rattle.std.specs.Prelude.{Contains}
use Rattle.std.proofs.lemmas.List.{length-map}
use Rattle.std.proofs.lemmas.List as lists
use Rattle.xdp_machine.specs.Program.{XdpProgram}
use Rattle.unfold_core.specs.declared.edges.Point.{Point}
use Rattle.unfold_core.specs.declared.links.Edge.{Edge}
use Rattle.unfold_core.specs.declared.unfolding.Unfolded.{Unfolded}
use Rattle.kind_core.specs.declared.kind.Offsets.TheVariants.{Fixed}
use Rattle.unfold_core.specs.Graphs.{first_point}
use Rattle.operator_cells.specs.HeldCells.Paths.{EdgeView, no_node, node_at}
use Rattle.predicate_core.specs.ProgramGraph.Graphs.{node_view, edge_view, graph_of}

abbrev pub point_at : Unfolded → ℕ → Point
point_at u k = get_or u.nodes.items k (first_point Fixed u.loops.items)

pub node_is : (p : XdpProgram) (u : Unfolded) (k : ℕ) → k < length u.nodes.items → node_at (graph_of p u).nodes k ≡ node_view (point_at u k)
node_is p u k below = lists.get_or-map node_view u.nodes.items k (first_point Fixed u.loops.items) no_node below

pub node_count : (p : XdpProgram) (u : Unfolded) → length (graph_of p u).nodes ≡ length u.nodes.items
node_count p u = length-map u.nodes.items node_view

pub node_inside : (p : XdpProgram) (u : Unfolded) (k : ℕ) → k < length (graph_of p u).nodes → k < length u.nodes.items
node_inside p u k below = subst (λ n. k < n) (node_count p u) below

-- an edge of the graph as one of the unfolded program
abbrev pub edge_back : EdgeView → Edge
edge_back x = record { from = x.from; taken = x.taken; to = x.to }

pub edge_there : (p : XdpProgram) (u : Unfolded) (x : Edge) → Contains u.edges.items x → Contains (graph_of p u).edges (edge_view x)
edge_there p u x (k, below, is) =
    (k, subst (λ n. k < n) (sym (length-map u.edges.items edge_view)) below, lists.get_or-map edge_view u.edges.items k x (edge_view x) below ∙ ap edge_view is)

pub edge_here : (p : XdpProgram) (u : Unfolded) (x : EdgeView) → Contains (graph_of p u).edges x → Contains u.edges.items (edge_back x)
edge_here p u x (k, lt, is) =
    let below : k < length u.edges.items = subst (λ n. k < n) (length-map u.edges.items edge_view) lt in
    (k, below, ap edge_back (sym (lists.get_or-map edge_view u.edges.items k (edge_back x) x below) ∙ is))
