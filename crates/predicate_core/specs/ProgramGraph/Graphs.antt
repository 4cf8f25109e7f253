-- The graph of a program as it unfolds, by the numbers of its nodes.
use Rattle.std.specs.Prelude.{map}
use Rattle.xdp_machine.specs.Program.{XdpProgram, program_code}
use Rattle.unfold_core.specs.declared.edges.Point.{Point}
use Rattle.unfold_core.specs.declared.links.Edge.{Edge}
use Rattle.unfold_core.specs.declared.unfolding.Unfolded.{Unfolded}
use Rattle.operator_cells.specs.HeldCells.Paths.{NodeView, EdgeView, GraphView}

-- of a node its place, and what is known there
abbrev pub node_view : Point → NodeView
node_view n = record { place = n.node.place; kinds = n.kinds }

abbrev pub edge_view : Edge → EdgeView
edge_view x = record { from = x.from; taken = x.taken; to = x.to }

abbrev pub graph_of : XdpProgram → Unfolded → GraphView
graph_of p u = record { code = program_code p; decls = p.decls; nodes = map node_view u.nodes.items; edges = map edge_view u.edges.items }
