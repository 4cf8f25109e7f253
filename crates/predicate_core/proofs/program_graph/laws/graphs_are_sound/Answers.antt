use Rattle.predicate_core.proofs.ProgramGraph.Sounding.{graphs_are_sound}
use Rattle.predicate_core.proofs.program_graph.laws.graphs_are_sound.Goals as goal

pub returns : goal.returns
returns c = graphs_are_sound (record {
  start = c.start_is_first.ensures;
  links = c.nodes_have_links.ensures;
  joins = c.links_are_joined.ensures;
  leads = c.edges_lead_on.ensures;
  reached = c.nodes_are_reached.ensures;
  widen = c.joins_widen.ensures;
  fill = c.joins_are_filled.ensures;
  edges_fill = c.edges_are_filled.ensures;
  jumps_fill = c.jumps_are_filled.ensures;
})
