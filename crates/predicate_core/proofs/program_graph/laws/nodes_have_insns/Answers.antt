use Rattle.predicate_core.proofs.ProgramGraph.Insns.{nodes_have_insns}
use Rattle.predicate_core.proofs.program_graph.laws.nodes_have_insns.Goals as goal

pub returns : goal.returns
returns c = nodes_have_insns c.nodes_have_links.ensures
