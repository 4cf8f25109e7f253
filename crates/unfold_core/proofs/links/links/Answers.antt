use Rattle.unfold_core.proofs.Linking.{ends_of_graph}
use Rattle.unfold_core.proofs.links.links.Goals as goal

pub add_links-requires-clause-ends : goal.add_links-requires-clause-ends
add_links-requires-clause-ends c =
    ends_of_graph c.requires.graph.0 c.args.program.now c.args.loops.now c.args.nodes.now c.deref.result.now c.in-Ok.ends.items c.index-nodes-number.result c.loop-number.number c.requires.loops c.requires.graph.1 c.loop-number-test.true c.index-nodes-number.is
    c.in-Ok.ensures c.deref.ensures.value
