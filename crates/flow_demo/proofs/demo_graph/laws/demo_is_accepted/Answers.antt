use Rattle.flow_demo.proofs.DemoGraph.DemoGraph.{demo_accepted}
use Rattle.flow_demo.proofs.demo_graph.laws.demo_is_accepted.Goals as goal

pub returns : goal.returns
returns c = demo_accepted
