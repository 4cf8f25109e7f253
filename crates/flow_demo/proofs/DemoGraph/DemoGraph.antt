-- The program is accepted.
use Rattle.std.proofs.Common.{◌≡◌, true, is_some, List, [], length, refl, arith}
use Rattle.std.specs.List.{list_all}
use Rattle.std.proofs.lemmas.List.Sums.{AllPass-from_list_all}
use Rattle.row_rules.specs.unfold_core.declared.edges.Point.{Point}
use Rattle.row_rules.specs.unfold_core.declared.links.Edge.{Edge}
use Rattle.row_rules.specs.unfold_core.Loops.{HasLoops}
use Rattle.row_rules.specs.unfold_core.Edges.{leaving}
use Rattle.row_rules.specs.unfold_core.Unfolding.{links}
use Rattle.row_rules.specs.kind_core.Access.{loaded, loaded_plain, loaded_signed, stored}
use Rattle.row_rules.specs.kind_core.Effects.{effect_of}
use Rattle.row_rules.specs.NodeRows.Rows.{insn_of, no_point}
use Rattle.flow_demo.specs.Program.{demo_insns, demo_program}
use Rattle.flow_demo.specs.DemoGraph.Size.{DemoIsAccepted}
use Rattle.flow_demo.proofs.DemoGraph.NoLoops.{has_none}
use Rattle.flow_demo.proofs.DemoGraph.Walked.{graph_within, graph_is, nodes_in, there}
use Rattle.flow_demo.proofs.DemoGraph.FewStages.{few_stages}

loops : HasLoops demo_program.insns []
unfolding demo_program demo_insns
loops = has_none demo_insns refl (omega arith)

nodes : List Point
nodes = nodes_in (graph_within demo_program [] 29)

edges : List Edge
edges = links demo_program [] nodes 0 nodes

walks : is_some (graph_within demo_program [] 29) ≡ true
unfolding demo_program demo_insns leaving effect_of loaded loaded_plain loaded_signed stored
walks = refl

count : length nodes ≡ 29
unfolding nodes demo_program demo_insns leaving effect_of loaded loaded_plain loaded_signed stored
count = refl

begin : list_all (λ at. is_some (insn_of demo_program at)) nodes ≡ true
unfolding nodes demo_program demo_insns leaving effect_of loaded loaded_plain loaded_signed stored
begin = refl

pub demo_accepted : DemoIsAccepted
unfolding nodes edges
demo_accepted =
    let stages = few_stages demo_program nodes edges (omega (arith, count)) (λ k inside. AllPass-from_list_all (λ at. is_some (insn_of demo_program at)) nodes begin k no_point inside) in
    record {
      accepted = record {
        unfolds = record {
          loops = [];
          graph = nodes;
          has_loops = loops;
          is_graph = graph_is demo_program [] 29 nodes loops.loops (there (graph_within demo_program [] 29) walks) (omega (arith, count));
        };
        stages = stages.0;
        has_stages = stages.1;
      };
      nodes = count;
    }
