use Rattle.std.proofs.Common.{◌≡◌, ◌++◌, map, drop}
use Rattle.net_core.specs.View.{assign_of}
use Rattle.block_core.specs.Link.{link_output}
use Rattle.block_core.specs.Range.{assigns_in_range}
use Rattle.block_core.specs.View.{output_of, resolve_in}
use Rattle.block_core.proofs.sections.all_assigns.Given as goal

abbrev pub invariant-loop-output : goal.invariant-loop-output
invariant-loop-output g l = record {
  linked : map assign_of l.all.items ++ map (λ o. link_output (resolve_in g.P.Part.place l.starts) (output_of o)) (drop l.output-index l.outputs)
      ≡ map (λ o. link_output (resolve_in g.P.Part.place l.starts) (output_of o)) l.outputs;
  range : assigns_in_range (map (λ o. link_output (resolve_in g.P.Part.place l.starts) (output_of o)) (drop l.output-index l.outputs))
      ≡ assigns_in_range (map (λ o. link_output (resolve_in g.P.Part.place l.starts) (output_of o)) l.outputs);
}
