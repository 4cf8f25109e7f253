use Rattle.std.proofs.Common.{◌≡◌, ◌++◌, map, drop}
use Rattle.net_core.specs.View.{wire_of}
use Rattle.block_core.specs.Blocks.{gather}
use Rattle.block_core.specs.Link.{link_wires}
use Rattle.block_core.specs.Range.{wires_in_range}
use Rattle.block_core.specs.View.{block_of, resolve_in}
use Rattle.block_core.proofs.sections.all_wires.Given as goal

abbrev pub invariant-loop-placed : goal.invariant-loop-placed
invariant-loop-placed g l = record {
  linked : map wire_of l.all.items ++ gather (λ m. link_wires (resolve_in g.P.Part.place l.starts) (block_of m.block).wires) (drop l.placed-index l.parts)
      ≡ gather (λ m. link_wires (resolve_in g.P.Part.place l.starts) (block_of m.block).wires) l.parts;
  range : wires_in_range (gather (λ m. link_wires (resolve_in g.P.Part.place l.starts) (block_of m.block).wires) (drop l.placed-index l.parts))
      ≡ wires_in_range (gather (λ m. link_wires (resolve_in g.P.Part.place l.starts) (block_of m.block).wires) l.parts);
}
