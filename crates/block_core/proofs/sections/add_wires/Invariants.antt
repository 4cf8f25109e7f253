use Rattle.std.proofs.Common.{◌≡◌, ◌++◌, map, drop}
use Rattle.net_core.specs.View.{wire_of}
use Rattle.block_core.specs.Link.{link_wire}
use Rattle.block_core.specs.Range.{wires_in_range}
use Rattle.block_core.specs.View.{block_wire_of, resolve_in}
use Rattle.block_core.proofs.sections.add_wires.Given as goal

abbrev pub invariant-loop-wire : goal.invariant-loop-wire
invariant-loop-wire g l = record {
  linked : map wire_of l.all.items ++ map (λ w. link_wire (resolve_in g.P.Part.place l.starts) (block_wire_of w)) (drop l.wire-index l.wires)
      ≡ map wire_of l.initial.all.items ++ map (λ w. link_wire (resolve_in g.P.Part.place l.starts) (block_wire_of w)) l.wires;
  range : wires_in_range (map (λ w. link_wire (resolve_in g.P.Part.place l.starts) (block_wire_of w)) (drop l.wire-index l.wires))
      ≡ wires_in_range (map (λ w. link_wire (resolve_in g.P.Part.place l.starts) (block_wire_of w)) l.wires);
}
