use Rattle.std.proofs.Common.{◌≡◌, drop, map}
use Rattle.net_core.specs.View.{netlist_of, wire_of}
use Rattle.design_rules.specs.Formed.{section_fault, wire_rules, wires_start}
use Rattle.design_rules.proofs.formed.sections.wires_fault.Given as goal

abbrev pub invariant-loop-k : goal.invariant-loop-k
invariant-loop-k l = (l.wires ≡ l.design.wires.items) × (section_fault (wire_rules (netlist_of l.design)) (wires_start (netlist_of l.design)) l.k (drop l.k (map wire_of l.design.wires.items)) ≡ section_fault (wire_rules (netlist_of l.design)) (wires_start (netlist_of l.design)) 0 (map wire_of l.design.wires.items))
