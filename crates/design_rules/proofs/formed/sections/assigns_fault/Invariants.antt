use Rattle.std.proofs.Common.{◌≡◌, drop, map}
use Rattle.net_core.specs.View.{netlist_of, assign_of}
use Rattle.design_rules.specs.Formed.{section_fault, assign_rules, assigns_start}
use Rattle.design_rules.proofs.formed.sections.assigns_fault.Given as goal

abbrev pub invariant-loop-k : goal.invariant-loop-k
invariant-loop-k l = (l.assigns ≡ l.design.assigns.items) × (section_fault (assign_rules (netlist_of l.design)) (assigns_start (netlist_of l.design)) l.k (drop l.k (map assign_of l.design.assigns.items)) ≡ section_fault (assign_rules (netlist_of l.design)) (assigns_start (netlist_of l.design)) 0 (map assign_of l.design.assigns.items))
