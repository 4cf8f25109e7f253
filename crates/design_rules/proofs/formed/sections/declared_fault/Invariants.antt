use Rattle.std.proofs.Common.{◌≡◌, drop}
use Rattle.net_core.specs.View.{netlist_of}
use Rattle.design_rules.specs.Formed.{section_fault, declared_rules}
use Rattle.design_rules.proofs.formed.sections.declared_fault.Given as goal

abbrev pub invariant-loop-k : goal.invariant-loop-k
invariant-loop-k l = (l.declared ≡ l.design.declared.items) × (section_fault (declared_rules (netlist_of l.design)) 0 l.k (drop l.k l.design.declared.items) ≡ section_fault (declared_rules (netlist_of l.design)) 0 0 l.design.declared.items)
