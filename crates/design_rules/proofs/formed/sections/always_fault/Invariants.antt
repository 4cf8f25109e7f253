use Rattle.std.proofs.Common.{◌≡◌, drop, map}
use Rattle.net_core.specs.View.{netlist_of, statement_of}
use Rattle.design_rules.specs.Formed.{section_fault, always_rules, always_start}
use Rattle.design_rules.proofs.formed.sections.always_fault.Given as goal

abbrev pub invariant-loop-k : goal.invariant-loop-k
invariant-loop-k l = (l.always ≡ l.design.always.items) × (section_fault (always_rules (netlist_of l.design)) (always_start (netlist_of l.design)) l.k (drop l.k (map statement_of l.design.always.items)) ≡ section_fault (always_rules (netlist_of l.design)) (always_start (netlist_of l.design)) 0 (map statement_of l.design.always.items))
