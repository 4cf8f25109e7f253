use Rattle.std.proofs.Common.{◌≡◌, length, map, take}
use Rattle.net_core.specs.declared.tree.Net.{Net}
use Rattle.net_core.specs.View.{wire_of}
use Rattle.net_core.specs.Value.{Env}
use Rattle.net_rules.specs.NetSizes.Fitting.{AreFitting}
use Rattle.design_rules.specs.SolvedWires.Solving.{Solves}
use Rattle.register_rules.specs.NarrowRegisters.Narrow.{Each}
use Rattle.net_optimize.specs.SimpleLogic.Simple.{Hold, IsSameWire, registers_alone}
use Rattle.net_optimize.proofs.simple_logic.wires.simple_wires.Given as goal

abbrev pub invariant-loop-wire : goal.invariant-loop-wire
invariant-loop-wire l = record {
  sizes : length l.facts.sizes.wires.items ≡ l.wire-index;
  known : length l.facts.known.items ≡ l.wire-index;
  same : (v : Env Net) → AreFitting (registers_alone l.fn.registers.items) v → Solves v 0 (map wire_of l.wires) → Each (IsSameWire v) (map wire_of (take l.wire-index l.wires)) (map wire_of l.all.items);
  hold : (v : Env Net) → AreFitting (registers_alone l.fn.registers.items) v → Solves v 0 (map wire_of l.wires) → Hold l.facts v;
}
