use Rattle.std.proofs.Common.{◌≡◌, [], map, take}
use Rattle.net_core.specs.View.{wire_of}
use Rattle.register_rules.specs.NarrowRegisters.Narrow.{AreNarrowedWires}
use Rattle.register_rules.proofs.narrow_registers.storing.narrow_wires.Given as goal

abbrev pub invariant-loop-wire : goal.invariant-loop-wire
invariant-loop-wire l = record {
  registers : l.codes.registers.items ≡ l.fn.registers.items;
  wires : AreNarrowedWires l.fn.registers.items [] l.codes.wires.items (map wire_of (take l.wire-index l.wires)) (map wire_of l.all.items);
}
