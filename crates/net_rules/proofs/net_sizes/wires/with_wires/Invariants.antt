use Rattle.std.proofs.Common.{◌≡◌, map, take, length}
use Rattle.net_core.specs.View.{wire_of}
use Rattle.net_rules.specs.NetSizes.Fitting.{sizes_of}
use Rattle.net_rules.specs.NetSizes.Keeping.{WiresFit}
use Rattle.net_rules.proofs.net_sizes.wires.with_wires.Given as goal

abbrev pub invariant-loop-wire : goal.invariant-loop-wire
invariant-loop-wire l = record {
  registers : l.sizes.registers ≡ l.fn.registers;
  count : length l.sizes.wires.items ≡ l.wire-index;
  fit : WiresFit (sizes_of l.sizes) (map wire_of (take l.wire-index l.wires));
}
