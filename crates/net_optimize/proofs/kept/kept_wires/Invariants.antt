use Rattle.std.proofs.Common.{◌≡◌, ◌++◌, map, drop}
use Rattle.net_core.specs.View.{wire_of}
use Rattle.net_optimize.specs.Renumber.{numbers_of, kept_wires}
use Rattle.net_optimize.proofs.kept.kept_wires.Given as goal

abbrev pub invariant-loop-wire : goal.invariant-loop-wire
invariant-loop-wire l = record {
  place : l.at ≡ l.wire-index;
  done : map wire_of l.all.items ++ kept_wires (numbers_of l.numbers) (drop l.wire-index l.keep) (map wire_of (drop l.wire-index l.wires))
      ≡ kept_wires (numbers_of l.numbers) l.keep (map wire_of l.wires);
}
