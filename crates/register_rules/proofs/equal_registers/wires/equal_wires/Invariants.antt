use Rattle.std.proofs.Common.{◌≡◌, List, [], length, map}
use Rattle.net_core.specs.declared.tree.Word.{Word}
use Rattle.net_core.specs.View.{wire_of}
use Rattle.net_core.specs.Clock.{Stored, with_wires}
use Rattle.register_rules.specs.EqualRegisters.Alike.{HoldFirsts}
use Rattle.register_rules.proofs.equal_registers.wires.equal_wires.Given as goal

abbrev pub invariant-loop-i : goal.invariant-loop-i
invariant-loop-i l = record {
  count : length l.firsts.items ≡ l.i;
  same : (ins : List Word) (s : Stored) → HoldFirsts l.registers s.registers → HoldFirsts l.firsts.items (with_wires ins s [] (map wire_of l.wires));
}
