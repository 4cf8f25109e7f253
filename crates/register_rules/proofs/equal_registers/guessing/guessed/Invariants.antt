use Rattle.std.proofs.Common.{◌≡◌, length}
use Rattle.register_rules.proofs.equal_registers.guessing.guessed.Given as goal

abbrev pub invariant-loop : goal.invariant-loop
invariant-loop l = record {
  registers : length l.registers.items ≡ length l.words;
  marks : length l.marks.items ≡ length l.words;
  wires : length l.wire_marks.items ≡ length l.design.wires.items;
}
