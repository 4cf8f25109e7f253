use Rattle.std.proofs.Common.{◌≡◌, ◌++◌, drop}
use Rattle.std.specs.Prelude.{IsTrue}
use Rattle.net_core.specs.Clock.{first_words, first_memories}
use Rattle.net_core.specs.Width.{declared_typed}
use Rattle.event_sim.proofs.held.Held.first.Given as goal

abbrev pub invariant-loop-item : goal.invariant-loop-item
invariant-loop-item l = record {
  typed : IsTrue (declared_typed (drop l.item-index l.declared));
  registers : l.registers.items ++ first_words (drop l.item-index l.declared) ≡ first_words l.declared;
  memories : l.memories.items ++ first_memories (drop l.item-index l.declared) ≡ first_memories l.declared;
}
