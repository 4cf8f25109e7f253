use Rattle.std.proofs.Common.{◌≤◌, drop}
use Rattle.net_core.specs.Clock.{first_words, first_memories}
use Rattle.net_optimize.proofs.KeptLists.{IsDeclared}
use Rattle.net_optimize.specs.Renumber.{kept}
use Rattle.net_optimize.proofs.kept.kept_declared.Given as goal

abbrev pub invariant-loop-item : goal.invariant-loop-item
invariant-loop-item l = record {
  below : l.register ≤ l.item-index;
  done : IsDeclared l.keep l.all.items (drop l.item-index l.declared) l.register (kept l.keep (first_words l.declared)) (first_memories l.declared);
}
