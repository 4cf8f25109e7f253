use Rattle.std.proofs.Common.{◌≡◌, ◌≤◌, ◌-◌, ℕ, [], length}
use Rattle.register_rules.specs.EqualRegisters.Settings.{list_at}
use Rattle.register_rules.proofs.equal_registers.settings.no_lists.Given as goal

abbrev pub invariant-filling : goal.invariant-filling
invariant-filling l = record {
  few : length l.lists.items ≤ l.count;
  none : (k : ℕ) → list_at l.lists.items k ≡ [];
}

abbrev pub decreases-filling : goal.decreases-filling
decreases-filling l = l.count - length l.lists.items
