use Rattle.std.proofs.Common.{ℕ, get_or}
use Rattle.net_core.specs.Value.{nothing}
use Rattle.net_core.specs.Clock.{first_words}
use Rattle.net_rules.specs.NetSizes.Fitting.{Fits}
use Rattle.net_rules.proofs.net_sizes.staying.register_sizes.Given as goal

-- the first words fit
abbrev pub invariant-loop : goal.invariant-loop
invariant-loop l = (k : ℕ) → Fits (get_or l.registers.items k 0) (get_or (first_words l.design.declared.items) k nothing)
