use Rattle.std.proofs.Common.{ℕ, get_or}
use Rattle.net_core.specs.declared.tree.Word.{Word}
use Rattle.net_rules.specs.NetSizes.Fitting.{Fits}
use Rattle.net_rules.proofs.net_sizes.staying.clear.Given as goal

abbrev pub invariant-loop-k : goal.invariant-loop-k
invariant-loop-k l = (k : ℕ) (w : Word) → Fits (get_or l.fn.sizes k 0) w → Fits (get_or l.sizes k 0) w
