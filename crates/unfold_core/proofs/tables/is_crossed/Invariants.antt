use Rattle.std.proofs.Common.{ℕ, ◌<◌, get_or}
use Rattle.unfold_core.specs.declared.nesting.Loop.{Loop}
use Rattle.unfold_core.specs.Tables.{Crosses}
use Rattle.unfold_core.proofs.tables.is_crossed.Given as goal

abbrev pub invariant-loop-outer : goal.invariant-loop-outer
invariant-loop-outer l = (k : ℕ) (d : Loop) → k < l.outer-index → ¬ Crosses (get_or l.earlier k d) l.inner
