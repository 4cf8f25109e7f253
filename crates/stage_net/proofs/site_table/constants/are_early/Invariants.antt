use Rattle.std.proofs.Common.{◌≡◌, ◌<◌, ℕ, true}
use Rattle.hazard_core.specs.cell_core.View.{program_of}
use Rattle.stage_net.specs.SiteTable.Constants.{is_early}
use Rattle.stage_net.proofs.site_table.constants.are_early.Given as goal

abbrev pub invariant-loop-number : goal.invariant-loop-number
invariant-loop-number l = (k : ℕ) → k < l.number → is_early (program_of l.program) l.plan k ≡ true
