use Rattle.std.proofs.Common.{◌≡◌, ◌<◌, ℕ, length}
use Rattle.hazard_core.specs.cell_core.View.{program_of}
use Rattle.row_net.specs.Needed.{flag}
use Rattle.stage_net.specs.SiteTable.Parts.{is_part}
use Rattle.stage_net.proofs.site_table.parts.site_parts.Given as goal

abbrev pub invariant-loop-number : goal.invariant-loop-number
invariant-loop-number l = record { count : length l.parts.items ≡ l.number; each : (k : ℕ) → k < l.number → flag l.parts.items k ≡ is_part (program_of l.program) k }
