use Rattle.std.specs.Prelude.{filter}
use Rattle.std.proofs.Common.{◌≡◌, All, slice_index}
use Rattle.hazard_core.specs.cell_core.Rows.{numbers}
use Rattle.hazard_core.specs.cell_core.View.{program_of}
use Rattle.hazard_core.specs.StageValues.{is_pending}
use Rattle.read_net.specs.Sites.{sites_of}
use Rattle.stage_net.specs.Nets.{IsOwnOf}
use Rattle.stage_net.proofs.earlier.earlier.Given as goal

abbrev pub invariant-loop-i : goal.invariant-loop-i
invariant-loop-i g l = All (IsOwnOf (program_of l.at.program.now) l.sites) l.all.items × (sites_of l.all.items ≡ filter (is_pending (program_of l.at.program.now) (slice_index l.at.rows.now) l.at.row l.j) (numbers 0 l.i))
