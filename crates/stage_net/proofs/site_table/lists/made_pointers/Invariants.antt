use Rattle.std.specs.List.{filter}
use Rattle.std.proofs.Common.{◌≡◌}
use Rattle.hazard_core.specs.cell_core.Rows.{numbers}
use Rattle.hazard_core.specs.cell_core.View.{program_of}
use Rattle.stage_net.specs.SiteTable.Lists.{is_made_pointer}
use Rattle.stage_net.proofs.site_table.lists.made_pointers.Given as goal

abbrev pub invariant-loop-number : goal.invariant-loop-number
invariant-loop-number l = l.cells.items ≡ filter (is_made_pointer (program_of l.program) l.plan l.needed l.points l.row) (numbers 0 l.number)
