use Rattle.std.proofs.Common.{◌≡◌, drop, max, slice_index}
use Rattle.std.proofs.Common.{map as map_list}
use Rattle.cell_core.specs.View.{site_of}
use Rattle.row_plan.specs.Plan.{site_row}
use Rattle.row_plan.proofs.rows.site_row.Given as goal

abbrev pub invariant-loop-site : goal.invariant-loop-site
invariant-loop-site l = max l.most (site_row (slice_index l.rows) (map_list site_of (drop l.site-index l.sites))) ≡ site_row (slice_index l.rows) (map_list site_of l.sites)
