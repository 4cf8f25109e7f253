use Rattle.std.proofs.Common.{map as map_list}
use Rattle.cell_core.specs.View.{cell_of, site_of}
use Rattle.row_plan.specs.Steps.{Keeps, OfWrites}
use Rattle.row_plan.proofs.keeping.keep_writes.Given as goal

abbrev pub invariant-loop-number : goal.invariant-loop-number
invariant-loop-number l = Keeps (OfWrites (map_list cell_of l.cells) (map_list site_of l.sites) l.commit l.number) l.fn.kept l.kept
