use Rattle.std.proofs.Common.{All, map}
use Rattle.hazard_core.specs.cell_core.View.{cell_of}
use Rattle.row_net.specs.PlaceNet.Sources.{IsSource}
use Rattle.place_parts.proofs.Sources.{are_sources}
use Rattle.place_parts.proofs.first.before_first.Goals as goal

pub source_cells-requires-clause-listed : goal.source_cells-requires-clause-listed
source_cells-requires-clause-listed c = coe 1 0 (i. All (IsSource (c.deref-2.ensures.value i) (map cell_of (c.deref-3.ensures.value i))) (c.deref-4.ensures.value i)) (are_sources c.args.pipeline_plan.now c.requires)
