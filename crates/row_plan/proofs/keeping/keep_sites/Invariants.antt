use Rattle.std.proofs.Common.{take}
use Rattle.std.proofs.Common.{map as map_list}
use Rattle.cell_core.specs.View.{site_of}
use Rattle.row_plan.specs.Steps.{Keeps, OfSites}
use Rattle.row_plan.proofs.keeping.keep_sites.Given as goal

abbrev pub invariant-loop-site : goal.invariant-loop-site
invariant-loop-site l = Keeps (OfSites (take l.site-index (map_list site_of l.sites)) l.commit) l.fn.kept l.kept
