use Rattle.std.proofs.Common.{take, map}
use Rattle.overlay_net.specs.cell_core.View.{site_of}
use Rattle.row_net.specs.Needed.{Marks, OfSites}
use Rattle.row_net.proofs.needed.mark_sites.Given as goal

abbrev pub invariant-loop-site : goal.invariant-loop-site
invariant-loop-site l = Marks (OfSites (take l.site-index (map site_of l.sites))) l.fn.flags l.flags
