-- How many sites are in memory.
use Rattle.std.proofs.Common.{◌≡◌, List, length}
use Rattle.std.proofs.lemmas.List.{length-map}
use Rattle.cell_core.specs.declared.site.Site.{Site}
use Rattle.cell_core.specs.View.{site_of}
use Rattle.site_cells.specs.Sited.{sited}

pub sited_length : (sites : List Site) → length (sited sites) ≡ length sites
unfolding sited
sited_length sites = length-map sites site_of
