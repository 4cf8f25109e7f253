-- Sites in memory.
use Rattle.std.specs.Prelude.{List, map as map_list}
use Rattle.cell_core.specs.declared.site.Site.{Site}
use Rattle.cell_core.specs.Sites.{SiteView}
use Rattle.cell_core.specs.View.{site_of}

-- sites, without the places in memory where they lie
unfoldable pub sited : List Site → List SiteView
sited sites = map_list site_of sites
