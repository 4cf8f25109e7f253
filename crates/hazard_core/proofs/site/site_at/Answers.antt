use Rattle.std.proofs.Common.{ap}
use Rattle.cell_core.specs.Sites.{SiteView}
use Rattle.hazard_core.proofs.Sited.{site_read, site_fits}
use Rattle.hazard_core.proofs.site.site_at.Goals as goal

pub returns-clause-site : goal.returns-clause-site
returns-clause-site c = site_read _ _ _ c.requires c.index.ensures

pub returns-clause-map : goal.returns-clause-map
returns-clause-map c = ap (λ (s : SiteView). s.map) (site_read _ _ _ c.requires c.index.ensures)

pub returns-clause-guard : goal.returns-clause-guard
returns-clause-guard c = ap (λ (s : SiteView). s.guard) (site_read _ _ _ c.requires c.index.ensures)

pub returns-clause-act : goal.returns-clause-act
returns-clause-act c = ap (λ (s : SiteView). s.act) (site_read _ _ _ c.requires c.index.ensures)

pub returns-clause-key : goal.returns-clause-key
returns-clause-key c = ap (λ (s : SiteView). s.key) (site_read _ _ _ c.requires c.index.ensures)

pub returns-clause-operands : goal.returns-clause-operands
returns-clause-operands c = ap (λ (s : SiteView). s.operands) (site_read _ _ _ c.requires c.index.ensures)

pub returns-clause-fits : goal.returns-clause-fits
returns-clause-fits c = λ decls fit. site_fits decls _ _ _ c.requires c.index.ensures fit

pub returns-clause-map_in : goal.returns-clause-map_in
returns-clause-map_in c = λ decls fit. (site_fits decls _ _ _ c.requires c.index.ensures fit).map
