use Rattle.std.specs.List.{list_any}
use Rattle.std.proofs.Common.{◌≡◌, false, take, map}
use Rattle.hazard_core.specs.cell_core.View.{site_of}
use Rattle.stage_net.specs.SiteTable.Parts.{takes}
use Rattle.stage_net.proofs.site_table.parts.some_takes.Given as goal

abbrev pub invariant-loop-site : goal.invariant-loop-site
invariant-loop-site l = list_any (λ s. takes s l.cell) (map site_of (take l.site-index l.sites)) ≡ false
