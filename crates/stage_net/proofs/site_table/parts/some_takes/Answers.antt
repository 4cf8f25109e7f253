use Rattle.std.proofs.Common.{ℕ, map, sym, ap, ◌∙◌, arith}
use Rattle.std.proofs.Math.ListN.{get_or-map}
use Rattle.std.proofs.lemmas.List.{length-map}
use Rattle.std.proofs.lemmas.List.Folds.{list_any_at}
use Rattle.hazard_core.specs.cell_core.Sites.{SiteView}
use Rattle.hazard_core.specs.cell_core.View.{site_of}
use Rattle.stage_net.specs.SiteTable.Parts.{takes}
use Rattle.stage_net.proofs.site_table.parts.some_takes.Goals as goal

pub returns-then-takes : goal.returns-then-takes
returns-then-takes c =
    let sites = c.args.sites.now in
    let i : ℕ = c.loop-site.site-index in
    let s = c.site-item.result in
    sym (list_any_at (λ (x : SiteView). takes x c.args.cell) (map site_of sites) i (site_of s) (omega (arith, length-map sites site_of, c.loop-site-test.true))
    (ap (λ (x : SiteView). takes x c.args.cell) (get_or-map site_of sites i s ∙ ap site_of (sym c.site-item.is)) ∙ sym c.takes.ensures ∙ c.if-takes.true))
