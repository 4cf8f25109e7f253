use Rattle.std.proofs.Common.{rules, ◌≡◌, ◌∙◌, ℕ, List, map, get_or, sym, ap, subst, arith}
use Rattle.std.proofs.lemmas.List.{get_or-map, length-map}
use Rattle.cell_core.specs.Sites.{SiteView}
use Rattle.cell_core.specs.View.{site_of}
use Rattle.row_plan.specs.Steps.{Keeps, OfSites}
use Rattle.row_plan.proofs.KeepingLemmas.{sites_next, whole_list}
use Rattle.row_plan.proofs.keeping.keep_sites.Goals as goal

pub loop-site-preserved : goal.loop-site-preserved
loop-site-preserved c =
    let i : ℕ = c.loop-site.site-index in
    let item : c.site-item.result ≡ get_or c.args.sites.now i c.site-item.result = search rules in
    sites_next (map site_of c.args.sites.now) c.args.commit i (site_of c.site-item.result) c.args.kept.now c.loop-site.kept c.keep_site.new.kept
    (omega (arith, length-map c.args.sites.now site_of, c.loop-site-test.true))
    (ap site_of item ∙ sym (get_or-map site_of c.args.sites.now i c.site-item.result (site_of c.site-item.result) c.loop-site-test.true)) c.loop-site.invariant c.keep_site.ensures

pub returns : goal.returns
returns c =
    let P : List SiteView → Type 0 = λ ss. Keeps (OfSites ss c.args.commit) c.args.kept.now c.loop-site.kept in
    subst P (whole_list (map site_of c.args.sites.now) c.loop-site.site-index (search (rules, length-map c.args.sites.now site_of))) c.loop-site.invariant
