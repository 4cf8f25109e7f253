use Rattle.std.proofs.Common.{rules, ◌≡◌, ◌∙◌, ℕ, map, get_or, sym, ap, arith}
use Rattle.std.proofs.lemmas.List.{get_or-map, length-map}
use Rattle.overlay_net.specs.cell_core.View.{site_of}
use Rattle.row_net.proofs.MarkLemmas.{sites_start, sites_next, sites_all}
use Rattle.row_net.proofs.needed.mark_sites.Goals as goal

pub loop-site-init : goal.loop-site-init
loop-site-init c = sites_start c.args.flags.now

pub loop-site-preserved : goal.loop-site-preserved
loop-site-preserved c =
    let i : ℕ = c.loop-site.site-index in
    let item : c.site-item.result ≡ get_or c.args.sites.now i c.site-item.result = search rules in
    sites_next (map site_of c.args.sites.now) i (site_of c.site-item.result) c.args.flags.now c.loop-site.flags c.mark_site.new.flags (omega (arith, length-map c.args.sites.now site_of, c.loop-site-test.true))
    (ap site_of item ∙ sym (get_or-map site_of c.args.sites.now i c.site-item.result (site_of c.site-item.result) c.loop-site-test.true)) c.loop-site.invariant c.mark_site.ensures

pub returns : goal.returns
returns c = sites_all (map site_of c.args.sites.now) c.loop-site.site-index c.args.flags.now c.loop-site.flags (search (rules, length-map c.args.sites.now site_of)) c.loop-site.invariant
