use Rattle.std.proofs.Common.{◌∙◌, get_or, refl, ap, arith}
use Rattle.std.proofs.lemmas.List.{get_or_default}
use Rattle.cell_core.specs.Sites.{SiteView}
use Rattle.site_cells.proofs.SitedLaws.{sited_length}
use Rattle.predicate_core.proofs.Gathered.{passes_none, passes_some}
use Rattle.predicate_core.proofs.Progressing.{sited_at}
use Rattle.predicate_core.proofs.making.pass.Goals as goal

pub index-requires : goal.index-requires
index-requires c =
    let h = c.requires.map (omega (arith, c.if-sites_before-sites.true, sited_length c.args.sites.now)) in
    omega (arith, h, ap (λ (s : SiteView). s.map) (sited_at c.args.sites.now c.args.sites_before c.index-sites-sites_before.result c.if-sites_before-sites.true))

pub pending_behind-requires-clause-before : goal.pending_behind-requires-clause-before
pending_behind-requires-clause-before c =
    let h = c.requires.map (omega (arith, c.if-sites_before-sites.true, sited_length c.args.sites.now)) in
    let e = ap (λ (s : SiteView). s.map) (sited_at c.args.sites.now c.args.sites_before c.index-sites-sites_before.result c.if-sites_before-sites.true) in
    let x = c.requires.there (get_or c.args.sites.now c.args.sites_before c.index-sites-sites_before.result).map c.index.result.now (omega (arith, h, e)) in
    omega (arith, x, c.index.ensures)

pub index_mut-requires : goal.index_mut-requires
index_mut-requires c =
    let h = c.requires.map (omega (arith, c.if-sites_before-sites.true, sited_length c.args.sites.now)) in
    omega (arith, h, ap (λ (s : SiteView). s.map) (sited_at c.args.sites.now c.args.sites_before c.index-sites-sites_before.result c.if-sites_before-sites.true))

pub returns-in_ok-c-clause-rows : goal.returns-in_ok-c-clause-rows
returns-in_ok-c-clause-rows c =
    let h = c.requires.map (omega (arith, c.if-sites_before-sites.true, sited_length c.args.sites.now)) in
    let e = ap (λ (s : SiteView). s.map) (sited_at c.args.sites.now c.args.sites_before c.index-sites-sites_before.result c.if-sites_before-sites.true) in
    passes_some _ _ _ c.args.sites_before c.args.first (get_or c.args.sites.now c.args.sites_before c.index-sites-sites_before.result).map c.in_ok-c.c c.index.result.now c.args.pending.now.items _
    (omega (arith, c.if-sites_before-sites.true, sited_length c.args.sites.now)) e
    (c.index.ensures ∙ get_or_default c.args.pending.now.items (get_or c.args.sites.now c.args.sites_before c.index-sites-sites_before.result).map c.index.result.now 0 (omega (arith, h, e))) refl c.in_ok-c.ensures

pub returns-else-sites_before-sites-clause-rows : goal.returns-else-sites_before-sites-clause-rows
returns-else-sites_before-sites-clause-rows c = passes_none _ _ c.args.sites_before c.args.first c.args.pending.now.items (omega (arith, c.if-sites_before-sites.false, sited_length c.args.sites.now))
