use Rattle.std.proofs.Common.{◌≡◌, ◌≢◌, ℕ, ◌<◌, List, length, get_or, sym, ◌∙◌, subst, arith, map as map_list}
use Rattle.std.proofs.lemmas.List.{length-map}
use Rattle.xdp_state.specs.xdp_maps.declared.decl.MapDecl.{MapDecl}
use Rattle.cell_core.specs.declared.site.Site.{Site}
use Rattle.cell_core.specs.Cells.{value_in}
use Rattle.cell_core.specs.Formed.{FitsMap, AllFit}
use Rattle.cell_core.specs.View.{site_of}
use Rattle.cell_core.proofs.Sites.{site_read, after_site, on_when, applied_on}
use Rattle.cell_core.proofs.evaluation.read.Goals as goal

fits : (old new : List MapDecl) (ss : List Site) (i : ℕ) (s : Site) → AllFit old (map_list site_of ss) → new ≡ old → i < length ss → s ≡ get_or ss i s → FitsMap new (site_of s)
fits old new ss i s all same h e =
    subst (λ (d : List MapDecl). FitsMap d (site_of s)) (sym same)
    (subst (FitsMap old) (site_read ss i s h e) (all i (omega (arith, h, length-map ss site_of))))

pub find-requires : goal.find-requires
find-requires c = fits c.args.maps.now.decls _ c.args.sites.now c.args.at c.index-sites-at.result c.requires.fits c.in_ok-reach.ensures.decls c.requires.site c.index-sites-at.is

pub apply-requires : goal.apply-requires
apply-requires c = fits c.args.maps.now.decls _ c.args.sites.now c.args.at c.index-sites-at.result c.requires.fits c.in_ok-reach.ensures.decls c.requires.site c.index-sites-at.is

pub returns-in_ok-answer-in-Answer-clause-passed : goal.returns-in_ok-answer-in-Answer-clause-passed
returns-in_ok-answer-in-Answer-clause-passed c =
    let v : ℕ → ℕ = value_in c.args.values.now in
    let some : v c.index-sites-at.result.guard ≢ 0 = subst (λ (n : ℕ). n ≢ 0) c.value_in.ensures c.if-value_in-eq0.false in
    after_site v c.args.maps.now c.reach.new.own c.apply.new.maps c.args.sites.now c.args.at c.index-sites-at.result c.requires.site c.index-sites-at.is
    c.in_ok-reach.ensures.passed
    (c.in_ok-answer-in-Answer.ensures.maps ∙ applied_on v c.reach.new.own (site_of c.index-sites-at.result) (on_when (v c.index-sites-at.result.guard) some))
