use Rattle.std.proofs.Common.{ℕ, ◌<◌, List, length, sym, ◌∙◌, ap, subst, arith, map as map_list}
use Rattle.std.proofs.lemmas.List.{length-map}
use Rattle.xdp_state.specs.xdp_maps.declared.decl.MapDecl.{MapDecl}
use Rattle.xdp_state.specs.xdp_maps.State.{MapState}
use Rattle.cell_core.specs.Cells.{value_in}
use Rattle.cell_core.specs.Formed.{FitsMap}
use Rattle.cell_core.specs.View.{site_of}
use Rattle.cell_core.proofs.Sites.{site_read, after_site, applied_decls}
use Rattle.cell_core.proofs.evaluation.advance.Goals as goal

pub pass-requires : goal.pass-requires
pass-requires c =
    let h : c.loop-i.i < length c.args.sites.now = omega (arith, c.requires.range) in
    let more : c.loop-i.i < length (map_list site_of c.args.sites.now) = omega (arith, h, length-map c.args.sites.now site_of) in
    subst (λ (d : List MapDecl). FitsMap d (site_of c.index-sites-i.result)) (sym c.loop-i.invariant.0)
    (subst (FitsMap c.args.maps.now.decls) (site_read c.args.sites.now c.loop-i.i c.index-sites-i.result h c.index-sites-i.is) (c.requires.fits c.loop-i.i more))

pub loop-i-preserved : goal.loop-i-preserved
loop-i-preserved c =
    let h : c.loop-i.i < length c.args.sites.now = omega (arith, c.requires.range) in
    let v : ℕ → ℕ = value_in c.args.values.now in (
      ap (λ (m : MapState). m.decls) c.in_ok-pass.ensures ∙ applied_decls v c.loop-i.maps (site_of c.index-sites-i.result) ∙ c.loop-i.invariant.0,
      λ start e. after_site v start c.loop-i.maps c.pass.new.maps c.args.sites.now c.loop-i.i c.index-sites-i.result h c.index-sites-i.is (c.loop-i.invariant.1 start e) c.in_ok-pass.ensures,
    )
