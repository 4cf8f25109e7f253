use Rattle.std.specs.Prelude.{◌==◌}
use Rattle.std.specs.declared.alloc.Global.{Global}
use Rattle.std.specs.declared.vec.Vec.{Vec}
use Rattle.std.proofs.Common.{◌≡◌, ◌∙◌, ℕ, ◌<◌, Bool, true, false, All, [], ◌∷◌, ◌++◌, length, get_or, sym, ap, subst, arith}
use Rattle.std.proofs.lemmas.Bool.{eq-eqb, ne_eqb}
use Rattle.std.proofs.lemmas.List.Elements.{All-push}
use Rattle.std.proofs.lemmas.List.{get_or_default}
use Rattle.block_core.specs.declared.name.Name.{Name}
use Rattle.hazard_core.specs.cell_core.Sites.{site_at}
use Rattle.read_net.specs.declared.sites.OwnSite.{OwnSite}
use Rattle.read_net.specs.Sites.{sites_of}
use Rattle.pipe_net.specs.declared.parts.Part.{Part}
use Rattle.pipe_parts.specs.PipeDraft.PipelinePlan.{program_in}
use Rattle.pipe_parts.specs.TurnParts.Sites.{IsOwnOf}
use Rattle.pipe_parts.proofs.TurnParts.Siting.{read_there, site_there, own_more, own_same}
use Rattle.pipe_parts.proofs.turn_parts.sites.own_sites.Goals as goal
use Rattle.pipe_parts.proofs.turn_parts.sites.own_sites.Goals.{then-site_at-m+in_ok-push, else-site_at-m}

pub site_at-requires : goal.site_at-requires
site_at-requires c = site_there c.args.pipeline_plan.now c.requires.pipeline_plan c.loop-i.i c.index-site.result.now (omega (arith, c.loop-i-test.true, c.len-i-end.ensures)) c.index-site.ensures

pub own_site-requires-clause-site : goal.own_site-requires-clause-site
own_site-requires-clause-site c = read_there c.args.pipeline_plan.now c.requires.pipeline_plan c.loop-i.i c.index-site.result.now (omega (arith, c.loop-i-test.true, c.len-i-end.ensures)) c.index-site.ensures

pub loop-i-preserved : goal.loop-i-preserved
loop-i-preserved c =
    let d = c.args.pipeline_plan.now in
    let b = c.args.at.now in
    let m : ℕ = c.args.m in
    let js = d.records.items in
    let i : ℕ = c.loop-i.i in
    let q : ℕ → Bool = λ j. (site_at (program_in d).sites j).map == m in
    let lt : i < length js = omega (arith, c.loop-i-test.true, c.len-i-end.ensures) in
    let here : c.index-site.result.now ≡ get_or js i 0 = c.index-site.ensures ∙ get_or_default js i c.index-site.result.now 0 lt in
    elim c.if-site_at-m.branch [
      | then-site_at-m+in_ok-push w ↦
          let there : (site_at (program_in d).sites c.index-site.result.now).map ≡ m = sym c.site_at.ensures.map ∙ w.if-site_at-m.true in
          let on : q (get_or js i 0) ≡ true = subst (λ j. q j ≡ true) here (eq-eqb (site_at (program_in d).sites c.index-site.result.now).map m there) in
          let o = w.own_site.result in
          let e : c.if-site_at-m.owns.items ≡ c.loop-i.owns.items ++ o ∷ [] = ap (λ (v : Vec (OwnSite (Name Part)) Global). v.items) w.owns-is ∙ w.in_ok-push.ensures.items in
          record {
            sites = ap sites_of e ∙ own_more q js i lt c.loop-i.owns.items c.loop-i.invariant.sites o on (w.own_site.ensures.site ∙ here);
            each = subst (All (IsOwnOf d b m)) (sym e) (All-push (IsOwnOf d b m) c.loop-i.owns.items o c.loop-i.invariant.each (subst (λ k. IsOwnOf d b k o) there w.own_site.ensures.own));
          }
      | else-site_at-m w ↦
          let off : q (get_or js i 0) ≡ false = subst (λ j. q j ≡ false) here (ne_eqb (site_at (program_in d).sites c.index-site.result.now).map m (λ e. w.if-site_at-m.false (c.site_at.ensures.map ∙ e))) in
          let e : c.if-site_at-m.owns.items ≡ c.loop-i.owns.items = ap (λ (v : Vec (OwnSite (Name Part)) Global). v.items) w.owns-is in
          record { sites = ap sites_of e ∙ own_same q js i lt c.loop-i.owns.items c.loop-i.invariant.sites off; each = subst (All (IsOwnOf d b m)) (sym e) c.loop-i.invariant.each }
    ]
