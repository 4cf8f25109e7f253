use Rattle.std.proofs.Common.{◌≡◌, ◌∙◌, ◌+◌, ◌<◌, ◌∷◌, [], ◌++◌, ℕ, length, get_or, sym, ap, subst, arith}
use Rattle.block_core.proofs.list_laws_laws.PlaceLaws.{one_more}
use Rattle.block_core.specs.declared.name.Name.{Name}
use Rattle.block_core.specs.declared.block.Block.{Block}
use Rattle.block_core.specs.View.{block_of}
use Rattle.pipe_net.specs.declared.parts.Part.{Part}
use Rattle.pipe_net.specs.declared.parts.Sizes.{Sizes}
use Rattle.pipe_parts.specs.declared.pipe_draft.places.StageSources.{StageSources}
use Rattle.place_parts.specs.MarkParts.Reload.{IsReloadPart}
use Rattle.place_parts.specs.MarkParts.Places.{HaveOperands}
use Rattle.pipe_design.proofs.Joining.{both_more}
use Rattle.pipe_design.proofs.Marking.{mark_layout, up, have_operands, sites_at}
use Rattle.pipe_design.proofs.marks.reload_parts.Goals as goal

pub reload_part-requires-clause-layout : goal.reload_part-requires-clause-layout
reload_part-requires-clause-layout c = mark_layout c.args.pipeline_plan.now c.requires.pipeline_plan c.args.layout.now c.requires.layout

pub reload_part-requires-clause-operands : goal.reload_part-requires-clause-operands
reload_part-requires-clause-operands c =
    let d = c.args.pipeline_plan.now in
    let f = c.args.layout.now in
    let k = c.loop-k.k in
    let x = c.index-places-k.result in
    let le = up d c.requires.pipeline_plan f c.requires.layout k c.loop-k-test.true in
    subst (HaveOperands f) (sym (sites_at c.args.places.now k x x _ (omega (arith, le, c.requires.places.count)) c.deref.ensures.value)) (have_operands d c.requires.pipeline_plan f c.requires.layout c.args.places.now c.requires.places k x le)

pub loop-k-preserved : goal.loop-k-preserved
loop-k-preserved c =
    let f = c.args.layout.now in
    let places = c.args.places.now in
    let l = c.loop-k in
    let x = c.index-places-k.result in
    let le = up c.args.pipeline_plan.now c.requires.pipeline_plan f c.requires.layout l.k c.loop-k-test.true in
    let part = c.in_ok-part.part in
    let nets = c.in_ok-push.ensures.items in
    let blocks = c.in_ok-push-2.ensures.items in
    let here = λ (b : StageSources).
    subst (λ s. IsReloadPart f s l.k part.reload (block_of part.block)) (sites_at places l.k x b _ (omega (arith, le, c.requires.places.count)) c.deref.ensures.value) c.in_ok-part.ensures in
    record {
      nets = ap length nets ∙ one_more l.nets.items l.k part.reload l.invariant.nets;
      count = ap length blocks ∙ one_more l.blocks.items l.k part.block l.invariant.count;
      each = λ k n y lt b.
          subst (λ ns. IsReloadPart f (get_or places k b).sites.items k (get_or ns k n) (block_of (get_or c.push-in-loop-k.new.self.items k y))) (sym nets)
          (subst (λ bs. IsReloadPart f (get_or places k b).sites.items k (get_or (l.nets.items ++ part.reload ∷ []) k n) (block_of (get_or bs k y))) (sym blocks)
          (both_more (λ (j : ℕ) (m : Name Part) (z : Block (Name Part)). (e : StageSources) → IsReloadPart f (get_or places j e).sites.items j m (block_of z)) l.nets.items l.blocks.items l.k part.reload part.block l.invariant.nets l.invariant.count l.invariant.each here k n y
          lt b));
    }

pub returns : goal.returns
returns c =
    let l = c.loop-k in
    let same = ap (λ (z : Sizes). z.commit) c.requires.layout.sizes in
    let end = c.loop-k-test.false in
    record {
      count = omega (arith, l.invariant.count, same, end, l.auto.k-end);
      nets = omega (arith, l.invariant.nets, same, end, l.auto.k-end);
      each = λ k b n x le. l.invariant.each k n x (omega (arith, le, same, end)) b;
    }
