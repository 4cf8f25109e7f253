use Rattle.std.proofs.Common.{◌≡◌, ◌∙◌, ◌+◌, ◌<◌, ℕ, length, get_or, sym, ap, subst, arith}
use Rattle.block_core.proofs.list_laws_laws.PlaceLaws.{each_more, one_more}
use Rattle.block_core.specs.declared.name.Name.{Name}
use Rattle.block_core.specs.declared.block.Block.{Block}
use Rattle.block_core.specs.View.{block_of}
use Rattle.pipe_net.specs.declared.parts.Part.{Part}
use Rattle.pipe_net.specs.declared.parts.Sizes.{Sizes}
use Rattle.pipe_parts.specs.declared.pipe_draft.places.StageSources.{StageSources}
use Rattle.place_parts.specs.MarkParts.Marks.{IsMarksPart}
use Rattle.place_parts.specs.MarkParts.Places.{HaveOperands}
use Rattle.pipe_design.proofs.Marking.{mark_layout, up, have_operands, sites_at}
use Rattle.pipe_design.proofs.marks.mark_blocks.Goals as goal

pub marks_block-requires-clause-layout : goal.marks_block-requires-clause-layout
marks_block-requires-clause-layout c = mark_layout c.args.pipeline_plan.now c.requires.pipeline_plan c.args.layout.now c.requires.layout

pub marks_block-requires-clause-operands : goal.marks_block-requires-clause-operands
marks_block-requires-clause-operands c =
    let d = c.args.pipeline_plan.now in
    let f = c.args.layout.now in
    let k = c.loop-k.k in
    let x = c.index-places-k.result in
    let le = up d c.requires.pipeline_plan f c.requires.layout k c.loop-k-test.true in
    subst (HaveOperands f) (sym (sites_at c.args.places.now k x x _ (omega (arith, le, c.requires.places.count)) c.deref.ensures.value)) (have_operands d c.requires.pipeline_plan f c.requires.layout c.args.places.now c.requires.places k x le)

pub loop-k-preserved : goal.loop-k-preserved
loop-k-preserved c =
    let f = c.args.layout.now in
    let places = c.args.places.now in
    let changes = c.args.changes.now in
    let l = c.loop-k in
    let x = c.index-places-k.result in
    let le = up c.args.pipeline_plan.now c.requires.pipeline_plan f c.requires.layout l.k c.loop-k-test.true in
    let block = c.in_ok-marks_block.field-0 in
    let items = c.in_ok-push.ensures.items in
    let here = λ (b : StageSources).
    subst (λ s. IsMarksPart f s changes l.k (block_of block)) (sites_at places l.k x b _ (omega (arith, le, c.requires.places.count)) c.deref.ensures.value) c.in_ok-marks_block.ensures in
    record {
      count = ap length items ∙ one_more l.blocks.items l.k block l.invariant.count;
      each = λ k y lt b.
          subst (λ bs. IsMarksPart f (get_or places k b).sites.items changes k (block_of (get_or bs k y))) (sym items)
          (each_more (λ (j : ℕ) (z : Block (Name Part)). (e : StageSources) → IsMarksPart f (get_or places j e).sites.items changes j (block_of z)) l.blocks.items l.k block l.invariant.count l.invariant.each here k y lt b);
    }

pub returns : goal.returns
returns c =
    let l = c.loop-k in
    let same = ap (λ (z : Sizes). z.commit) c.requires.layout.sizes in
    let end = c.loop-k-test.false in
    record {
      count = omega (arith, l.invariant.count, same, end, l.auto.k-end);
      each = λ k b x le. l.invariant.each k x (omega (arith, le, same, end)) b;
    }
