use Rattle.std.specs.List.{AllByRecursion}
use Rattle.std.proofs.Common.{◌≡◌, ◌∙◌, ◌≤◌, List, length, get_or, refl, sym, ap, subst, arith}
use Rattle.std.proofs.lemmas.List.{get_or_default}
use Rattle.frame_net.specs.Gather.{IsKept}
use Rattle.pipe_net.specs.declared.parts.Sizes.{Sizes}
use Rattle.pipe_parts.specs.declared.pipe_draft.places.StageSources.{StageSources}
use Rattle.pipe_parts.specs.PipeDraft.PipelinePlan.{program_in, plan_in}
use Rattle.pipe_parts.specs.PipeDraft.Places.{AreStageSources}
use Rattle.place_parts.specs.MarkParts.Marks.{HaveChanges}
use Rattle.pipe_parts.specs.SlotParts.Nets.{AreMapNets}
use Rattle.pipe_parts.specs.TurnParts.Parts.{AreActionPartsIn}
use Rattle.place_parts.specs.Maps.{AreMapsFor}
use Rattle.place_parts.specs.Parts.{ArePlaceParts}
use Rattle.pipe_design.specs.Marks.{AreMarkBlocks}
use Rattle.pipe_design.proofs.Answering.{covers}
use Rattle.pipe_design.proofs.Acting.{maps_for, says_all}
use Rattle.pipe_design.proofs.parts.other_parts.Goals as goal

pub maps_by-requires-clause-at : goal.maps_by-requires-clause-at
maps_by-requires-clause-at c =
    let d = c.args.pipeline_plan.now in
    let x = c.index-places-commit_row.result in
    subst (AreStageSources d (plan_in d).commit) (sym (c.index-places-commit_row.is ∙ ap (λ k. get_or c.args.places.now k x) c.commit_row.ensures)) (c.requires.places.each (plan_in d).commit x c.requires.pipeline_plan.ready.commit)

pub maps_by-requires-clause-action : goal.maps_by-requires-clause-action
maps_by-requires-clause-action c =
    let d = c.args.pipeline_plan.now in
    says_all d c.shape-shape.result c.index-places-commit_row.result c.deref.result.now c.in_ok-actions.actions c.in_ok-actions.ensures (subst (AreMapNets d) (sym c.deref.ensures.value) c.in_ok-maps.ensures)

pub mark_blocks-requires-clause-changes : goal.mark_blocks-requires-clause-changes
mark_blocks-requires-clause-changes c =
    let layout = c.mark_layout-layout.result in
    let maps = c.in_ok-map_parts.ensures in
    subst (HaveChanges layout) (sym c.deref-2.ensures.value)
    (c.changes_are_for_marks.ensures c.args.pipeline_plan.now c.index-places-commit_row.result.sites.items maps.committing c.in_ok-map_parts.map_parts layout c.requires.pipeline_plan c.mark_layout-layout.ensures.decls maps.are)

pub frame_parts-requires : goal.frame_parts-requires
frame_parts-requires c =
    let d = c.args.pipeline_plan.now in
    let numbers = (c.in_ok-answer.ensures.stands c.index-places-commit_row.result).numbers in
    let marked = ap (λ (z : Sizes). z.commit) c.mark_layout-layout.ensures.sizes in
    let sized = ap (λ (z : Sizes). z.commit) c.requires.pipeline_plan.sizes in
    record {
      small = c.requires.pipeline_plan.small;
      narrow = c.shape-shape.ensures.narrow;
      kept = omega (arith, ap length c.deref-3.ensures.value, c.requires.pipeline_plan.kept.few);
      beats = subst (AllByRecursion IsKept) (sym c.deref-3.ensures.value) c.requires.pipeline_plan.kept.words;
      few = omega (arith, c.requires.few);
      operands = c.in_ok-answer.ensures.operands;
      covered = covers (program_in d).frame c.args.words.now _ c.requires.pipeline_plan.ready.changed c.requires.words numbers;
      reload = omega (arith, ap length c.deref-4.ensures.value, c.in_ok-reloads.ensures.nets, marked, sized, c.shape-shape.ensures.commit);
    }

pub place_parts-requires-clause-maps : goal.place_parts-requires-clause-maps
place_parts-requires-clause-maps c = let d = c.args.pipeline_plan.now in subst (AreMapsFor d) (sym c.deref-5.ensures.value) (maps_for d c.in_ok-maps.maps.items c.in_ok-maps.ensures)

pub returns : goal.returns
returns c =
    let d = c.args.pipeline_plan.now in
    let places = c.args.places.now in
    let x = c.index-places-commit_row.result in
    let commit = (plan_in d).commit in
    let there : get_or places commit x ≡ x = sym (c.index-places-commit_row.is ∙ ap (λ k. get_or places k x) c.commit_row.ensures) in
    record {
      shape = c.shape-shape.result;
      is_shape = c.shape-shape.ensures;
      answer = c.in_ok-answer.answer;
      answers = c.in_ok-answer.ensures.stands;
      marked = c.mark_layout-layout.result;
      is_marked = c.mark_layout-layout.ensures;
      reloads = c.in_ok-reloads.reloads;
      are_reloads = c.in_ok-reloads.ensures;
      reload_blocks = refl;
      nets = c.in_ok-maps.maps.items;
      are_nets = c.in_ok-maps.ensures;
      at = x;
      is_at = λ b. get_or_default places commit b x (omega (arith, c.requires.places.count, c.requires.pipeline_plan.ready.commit)) ∙ there;
      action = c.in_ok-actions.actions;
      are_action = subst (λ ns. AreActionPartsIn d c.shape-shape.result x ns c.in_ok-actions.actions) c.deref.ensures.value c.in_ok-actions.ensures;
      targets = refl;
      host = refl;
      action_block = refl;
      commits = refl;
      maps = c.in_ok-map_parts.ensures;
      marks = subst (λ cs. AreMarkBlocks c.mark_layout-layout.result places cs c.in_ok-marks.marks.items) c.deref-2.ensures.value c.in_ok-marks.ensures;
      are_places = subst (λ ns. ArePlaceParts d places ns c.in_ok-places.places) c.deref-5.ensures.value c.in_ok-places.ensures;
      frames = λ l w sizes shape kept words answer reload stays h.
          c.in_ok-frames.ensures.parts l w (record { sizes = sizes; shape = shape; kept = kept ∙ sym c.deref-3.ensures.value; words = words; answer = answer; reload = reload ∙ sym c.deref-4.ensures.value; stays = stays }) h;
    }
