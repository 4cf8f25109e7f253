-- The parts that are made for a pipeline plan are those of a pipeline.
use Rattle.std.specs.Prelude.{◌^◌}
use Rattle.std.proofs.Common.{◌≡◌, ◌∙◌, ℕ, suc, ◌<◌, ◌≤◌, List, length, get_or, refl, sym, ap, subst, arith, slice_index}
use Rattle.std.specs.declared.vec.Vec.{Vec}
use Rattle.std.specs.declared.alloc.Global.{Global}
use Rattle.block_core.proofs.list_laws_laws.PlaceLaws.{some_of}
use Rattle.hazard_core.specs.xdp_maps.declared.decl.MapKind.TheVariants.{Array}
use Rattle.block_core.specs.declared.name.Name.{Name}
use Rattle.block_core.specs.declared.name.Name.TheVariants as name
use Rattle.block_core.specs.declared.block.Block.{Block}
use Rattle.block_core.specs.Blocks.{BlockTree, Whole}
use Rattle.block_core.specs.declared.block.Placed.{Placed}
use Rattle.block_core.specs.View.{block_of, Makes}
use Rattle.hazard_core.specs.cell_core.View.{program_of}
use Rattle.overlay_net.specs.cell_nets.declared.operand.Operand.TheVariants.{Known}
use Rattle.control_net.specs.Returns.{reload_name}
use Rattle.commit_net.specs.read_net.declared.sites.MapNets.{MapNets}
use Rattle.overlay_net.specs.declared.site_operands.SiteNets.{SiteNets}
use Rattle.commit_net.specs.declared.change_net.change.ChangePart.{ChangePart}
use Rattle.turn_net.specs.declared.target_net.targets.TargetPart.{TargetPart}
use Rattle.pipe_net.specs.declared.parts.Part.{Part}
use Rattle.pipe_net.specs.declared.parts.Sizes.{Sizes}
use Rattle.pipe_net.specs.Parts as part
use Rattle.pipe_net.specs.Parts.{part_place, part_count}
use Rattle.pipe_net.specs.Layout.{Layout}
use Rattle.pipe_net.specs.PipeMarks.Parts.{AreMarkParts, AreMarksOf}
use Rattle.pipe_net.specs.PipeTurns.Maps.{decl_at}
use Rattle.pipe_net.specs.PipeMaps.Parts.{commits_net, AreMapParts}
use Rattle.pipe_net.specs.PipeFrames.Parts.{AreFrameParts}
use Rattle.pipe_net.specs.PipeForms.Parts.{AreParts}
use Rattle.pipe_net.specs.PipeClocks.Following.{IsPipeline}
use Rattle.place_parts.specs.MarkParts.Reload.{IsReloadPart}
use Rattle.place_parts.specs.MarkParts.Marks.{IsMarksPart}
use Rattle.place_parts.specs.MarkParts.Laws.{IsFor, PartsAreOfMarks}
use Rattle.pipe_parts.specs.declared.slot_parts.slots.SlotsPart.{SlotsPart}
use Rattle.pipe_parts.specs.SlotParts.Slots.{AreSlotsParts}
use Rattle.pipe_parts.specs.SlotParts.Laws.{AreShownMaps, SlotsAreShown}
use Rattle.pipe_parts.specs.TurnParts.Laws.{HasActionBlocks, IsForAction, AreActionPartsOf, PartsAreOfActions}
use Rattle.pipe_design.specs.declared.map_parts.committing.MapCommits.{MapCommits}
use Rattle.pipe_design.specs.MapParts.Laws.{IsSaidBy, PartsAreOfMaps}
use Rattle.place_parts.specs.Laws.{ArePlacesOf, PartsAreOfPlaces}
use Rattle.pipe_parts.specs.declared.pipe_draft.pipeline_plan.PipelinePlan.{PipelinePlan}
use Rattle.pipe_parts.specs.declared.pipe_draft.places.StageSources.{StageSources}
use Rattle.pipe_parts.specs.PipeDraft.PipelinePlan.{program_in, plan_in, decls_in, IsPipelinePlan}
use Rattle.pipe_parts.specs.PipeDraft.Places.{ArePlaces}
use Rattle.pipe_parts.specs.PipeDraft.Laid.{IsPipelinePlanned, IsAnswered, SitesAreAtPlaces}
use Rattle.pipe_design.specs.declared.parts.Others.{Others}
use Rattle.pipe_design.specs.Layout.{Shown, layout}
use Rattle.pipe_design.specs.Order.{Lists, all_of, whole_of}
use Rattle.pipe_design.specs.Parts.{AreOthers, AreAllParts, lists_of}
use Rattle.pipe_design.proofs.Placing.{AreCounted, all_counted, reload_at, slots_at, word_at, target_at, host_at, action_at, commits_at, mark_at, place_at, frames_at, maps_at}
use Rattle.pipe_design.proofs.PipelinePlanned.{pipeline_planned, sized, answered, many_forms, many_maps, change_in}
use Rattle.pipe_design.proofs.Acting.{maps_for}

-- the laws of the builders
pub record AreLaws : Type 0 where
  pub slots : SlotsAreShown
  pub actions : PartsAreOfActions
  pub maps : PartsAreOfMaps
  pub places : PartsAreOfPlaces
  pub marks : PartsAreOfMarks
  pub sites : SitesAreAtPlaces

module _ (laws : AreLaws) (d : PipelinePlan) (is : IsPipelinePlan d) (places : List StageSources) (stand : ArePlaces d places) (words : List ℕ) (slots : List SlotsPart) (are_slots : AreSlotsParts d slots) (o : Others) (are : AreOthers d places words o) where
  -- ---- what the parts show, and the pipeline by it
  abbrev pub shown : Shown
  shown = record {
    shape = are.shape;
    action_shape = are.action.action_shape;
    first = o.places.first.items;
    answer = are.answer;
    words = words;
    reload = are.reloads.nets.items;
    records = are.action.records.items;
    stays = are.action.action.stays;
    changes = o.maps.changes.items;
  }

  abbrev pub l : Layout
  l = layout d places shown

  abbrev pub w : Whole Part
  w = whole_of d.sizes (lists_of slots o)

  many : d.sizes.maps ≡ length d.forms.items
  many = many_maps d is places stand shown ∙ many_forms d is places stand shown

  by_commit : d.sizes.commit ≡ (plan_in d).commit
  by_commit = (sized d is places stand shown are.is_shape).commit

  by_last : d.sizes.last ≡ (plan_in d).last
  by_last = (sized d is places stand shown are.is_shape).last

  marked : are.marked.sizes ≡ d.sizes
  marked = are.is_marked.sizes

  many_changes : length o.maps.changes.items ≡ length (decls_in d)
  many_changes = are.maps.are.changes

  loads : d.sizes.loads ≡ length d.loads.items
  loads = ap (λ (z : Sizes). z.loads) is.sizes ∙ ap length (sym is.loads)

  pub counts : AreCounted d.sizes slots o
  counts = record {
    reloads = ap (λ (v : Vec (Block (Name Part)) Global). length v.items) are.reload_blocks ∙ are.are_reloads.count ∙ ap (λ (z : Sizes). suc z.commit) marked;
    shown = are_slots.count ∙ sym many;
    words = are.are_places.words.count ∙ sym loads;
    targets = ap (λ (v : Vec (TargetPart Part) Global). length v.items) are.targets ∙ are.are_action.targets.count ∙ sym many;
    maps = are.maps.are.count ∙ sym (many_maps d is places stand shown);
    changes = many_changes ∙ sym are.maps.are.count;
    marks = are.marks.count ∙ ap (λ (z : Sizes). suc z.commit) marked;
    places = are.are_places.stages.count ∙ ap suc (sym by_last);
  }

  laid : IsPipelinePlanned d places l
  laid = pipeline_planned d is places stand shown

  answers : IsAnswered l
  answers = answered d is places stand shown are.answers

  -- ---- the maps
  shown_maps : AreShownMaps l w are.nets
  shown_maps = laws.slots d places l w slots are.nets laid are_slots are.are_nets (λ m r lt. slots_at d.sizes slots o counts m r (omega (arith, lt, many_maps d is places stand shown)))

  -- ---- the parts of actions
  for_action : IsForAction l are.shape are.action
  for_action = record { shape = refl; action_shape = refl; records = refl; stays = refl }

  action_blocks : HasActionBlocks l w are.action
  action_blocks = record {
    targets = λ m t lt.
        target_at d.sizes slots o counts m t (omega (arith, lt, many_maps d is places stand shown)) ∙ ap (λ (v : Vec (TargetPart Part) Global). block_of (get_or v.items m t).block) are.targets;
    host = host_at d.sizes slots o counts ∙ ap block_of are.host;
    action = action_at d.sizes slots o counts ∙ ap block_of are.action_block;
    commits = commits_at d.sizes slots o counts ∙ ap block_of are.commits;
  }

  actions : AreActionPartsOf l w are.nets are.action
  actions = laws.actions d places l w are.shape are.at are.nets are.action is stand laid answers (sym (are.is_at are.at)) shown_maps are.are_action for_action action_blocks

  -- ---- the parts of maps
  some_target : (m : ℕ) → m < length (decls_in d) → TargetPart Part
  some_target m lt = some_of are.action.targets.items m (omega (arith, lt, are.are_action.targets.count, many_forms d is places stand shown))

  within : (m : ℕ) → m < length (decls_in d) → m < length d.forms.items
  within m lt = omega (arith, lt, many_forms d is places stand shown)

  said : IsSaidBy l w actions.parts are.maps.committing
  said = record {
    chosen = actions.chosen ∙ sym are.maps.chosen;
    commits = λ m on lt. ap (λ ns. get_or ns m (name.Port 0)) actions.commits ∙ sym ((are.maps.said.each m on (within m lt)).commits (name.Port 0));
    targets = λ m on lt. let t = some_target m lt in actions.targets m t lt ∙ sym ((are.maps.said.each m on (within m lt)).targets t);
  }

  map_parts : AreMapParts l w actions.parts
  map_parts = laws.maps d places are.at are.maps.committing o.maps l w actions.parts is stand are.is_at laid answers are.maps.are said
      (λ m y lt. change_in d is places stand shown m y (omega (arith, lt, many_changes))) (maps_at d.sizes slots o counts)

  -- ---- the places
  place_parts : ArePlacesOf l w
  place_parts = laws.places d places are.nets o.places l w is stand (maps_for d are.nets are.are_nets) are.are_places
      (record { pipeline_planned = laid; answered = answers; first = refl; maps = λ m n lt. (shown_maps.each m n lt).places })
      (record {
        words = λ i x lt. word_at d.sizes slots o counts i x lt;
        places = λ k b le. place_at d.sizes slots o counts k b (omega (arith, le, by_last));
      })

  -- ---- the marks
  for_marks : IsFor l are.marked
  for_marks = record {
    program = ap program_of (sym are.is_marked.program);
    rows = ap slice_index (sym are.is_marked.rows);
    decls = sym are.is_marked.decls;
    sizes = sym marked;
    commit = sym by_commit ∙ ap (λ (z : Sizes). z.commit) (sym marked);
  }

  some_place : StageSources
  some_place = some_of places 0 (omega (arith, stand.count))

  marks_at : (k : ℕ) → k ≤ (plan_in d).commit → AreMarksOf l k w
  marks_at k le =
      let b = some_place in
      let sites = (get_or places k b).sites.items in
      let up : k ≤ d.sizes.commit = omega (arith, le, by_commit) in
      let up_marked : k ≤ are.marked.sizes.commit = subst (λ (z : Sizes). k ≤ z.commit) (sym marked) up in
      let up_last : k ≤ (plan_in d).last = omega (arith, le, is.ready.commit) in
      let dx = some_of are.reloads.blocks.items k (omega (arith, are.are_reloads.count, up_marked)) in
      let mx = some_of o.marks.items k (omega (arith, are.marks.count, up_marked)) in
      let reload_block : w.block (part.reload k) ≡ block_of (get_or are.reloads.blocks.items k dx) = reload_at d.sizes slots o counts k dx up ∙ ap (λ (v : Vec (Block (Name Part)) Global). block_of (get_or v.items k dx)) are.reload_blocks in
      laws.marks l are.marked w k sites o.maps.changes.items for_marks le (λ j s lt. laws.sites d places l is stand laid answers k j b s le lt)
      (λ m c lt. change_in d is places stand shown m c (omega (arith, lt, many_changes))) (stand.each k b up_last).sites.count many_changes
      (subst (IsReloadPart are.marked sites k (reload_name l.reload k)) (sym reload_block) (are.are_reloads.each k b (name.Port 0) dx up_marked))
      (subst (IsMarksPart are.marked sites o.maps.changes.items k) (sym (mark_at d.sizes slots o counts k mx up)) (are.marks.each k b mx up_marked))

  -- ---- all parts
  frame_parts : AreFrameParts l w
  frame_parts = are.frames l w refl refl refl refl refl refl refl (frames_at d.sizes slots o counts)

  uncounted : (m : ℕ) → m < length (decls_in d) → (decl_at l m).kind ≡ Array → (actions.parts.maps m).used ≡ Known 0
  uncounted m lt array =
      let n = some_of are.nets m (omega (arith, lt, are.are_nets.count, many_forms d is places stand shown)) in
      ap (λ (x : MapNets (Name Part)). x.used) (actions.maps m n lt) ∙ (shown_maps.each m n lt).uncounted array

  pub are_parts : AreParts l w
  are_parts = record {
    place = refl;
    parts = refl;
    sized = sized d is places stand shown are.is_shape;
    frames = frame_parts;
    marks = marks_at;
    stages = place_parts.stages;
    actions = actions.parts;
    maps = map_parts;
    readings = place_parts.readings;
    uncounted = uncounted;
    apart = place_parts.apart;
  }

  pub pipeline : IsPipeline l w
  pipeline = record { parts = are_parts; changed = (are.answers some_place).numbers }

  -- ---- the parts in memory
  pub few_blocks : length (all_of (lists_of slots o)) < 2 ^ 32
  few_blocks = omega (arith, all_counted d.sizes slots o counts, is.small.commit, is.small.last, is.small.maps, is.small.loads)

  pub all_parts : (lists : Lists) → lists ≡ lists_of slots o → (ms : List (Placed Part)) → ((z : Sizes) → length (all_of lists) ≡ part_count z → Makes part_place ms (whole_of z lists)) → AreAllParts d places words ms
  all_parts lists same ms makes =
      let count : length (all_of lists) ≡ part_count d.sizes = ap (λ (xs : Lists). length (all_of xs)) same ∙ all_counted d.sizes slots o counts in
      record {
        shown = shown;
        words_are = refl;
        whole = w;
        makes = subst (λ (xs : Lists). Makes part_place ms (whole_of d.sizes xs)) same (makes d.sizes count);
        pipeline = pipeline;
      }
