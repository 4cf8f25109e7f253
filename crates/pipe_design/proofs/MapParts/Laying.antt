-- The parts of maps of a pipeline that is laid out by a pipeline plan.
use Rattle.std.specs.Prelude.{◌≤◌, slice_index}
use Rattle.std.proofs.Common.{◌≡◌, ◌∙◌, ℕ, ◌<◌, List, length, get_or, sym, ap, refl, subst, arith}
use Rattle.std.proofs.lemmas.List.{length-map, get_or-map}
use Rattle.block_core.proofs.list_laws_laws.PlaceLaws.{some_of}
use Rattle.hazard_core.specs.xdp_maps.declared.decl.MapDecl.{MapDecl}
use Rattle.block_core.specs.declared.name.Name.{Name}
use Rattle.block_core.specs.Blocks.{BlockTree, Whole}
use Rattle.block_core.specs.View.{block_of}
use Rattle.hazard_core.specs.cell_core.Sites.{ProgramView, site_at}
use Rattle.overlay_net.specs.cell_nets.declared.operand.Operand.{Operand}
use Rattle.hazard_core.specs.Tables.{decl_of}
use Rattle.overlay_net.specs.declared.site_operands.SiteNets.{SiteNets}
use Rattle.overlay_net.specs.SiteOperands.Sites.{operands_of}
use Rattle.commit_net.specs.declared.choosing.CommitNets.{CommitNets}
use Rattle.commit_net.specs.read_net.declared.touch_net.change.ChangeNets.{ChangeNets}
use Rattle.commit_net.specs.read_net.TouchNet.Touching.{IsChangeNets}
use Rattle.commit_net.specs.declared.change_net.change.ChangePart.{ChangePart}
use Rattle.commit_net.specs.ChangeNet.Written.{IsWritten}
use Rattle.commit_net.specs.ChangeNet.Changes.{IsChange, StandsFor}
use Rattle.turn_net.specs.HostNet.Values.{word_name, IsValue}
use Rattle.turn_net.specs.declared.host_net.names.Wire.TheVariants.{Ready}
use Rattle.turn_net.specs.HostNet.Names.{wire_name}
use Rattle.commit_net.specs.declared.map_block.form.MapForm.{MapForm}
use Rattle.commit_net.specs.MapBlock.Forms.{FormFits}
use Rattle.commit_net.specs.MapBlock.Parts.{trees_of}
use Rattle.commit_net.specs.MapBlock.Stored.{host_word}
use Rattle.pipe_net.specs.pipe_core.Machine.{Build}
use Rattle.pipe_parts.specs.declared.pipe_draft.pipeline_plan.PipelinePlan.{PipelinePlan}
use Rattle.pipe_parts.specs.declared.pipe_draft.places.StageSources.{StageSources}
use Rattle.pipe_parts.specs.PipeDraft.PipelinePlan.{program_in, plan_in, decls_in, IsPipelinePlan}
use Rattle.pipe_parts.specs.PipeDraft.Laid.{IsPipelinePlanned}
use Rattle.pipe_net.specs.PipeMaps.Parts.{commits_net, IsOperation, ArePartsOfMap, IsValuePart, AreMapParts}
use Rattle.pipe_net.specs.declared.parts.Part.{Part}
use Rattle.pipe_net.specs.declared.parts.Sizes.{Sizes}
use Rattle.pipe_net.specs.Layout.{Layout, ChangeView, program_of, commit_of}
use Rattle.pipe_net.specs.Parts as part
use Rattle.pipe_net.specs.Standing.{IsAtPlace}
use Rattle.pipe_net.specs.PipeTurns.Maps.{decl_at, records_on}
use Rattle.pipe_net.specs.PipeTurns.Parts.{writes_net, ready_net, form_at, AreActionParts}
use Rattle.turn_net.specs.declared.target_net.targets.Target.{Target}
use Rattle.turn_net.specs.Nets.{number_of}
use Rattle.turn_net.specs.Actions.{record_sites}
use Rattle.place_parts.specs.declared.mark_parts.layout.MarkLayout.{MarkLayout}
use Rattle.place_parts.specs.MarkParts.Places.{IsAt}
use Rattle.place_parts.specs.MarkParts.Marks.{HaveChanges}
use Rattle.place_parts.specs.MarkParts.Laws.{IsChangeIn}
use Rattle.pipe_design.specs.declared.map_parts.committing.MapCommits.{MapCommits}
use Rattle.pipe_design.specs.declared.map_parts.committing.Committing.{Committing}
use Rattle.pipe_design.specs.declared.map_parts.parts.PartsOfMap.{PartsOfMap}
use Rattle.pipe_design.specs.declared.map_parts.parts.MapParts.{MapParts}
use Rattle.pipe_design.specs.MapParts.Operations as pipeline_planned
use Rattle.pipe_design.specs.MapParts.Parts as pipeline_plan_parts
use Rattle.pipe_design.specs.MapParts.Parts.{ArePartsOver, IsChangeOver}
use Rattle.pipe_design.specs.MapParts.Whole.{AreMapPartsFor, HasBlocksOf, HasBlocks}
use Rattle.pipe_design.specs.MapParts.Laws.{IsSaidBy}
use Rattle.pipe_design.proofs.MapParts.Gathering.{none_said}
use Rattle.pipe_design.proofs.MapParts.Forming.{form_is, many, maps_are, form_fits, number_is, decl_is}
use Rattle.pipe_design.proofs.MapParts.Operating.{on_below}

-- a change part, where its operands and its block are called otherwise
change_as :
    (q : Part) (m bits : ℕ) (decl : MapDecl) (operations : List (CommitNets (Name Part))) (commits writes slot : Name Part) (keys : List (Name Part)) (y : ChangePart (Name Part)) (v : ChangeView) (b : BlockTree (Name Part)) → v.slot ≡ y.slot → v.key ≡ y.key.items
    → v.presence ≡ y.presence → v.any ≡ y.any → v.by_host ≡ y.by_host → b ≡ block_of y.block → IsChange q m decl bits operations commits writes slot keys y.slot y.key.items y.presence y.any y.by_host (block_of y.block)
    → IsChange q m decl bits operations commits writes slot keys v.slot v.key v.presence v.any v.by_host b
change_as q m bits decl operations commits writes slot keys y v b slot_is key_is presence_is any_is by_host_is block_is is =
    subst (λ x. IsChange q m decl bits operations commits writes slot keys v.slot v.key v.presence v.any v.by_host x) (sym block_is)
    (subst (λ x. IsChange q m decl bits operations commits writes slot keys v.slot v.key v.presence v.any x (block_of y.block)) (sym by_host_is)
    (subst (λ x. IsChange q m decl bits operations commits writes slot keys v.slot v.key v.presence x y.by_host (block_of y.block)) (sym any_is)
    (subst (λ x. IsChange q m decl bits operations commits writes slot keys v.slot v.key x y.any y.by_host (block_of y.block)) (sym presence_is)
    (subst (λ x. IsChange q m decl bits operations commits writes slot keys v.slot x y.presence y.any y.by_host (block_of y.block)) (sym key_is)
    (subst (λ x. IsChange q m decl bits operations commits writes slot keys x y.key.items y.presence y.any y.by_host (block_of y.block)) (sym slot_is) is)))))

module _ (d : PipelinePlan) (is : IsPipelinePlan d) (places : List StageSources) (at : StageSources) (here : IsAt places (plan_in d).commit at) (l : Layout) (from : IsPipelinePlanned d places l)
    (at_places : (k j : ℕ) (b : StageSources) (s : SiteNets (Name Part)) → k ≤ commit_of l → j < length (program_of l).sites → IsAtPlace l k j (operands_of (get_or (get_or places k b).sites.items j s)))
    (w : Whole Part) (action : AreActionParts l w) (c : Committing) (r : MapParts) (are : AreMapPartsFor d at.sites.items c r) (said : IsSaidBy l w action c)
    (changed : (m : ℕ) (y : ChangePart (Name Part)) → m < length l.decls → IsChangeIn l m (get_or r.changes.items m y)) (blocks : HasBlocks w d.sizes r) where
  program : program_of l ≡ program_in d
  program = ap (λ (b : Build). b.program) from.build

  commit : commit_of l ≡ (plan_in d).commit
  commit = ap (λ (b : Build). b.plan.commit) from.build

  sites_behind : (j : ℕ) (s : SiteNets (Name Part)) → j < length (program_of l).sites → IsAtPlace l (commit_of l) j (operands_of (get_or at.sites.items j s))
  sites_behind j s lt =
      subst (λ (b : StageSources). IsAtPlace l (commit_of l) j (operands_of (get_or b.sites.items j s))) (ap (λ k. get_or places k at) commit ∙ here at)
      (at_places (commit_of l) j at s (omega arith) lt)

  module _ (m : ℕ) (there : m < length l.decls) where
    known : m < length (decls_in d)
    known = subst (λ (ds : List MapDecl). m < length ds) from.decls there

    formed : m < length d.forms.items
    formed = omega (arith, known, many d is)

    some_form : MapForm
    some_form = some_of d.forms.items m formed

    some_parts : PartsOfMap
    some_parts = some_of r.maps.items m (omega (arith, known, are.count))

    some_change : ChangePart (Name Part)
    some_change = some_of r.changes.items m (omega (arith, known, are.changes))

    abbrev on : MapCommits
    on = get_or c.maps.now m none_said

    abbrev x : PartsOfMap
    x = get_or r.maps.items m some_parts

    abbrev y : ChangePart (Name Part)
    y = get_or r.changes.items m some_change

    made : pipeline_plan_parts.ArePartsOfMap d at.sites.items c.chosen.now on m x y
    made = are.each m none_said some_parts some_change known

    abbrev operations : List (CommitNets (Name Part))
    operations = made.operations

    -- ---- the form of the map, what control says of it, and the blocks
    form_same : form_at l m ≡ get_or d.forms.items m some_form
    form_same = form_is (form_at l m) (get_or d.forms.items m some_form) (sym (number_is d is m formed some_form)) (from.slot_bits m some_form there) (ap (λ (ds : List MapDecl). decl_of ds m) from.decls ∙ decl_is d is m formed some_form)

    commits_same : commits_net l w action m ≡ on.commits
    commits_same = said.commits m none_said there

    -- what holds over the sizes of the pipeline plan, its form of the map and its net holds over those of the layout
    over_layout : (P : Sizes → MapForm → Name Part → Type 0) → P d.sizes (get_or d.forms.items m some_form) on.commits → P l.sizes (form_at l m) (commits_net l w action m)
    over_layout P h =
        subst (λ n. P l.sizes (form_at l m) n) (sym commits_same) (subst (λ (f : MapForm). P l.sizes f on.commits) (sym form_same) (subst (λ (z : Sizes). P z (get_or d.forms.items m some_form) on.commits) (sym from.sizes) h))

    over : ArePartsOver l.sizes (form_at l m) (commits_net l w action m) operations x
    over = over_layout (λ z f n. ArePartsOver z f n operations x) (made.parts some_form)

    change_over : IsChangeOver l.sizes (form_at l m) (commits_net l w action m) operations x y
    change_over = over_layout (λ z f n. IsChangeOver z f n operations x y) (made.change some_form)

    stored : HasBlocksOf w l.sizes m x y
    stored = subst (λ (z : Sizes). HasBlocksOf w z m x y) (sym from.sizes) (blocks.maps m some_parts some_change (omega (arith, known, maps_are d is)))

    change_in : IsChangeIn l m y
    change_in = changed m some_change there

    -- ---- an operation
    module _ (n : ℕ) (o : CommitNets (Name Part)) (within : n < length operations) where
      abbrev q : CommitNets (Name Part)
      q = get_or operations n o

      pipeline_planned_is : pipeline_planned.IsOperation (program_in d) at.sites.items c.chosen.now on.targets.now m n q
      pipeline_planned_is = made.are.each n o within

      abbrev j : ℕ
      j = slice_index (records_on (program_of l) m) n

      same_site : j ≡ slice_index (records_on (program_in d) m) n
      same_site = ap (λ (p : ProgramView). slice_index (records_on p m) n) program

      below : j < length (program_of l).sites
      below = on_below (program_of l) m n (omega (arith, within, made.are.count, ap (λ (p : ProgramView). length (records_on p m)) program))

      long : length (record_sites (program_in d)) ≡ length l.records
      long = ap (λ (p : ProgramView). length (record_sites p)) (sym program) ∙ ap length (sym action.sites) ∙ length-map l.records number_of

      records_there : pipeline_planned_is.place < length l.records
      records_there = omega (arith, pipeline_planned_is.there, long)

      operation : IsOperation l w action m n q
      operation = record {
        act = pipeline_planned_is.act ∙ ap (λ (p : ProgramView). (site_at p.sites (slice_index (records_on p m) n)).act) (sym program);
        nets = subst (λ (v : SiteNets (Name Part)). IsAtPlace l (commit_of l) j (operands_of v)) (ap (λ i. get_or at.sites.items i q.nets.now) same_site ∙ sym (pipeline_planned_is.nets q.nets.now))
            (sites_behind j q.nets.now below);
        target = λ t. pipeline_planned_is.target t ∙ ap (λ (ts : List (Target (Name Part))). (get_or ts n t).slot) (sym (said.targets m none_said there));
        makes = λ t. pipeline_planned_is.makes t ∙ ap (λ (ts : List (Target (Name Part))). (get_or ts n t).makes) (sym (said.targets m none_said there));
        place = pipeline_planned_is.place;
        there = records_there;
        site = λ a. sym (get_or-map number_of l.records pipeline_planned_is.place a 0 records_there) ∙ ap (λ js. slice_index js pipeline_planned_is.place) action.sites ∙ ap (λ (p : ProgramView). slice_index (record_sites p) pipeline_planned_is.place) program
            ∙ pipeline_planned_is.site ∙ sym same_site;
        chosen = λ a. pipeline_planned_is.chosen_is a ∙ ap (λ (os : List (Operand (Name Part))). get_or os pipeline_planned_is.place a) (sym said.chosen);
      }

    -- ---- the map
    abbrev change_nets : ChangeNets (Name Part)
    change_nets = record { slot = (l.changes m).slot; key = record { ref_ptr = (0, 0); now = (l.changes m).key }; presence = (l.changes m).presence }

    map_is : ArePartsOfMap l w action m
    map_is = record {
      form_fits = subst FormFits (sym form_same) (form_fits d is m formed some_form);
      operations = operations;
      count = made.are.count ∙ ap (λ (p : ProgramView). length (records_on p m)) (sym program);
      each = operation;
      trees = trees_of x.table;
      blocks = (stored.finder, stored.fetcher, stored.asker, stored.own);
      map = over.map;
      slot = x.written.slot;
      keys = x.written.words.items;
      written = subst (λ b. IsWritten (part.written l.sizes m) (part.own l.sizes m) (decl_at l m) (l.slot_bits m) (commits_net l w action m) x.table.slot x.written.slot x.written.words.items b) (sym stored.written) over.written;
      change = change_as (part.change l.sizes m) m (l.slot_bits m) (decl_at l m) operations (commits_net l w action m) (writes_net l) x.written.slot x.written.words.items y (l.changes m) (w.block (part.change l.sizes m)) change_in.slot change_in.key
          change_in.presence change_in.any change_in.by_host stored.change change_over;
      change_nets = change_nets;
      stands = record { slot_is = refl; key_is = refl; presence_is = refl };
    }

  -- ---- what the host reads
  word_is : (m : ℕ) → m < length l.decls → word_name are.value.words m ≡ host_word (form_at l m) (part.own l.sizes m)
  word_is m there =
      are.value.are.each m (some_form m there) (known m there) ∙ ap (λ (f : MapForm). host_word f (part.own d.sizes m)) (sym (form_same m there)) ∙ ap (λ (z : Sizes). host_word (form_at l m) (part.own z m)) (sym from.sizes)

  value_is : IsValuePart l w
  value_is = record {
    words = are.value.words;
    count = are.value.are.count ∙ ap length (sym from.decls);
    each = word_is;
    block = subst (λ b. IsValue (part.value l.sizes) (ready_net l) are.value.words b) (sym (ap (λ (z : Sizes). w.block (part.value z)) from.sizes ∙ blocks.value))
        (subst (λ (z : Sizes). IsValue (part.value z) (wire_name (part.host z) Ready) are.value.words (block_of r.value)) (sym from.sizes) are.value.is);
  }

  pub of_maps : AreMapParts l w action
  of_maps = record { maps = map_is; value = value_is }

-- ---- what marks are made with
module _ (d : PipelinePlan) (is : IsPipelinePlan d) (sites : List (SiteNets (Name Part))) (c : Committing) (r : MapParts) (f : MarkLayout) (same : f.decls.now ≡ decls_in d) (are : AreMapPartsFor d sites c r) where
  nets_are : (m : ℕ) (y : ChangePart (Name Part)) (n : ChangeNets (Name Part)) → m < length r.changes.items → StandsFor (get_or r.changes.items m y).slot (get_or r.changes.items m y).key.items (get_or r.changes.items m y).presence n
      → IsChangeNets (decl_of f.decls.now m).key n
  nets_are m y n lt stands =
      let known : m < length (decls_in d) = omega (arith, lt, are.changes) in
      let formed : m < length d.forms.items = omega (arith, known, many d is) in
      let form = some_of d.forms.items m formed in
      let made = are.each m none_said (some_of r.maps.items m (omega (arith, known, are.count))) y known in
      subst (λ (a : MapDecl). IsChangeNets a.key n) (sym (ap (λ (ds : List MapDecl). decl_of ds m) same ∙ decl_is d is m formed form)) ((made.change form).nets n stands)

  pub have_changes : HaveChanges f r.changes.items
  have_changes = record { count = are.changes ∙ ap length (sym same); nets = nets_are }
