-- In a pipeline by a pipeline plan the parts that are made for it are its parts of actions.
use Rattle.std.specs.List.{filter}
use Rattle.std.proofs.Common.{◌≡◌, ◌∙◌, ℕ, ◌<◌, All, List, [], length, get_or, refl, sym, ap, subst, arith}
use Rattle.std.proofs.lemmas.List.{length-map, get_or-map, get_or_default}
use Rattle.block_core.proofs.list_laws_laws.PlaceLaws.{some_of}
use Rattle.hazard_core.specs.xdp_maps.declared.decl.MapDecl.{MapDecl}
use Rattle.hazard_core.specs.xdp_maps.State.{no_decl}
use Rattle.net_core.specs.Nets.{Tree}
use Rattle.block_core.specs.declared.name.Name.{Name}
use Rattle.block_core.specs.declared.name.Name.TheVariants as name
use Rattle.block_core.specs.Blocks.{BlockTree, Whole}
use Rattle.block_core.specs.View.{block_of}
use Rattle.hazard_core.specs.cell_core.Sites.{ProgramView, site_at}
use Rattle.overlay_net.specs.cell_nets.declared.operand.Operand.TheVariants.{Known}
use Rattle.commit_net.specs.declared.target.TakenSlot.{TakenSlot}
use Rattle.hazard_core.specs.Tables.{decl_of}
use Rattle.control_net.specs.declared.ring_net.shape.ControlShape.{ControlShape}
use Rattle.control_net.specs.declared.ring_net.names.Register.TheVariants.{Holds}
use Rattle.control_net.specs.RingNet.Names.{register_name}
use Rattle.control_net.specs.Names.{back_name}
use Rattle.overlay_net.specs.declared.site_operands.SiteNets.{SiteNets}
use Rattle.overlay_net.specs.SiteOperands.Sites.{operands_of}
use Rattle.read_net.specs.declared.sites.OwnSite.{OwnSite}
use Rattle.read_net.specs.declared.sites.MapNets.{MapNets}
use Rattle.read_net.specs.Sites.{IsOwn}
use Rattle.commit_net.specs.declared.map_block.form.MapForm.{MapForm}
use Rattle.commit_net.specs.MapBlock.Stored.{host_may}
use Rattle.turn_net.specs.declared.host_net.names.HostNets.{HostNets}
use Rattle.turn_net.specs.HostNet.Host.{may_tree, IsHost}
use Rattle.turn_net.specs.declared.target_net.targets.Target.{Target}
use Rattle.turn_net.specs.declared.target_net.targets.TargetPart.{TargetPart}
use Rattle.turn_net.specs.TargetNet.Targets.{IsTargets}
use Rattle.turn_net.specs.TargetNet.Commits.{AreMaps, IsCommits}
use Rattle.turn_net.specs.declared.nets.RecordNets.{RecordNets}
use Rattle.turn_net.specs.declared.nets.ActionNets.{ActionNets}
use Rattle.turn_net.specs.declared.nets.ActionShape.{ActionShape}
use Rattle.turn_net.specs.Actions.{record_sites}
use Rattle.turn_net.specs.Nets.{sites_of, kept, AreRecords}
use Rattle.turn_net.specs.Action.{IsAction}
use Rattle.read_net.specs.pipe_core.Machine.{Build}
use Rattle.pipe_net.specs.declared.parts.Part.{Part}
use Rattle.pipe_net.specs.declared.parts.Sizes.{Sizes}
use Rattle.pipe_net.specs.Parts as part
use Rattle.pipe_net.specs.Layout.{Layout, program_of, commit_of}
use Rattle.pipe_net.specs.Standing.{IsAtPlace}
use Rattle.pipe_net.specs.PipeTurns.Maps.{decl_at, records_on, taken_from, taken_slots}
use Rattle.pipe_net.specs.PipeTurns.Parts.{idle_net, host_nets, action_nets, form_at, AreTargetsOf, IsTargetOf, AreActionParts}
use Rattle.pipe_parts.specs.declared.pipe_draft.pipeline_plan.PipelinePlan.{PipelinePlan}
use Rattle.pipe_parts.specs.declared.pipe_draft.places.StageSources.{StageSources}
use Rattle.pipe_parts.specs.PipeDraft.PipelinePlan.{program_in, plan_in, decls_in, IsPipelinePlan}
use Rattle.pipe_parts.specs.PipeDraft.Places.{ArePlaces}
use Rattle.pipe_parts.specs.PipeDraft.Laid.{IsPipelinePlanned, IsAnswered, SitesAreAtPlaces}
use Rattle.pipe_parts.specs.SlotParts.Laws.{AreShownMaps}
use Rattle.pipe_parts.specs.declared.turn_parts.parts.ActionParts.{ActionParts}
use Rattle.pipe_parts.specs.TurnParts.Sites.{IsNetsAt, keeps_at, taken_at, taken_in}
use Rattle.pipe_parts.specs.TurnParts.Nets.{idle_of, writes_of, host_nets_of, action_nets_of}
use Rattle.pipe_parts.specs.TurnParts.Records.{AreRecordsOf, targets_at, IsTargetAt}
use Rattle.pipe_parts.specs.TurnParts.Parts.{AreActionPartsIn}
use Rattle.pipe_parts.specs.TurnParts.Laws.{IsForAction, HasActionBlocks, AreActionPartsOf}
use Rattle.pipe_parts.proofs.TurnParts.Siting.{no_form}
use Rattle.pipe_parts.proofs.TurnParts.Taking.{taken_same}
use Rattle.pipe_parts.proofs.TurnParts.Aiming.{targets_are}
use Rattle.pipe_parts.proofs.TurnParts.Acting.{keep_alike}

no_map : MapNets (Name Part)
no_map = record { decl = record { ref_ptr = (0, 0); now = no_decl }; slots = record { ref_ptr = (0, 0); now = [] }; used = Known 0; bits = 0 }

-- ---- the same said with other words for the same
module _ (p q : ProgramView) (same : p ≡ q) where
  map_same : (j : ℕ) → (site_at p.sites j).map ≡ (site_at q.sites j).map
  map_same j = ap (λ (x : ProgramView). (site_at x.sites j).map) same

  targets_as :
      (m : ℕ) (x y : Part) (n : MapNets (Name Part)) (a b : ℕ) (own : List (OwnSite (Name Part))) (ts us : List (TakenSlot (Name Part))) (outs vs : List (Target (Name Part))) (t u : BlockTree (Name Part)) → x ≡ y → a ≡ b → ts ≡ us → outs ≡ vs → t ≡ u
      → IsTargets q m y n b own us vs u → IsTargets p m x n a own ts outs t
  targets_as m x y n a b own ts us outs vs t u parts bits taken shown block h =
      subst (λ r. IsTargets r m x n a own ts outs t) (sym same)
      (subst (λ z. IsTargets q m z n a own ts outs t) (sym parts)
      (subst (λ c. IsTargets q m y n c own ts outs t) (sym bits)
      (subst (λ ss. IsTargets q m y n b own ss outs t) (sym taken) (subst (λ os. IsTargets q m y n b own us os t) (sym shown) (subst (λ w. IsTargets q m y n b own us vs w) (sym block) h)))))

  action_as :
      (ds es : List MapDecl) (x y : Part) (s s' : ActionShape) (n n' : ActionNets Part) (rs rs' : List (RecordNets (Name Part))) (t u : BlockTree (Name Part)) (chosen : List _) (one stays stays' : Name Part) → ds ≡ es → x ≡ y → s ≡ s' → n ≡ n' → rs ≡ rs' → t ≡ u → stays ≡ stays'
      → IsAction q es y s' n' rs' u chosen one stays' → IsAction p ds x s n rs t chosen one stays
  action_as ds es x y s s' n n' rs rs' t u chosen one stays stays' decls parts shape nets records block stay h =
      subst (λ r. IsAction r ds x s n rs t chosen one stays) (sym same)
      (subst (λ d. IsAction q d x s n rs t chosen one stays) (sym decls)
      (subst (λ z. IsAction q es z s n rs t chosen one stays) (sym parts)
      (subst (λ c. IsAction q es y c n rs t chosen one stays) (sym shape)
      (subst (λ c. IsAction q es y s' c rs t chosen one stays) (sym nets)
      (subst (λ c. IsAction q es y s' n' c t chosen one stays) (sym records)
      (subst (λ c. IsAction q es y s' n' rs' c chosen one stays) (sym block) (subst (λ c. IsAction q es y s' n' rs' u chosen one c) (sym stay) h)))))))

host_as : (x y : Part) (n n' : HostNets Part) (may : List (Tree (Name Part))) (t u : BlockTree (Name Part)) → x ≡ y → n ≡ n' → t ≡ u → IsHost y n' may u → IsHost x n may t
host_as x y n n' may t u parts nets block h = subst (λ z. IsHost z n may t) (sym parts) (subst (λ c. IsHost y c may t) (sym nets) (subst (λ c. IsHost y n' may c) (sym block) h))

commits_as : (x y : Part) (a b : ℕ) (numbers : List ℕ) (chosen : List _) (nets : List (Name Part)) (t u : BlockTree (Name Part)) → x ≡ y → a ≡ b → t ≡ u → IsCommits y b numbers chosen nets u → IsCommits x a numbers chosen nets t
commits_as x y a b numbers chosen nets t u parts many block h = subst (λ z. IsCommits z a numbers chosen nets t) (sym parts) (subst (λ c. IsCommits y c numbers chosen nets t) (sym many) (subst (λ c. IsCommits y b numbers chosen nets c) (sym block) h))

module _ (law : SitesAreAtPlaces) (d : PipelinePlan) (places : List StageSources) (l : Layout) (w : Whole Part) (c : ControlShape) (b : StageSources) (maps : List (MapNets (Name Part))) (r : ActionParts) (is : IsPipelinePlan d) (stand : ArePlaces d places) (from : IsPipelinePlanned d places l)
    (answered : IsAnswered l) (at : b ≡ get_or places (plan_in d).commit b) (shown : AreShownMaps l w maps) (made : AreActionPartsIn d c b maps r) (for : IsForAction l c r) (blocks : HasActionBlocks l w r) where
  program : program_of l ≡ program_in d
  program = ap (λ (x : Build). x.program) from.build

  commit : commit_of l ≡ (plan_in d).commit
  commit = ap (λ (x : Build). x.plan.commit) from.build

  commit_size : commit_of l ≡ d.sizes.commit
  commit_size = commit ∙ sym (ap (λ (z : Sizes). z.commit) is.sizes)

  many : length l.decls ≡ length d.forms.items
  many = ap length from.decls ∙ length-map d.forms.items (λ (f : MapForm). f.decl)

  -- ---- nets of other parts

  host_same : host_nets l ≡ host_nets_of d.sizes
  host_same =
      ap (λ k. record { partial = name.Register (part.gather l.sizes) 0; present = register_name (part.control l.sizes) (Holds k); done = name.Register (part.action l.sizes) 0; control = part.control l.sizes })
      (commit_size ∙ ap (λ (z : Sizes). z.commit) (sym from.sizes))
      ∙ ap host_nets_of from.sizes

  action_same : action_nets l ≡ action_nets_of d.sizes c
  action_same =
      ap (λ k. record { present = register_name (part.control l.sizes) (Holds k); back = back_name l.shape (part.returns l.sizes) k; host = writes_of l.sizes }) (commit_size ∙ ap (λ (z : Sizes). z.commit) (sym from.sizes))
      ∙ ap (λ z. action_nets_of z l.shape) from.sizes ∙ ap (action_nets_of d.sizes) for.shape

  -- ---- records
  records_of : AreRecordsOf d r.records.items
  records_of = record { sites = made.records.sites; each = λ i x lt. (made.records.each i x lt).of }

  taken : taken_slots l ≡ taken_in d r.action_shape
  taken =
      ap (λ rs. taken_from l 1 (kept rs)) for.records
      ∙ taken_same l (program_in d) (decls_in d) r.records.items (keep_alike d is r.records.items records_of) 1
      ∙ ap (λ js. taken_at l.sizes l.action_shape.slot_bits 1 (filter (keeps_at (program_in d) (decls_in d)) js)) made.records.sites
      ∙ ap (λ z. taken_at z l.action_shape.slot_bits 1 (filter (keeps_at (program_in d) (decls_in d)) (record_sites (program_in d)))) from.sizes
      ∙ ap (λ (s : ActionShape). taken_at d.sizes s.slot_bits 1 (filter (keeps_at (program_in d) (decls_in d)) (record_sites (program_in d)))) for.action_shape

  -- the operands of a site show it at the commit place
  at_commit : (j : ℕ) (n : SiteNets (Name Part)) → j < length (program_in d).sites → IsNetsAt b j n → IsAtPlace l (commit_of l) j (operands_of n)
  at_commit j n lt nets =
      let within : j < length (program_of l).sites = subst (λ (p : ProgramView). j < length p.sites) (sym program) lt in
      let place : b ≡ get_or places (commit_of l) b = at ∙ ap (λ k. get_or places k b) (sym commit) in
      let is_at : n ≡ get_or (get_or places (commit_of l) b).sites.items j n = nets n ∙ ap (λ (x : StageSources). get_or x.sites.items j n) place in
      subst (λ x. IsAtPlace l (commit_of l) j (operands_of x)) (sym is_at) (law d places l is stand from answered (commit_of l) j b n (omega arith) within)

  -- ---- of each map
  abbrev outs : ℕ → List (Target (Name Part))
  outs = targets_at r.targets.items

  module _ (m : ℕ) (lt : m < length l.decls) where
    within : m < length d.forms.items
    within = omega (arith, many, lt)

    some_part : TargetPart Part
    some_part = some_of r.targets.items m (omega (arith, within, made.targets.count))

    outs_are : (t : TargetPart Part) → outs m ≡ (get_or r.targets.items m t).targets.items
    outs_are t = targets_are r.targets.items m t (omega (arith, within, made.targets.count))

    targets : AreTargetsOf l w m (get_or maps m no_map) (made.own m) (outs m)
    targets = record {
      map = (shown.each m no_map lt).actions;
      slots = (shown.each m no_map lt).part;
      sites = (made.owns m within).sites ∙ ap (λ p. records_on p m) (sym program);
      own = λ i o t. subst (λ p. IsOwn p m (get_or (made.own m) i o)) (sym program) ((made.owns m within).each i o t).own;
      cells = λ i o t. let x = (made.owns m within).each i o t in at_commit (get_or (made.own m) i o).site (get_or (made.own m) i o).nets.now x.known x.nets;
      block =
          targets_as (program_of l) (program_in d) program m (part.targets l.sizes m) (part.targets d.sizes m) (get_or maps m no_map) (l.slot_bits m) (get_or d.forms.items m no_form).bits (made.own m) (taken_slots l) (taken_in d r.action_shape) (outs m)
          (get_or r.targets.items m some_part).targets.items (w.block (part.targets l.sizes m)) (block_of (get_or r.targets.items m some_part).block) (ap (λ z. part.targets z m) from.sizes) (from.slot_bits m no_form lt) taken (outs_are some_part)
          (blocks.targets m some_part lt) (made.targets.each m no_map no_form some_part within);
    }

    decl : decl_at l m ≡ (get_or d.forms.items m no_form).decl
    decl = ap (λ ds. decl_of ds m) from.decls ∙ get_or-map (λ (f : MapForm). f.decl) d.forms.items m no_form no_decl within

    -- its form is that of the pipeline plan
    form : form_at l m ≡ get_or d.forms.items m no_form
    form =
        let f = get_or d.forms.items m no_form in
        ap (λ (x : MapDecl). record { number = m; bits = l.slot_bits m; decl = x }) decl ∙ ap (λ n. record { number = m; bits = n; decl = f.decl }) (from.slot_bits m no_form lt)
        ∙ ap (λ n. record { number = n; bits = f.bits; decl = f.decl }) (sym (is.forms.number m no_form within))

    lets : may_tree made.host.may m ≡ host_may (form_at l m) (part.own l.sizes m) (idle_net l)
    lets =
        made.host.are.each m no_form within ∙ ap (λ f. host_may f (part.own d.sizes m) (idle_of d.sizes)) (sym form) ∙ ap (λ z. host_may (form_at l m) (part.own z m) (idle_of z)) (sym from.sizes)

  -- ---- what the operation at a record site writes
  target_as : (x : RecordNets (Name Part)) → IsTargetAt (made.own (site_at (program_in d).sites x.number).map) (outs (site_at (program_in d).sites x.number).map) x.number x.target → IsTargetOf l made.own outs x
  target_as x h =
      let same = sym (map_same (program_of l) (program_in d) program x.number) in
      record {
        at = h.at;
        there = subst (λ m. h.at < length (made.own m)) same h.there;
        site = λ s. subst (λ m. (get_or (made.own m) h.at s).site ≡ x.number) same (h.site s);
        target = λ t. subst (λ m. (get_or (outs m) h.at t).slot ≡ x.target) same (h.target t);
      }

  -- what holds of the pipeline plan's records holds of the layout's
  of_records : (P : List (RecordNets (Name Part)) → Type 0) → P r.records.items → P l.records
  of_records P h = subst P (sym for.records) h

  parts : AreActionParts l w
  parts = record {
    maps = λ m. get_or maps m no_map;
    own = made.own;
    targets = outs;
    writes = targets;
    may = made.host.may;
    many = made.host.are.count ∙ sym many;
    lets = lets;
    host = host_as (part.host l.sizes) (part.host d.sizes) (host_nets l) (host_nets_of d.sizes) made.host.may (w.block (part.host l.sizes)) (block_of r.host) (ap part.host from.sizes) host_same blocks.host made.host.is;
    records = of_records (AreRecords (program_of l) l.decls) (subst (λ ds. AreRecords (program_of l) ds r.records.items) (sym from.decls) (subst (λ p. AreRecords p (decls_in d) r.records.items) (sym program) made.action.records));
    sites = ap sites_of for.records ∙ made.records.sites ∙ ap record_sites (sym program);
    cells = of_records (All (λ x. IsAtPlace l (commit_of l) x.number (operands_of x.nets.now)))
        (λ i x lt. let h = made.records.each i x lt in at_commit (get_or r.records.items i x).number (get_or r.records.items i x).nets.now h.of.known h.nets);
    written = of_records (All (IsTargetOf l made.own outs)) (λ i x lt. target_as (get_or r.records.items i x) (made.records.each i x lt).target);
    chosen = r.action.chosen.items;
    one = r.action.commits;
    action =
        action_as (program_of l) (program_in d) program l.decls (decls_in d) (part.action l.sizes) (part.action d.sizes) l.action_shape r.action_shape (action_nets l) (action_nets_of d.sizes c) l.records r.records.items (w.block (part.action l.sizes)) (block_of r.action.block)
        r.action.chosen.items r.action.commits l.stays r.action.stays from.decls (ap part.action from.sizes) for.action_shape action_same for.records blocks.action for.stays made.action.is;
    numbers = made.commits.numbers;
    are_maps = of_records (AreMaps (program_of l) made.commits.numbers) (subst (λ p. AreMaps p made.commits.numbers r.records.items) (sym program) made.commits.are);
    commits = r.commits.commits.items;
    says =
        commits_as (part.commits l.sizes) (part.commits d.sizes) (length l.decls) (length d.forms.items) made.commits.numbers r.action.chosen.items r.commits.commits.items (w.block (part.commits l.sizes)) (block_of r.commits.block) (ap part.commits from.sizes) many
        blocks.commits made.commits.is;
  }

  pub action_parts_of : AreActionPartsOf l w maps r
  unfolding parts
  action_parts_of = record {
    parts = parts;
    maps = λ m n lt. get_or_default maps m no_map n (omega (arith, lt, shown.count));
    targets = λ m t lt. outs_are m lt t;
    chosen = refl;
    one = refl;
    commits = refl;
  }
