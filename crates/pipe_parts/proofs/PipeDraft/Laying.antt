-- Layouts by pipeline plans are laid out by the plan.
use Rattle.std.proofs.Common.{◌≡◌, ◌∙◌, ℕ, suc, ◌^◌, ◌<◌, ◌≤◌, All, List, [], ◌∷◌, length, map as map_list, get_or, sym, ap, subst, arith, slice_index}
use Rattle.std.proofs.lemmas.List.{length-map, get_or-map}
use Rattle.hazard_core.specs.xdp_maps.declared.decl.MapDecl.{MapDecl}
use Rattle.hazard_core.specs.xdp_maps.State.{no_decl}
use Rattle.hazard_core.proofs.xdp_maps_laws.LimitLaws.{cap_few}
use Rattle.hazard_core.specs.cell_core.Sites.{ProgramView}
use Rattle.block_core.specs.declared.name.Name.{Name}
use Rattle.hazard_core.specs.Tables.{decl_of}
use Rattle.overlay_net.specs.declared.site_operands.SiteNets.{SiteNets}
use Rattle.overlay_net.specs.SiteOperands.Sites.{operands_of}
use Rattle.commit_net.specs.declared.map_block.form.MapForm.{MapForm}
use Rattle.row_plan.specs.Plan.{Plan, IsPlan}
use Rattle.row_net.specs.Lists.{made_cells}
use Rattle.row_net.specs.Needed.{AreNeeded}
use Rattle.row_net.specs.Table.{AreConstants}
use Rattle.read_net.specs.pipe_core.Machine.{Build}
use Rattle.read_net.specs.pipe_core.Computed.{IsPlanned}
use Rattle.row_net.specs.PlaceNet.Sources.{IsSource}
use Rattle.stage_net.specs.SiteTable.Constants.{AreEarly}
use Rattle.stage_net.specs.SiteTable.Lists.{held_cells, held_pointers, made_pointers}
use Rattle.stage_net.specs.SiteTable.Parts.{AreParts}
use Rattle.stage_net.specs.SiteTable.Pointing.{AreFlagged, plain_of}
use Rattle.stage_net.specs.SiteTable.Sites.{IsSiteOf}
use Rattle.stage_net.specs.SiteTable.Tables.{StandBehind}
use Rattle.stage_net.specs.Staged.{IsStaged}
use Rattle.pipe_net.specs.declared.parts.Part.{Part}
use Rattle.pipe_net.specs.declared.parts.Sizes.{Sizes}
use Rattle.pipe_net.specs.Parts as part
use Rattle.pipe_net.specs.Layout.{Layout, program_of, last_of, commit_of, HasAnswer}
use Rattle.pipe_net.specs.PipePlaces.Layout.{load_sites, AreListsAt, AreTablesBehind, HasRoom, IsLaidOut}
use Rattle.pipe_parts.specs.declared.pipe_draft.pipeline_plan.PipelinePlan.{PipelinePlan}
use Rattle.pipe_parts.specs.declared.pipe_draft.places.StageSources.{StageSources}
use Rattle.pipe_parts.specs.PipeDraft.Program.{build_of}
use Rattle.pipe_parts.specs.PipeDraft.PipelinePlan.{program_in, plan_in, decls_in, IsPipelinePlan}
use Rattle.pipe_parts.specs.PipeDraft.Places.{ArePlaces}
use Rattle.pipe_parts.specs.PipeDraft.Laid.{IsPipelinePlanned, IsAnswered}
use Rattle.pipe_parts.proofs.PipeDraft.Sourcing.{are_sources}

-- an element of a list that has some
some_of : {X : Type 0} (xs : List X) → 0 < length xs → X
some_of [] lt = absurd (omega arith)
some_of (x ∷ xs) lt = x

module _ (d : PipelinePlan) (is : IsPipelinePlan d) where
  abbrev p : ProgramView
  p = program_in d

  abbrev plan : Plan
  plan = plan_in d

  pub staged : IsStaged p (slice_index plan.rows) (decls_in d) d.bits
  staged = record {
    formed = is.ready.formed;
    fits = is.ready.fits;
    aligned = is.ready.aligned;
    few = is.few_sites;
    wide = record { some = omega (arith, is.bits.some); most = omega (arith, is.bits.most) };
    room = is.bits.updates;
    reads = is.ready.reads;
  }

  pub planned : IsPlanned (build_of p plan)
  planned = record { formed = is.ready.formed; rows = is.ready.planned.rows; last = λ c lt. omega (arith, is.ready.rows c lt) }

  no_form : MapForm
  no_form = record { number = 0; bits = 0; decl = no_decl }

  decl_is : (m : ℕ) → m < length d.forms.items → decl_of (decls_in d) m ≡ (get_or d.forms.items m no_form).decl
  decl_is m lt = get_or-map (λ (f : MapForm). f.decl) d.forms.items m no_form no_decl lt

  module _ (places : List StageSources) (l : Layout) (stand : ArePlaces d places) (from : IsPipelinePlanned d places l) where
    program : program_of l ≡ p
    program = ap (λ (b : Build). b.program) from.build

    last : last_of l ≡ plan.last
    last = ap (λ (b : Build). b.plan.last) from.build

    pub commits_up : commit_of l ≤ last_of l
    commits_up = subst (λ (b : Build). b.plan.commit ≤ b.plan.last) (sym from.build) is.ready.commit

    -- what holds of the pipeline plan's program, cells, flags and bits holds of the layout's
    of_program : (P : ProgramView → Type 0) → P p → P (program_of l)
    of_program P h = subst P (sym program) h

    of_build : (P : Build → Type 0) → P (build_of p plan) → P l.build
    of_build P h = subst P (sym from.build) h

    many : length l.decls ≡ length d.forms.items
    many = ap length from.decls ∙ length-map d.forms.items (λ (f : MapForm). f.decl)

    room : (m : ℕ) → m < length l.decls → HasRoom l m
    room m lt =
        let within : m < length d.forms.items = omega (arith, many, lt) in
        let form = get_or d.forms.items m no_form in
        let form_fits = is.forms.form_fits m no_form within in
        let same : decl_of l.decls m ≡ form.decl = ap (λ ds. decl_of ds m) from.decls ∙ decl_is m within in
        let bits = from.slot_bits m no_form lt in
        record {
          bits = subst (λ (x : MapDecl). x.cap ≤ 2 ^ l.slot_bits m) (sym same) (subst (λ b. form.decl.cap ≤ 2 ^ b) (sym bits) form_fits.room);
          most = subst (λ (x : MapDecl). x.cap ≤ 65536) (sym same) (cap_few form.decl form_fits.limits);
        }

    lists : (k : ℕ) → AreListsAt l plan d.needed.items d.parts.items k
    lists k = record {
      made = from.made k ∙ ap (λ q. made_cells q plan d.needed.items k) (sym program);
      held = from.held k ∙ ap (λ q. held_cells q plan d.needed.items d.parts.items k) (sym program);
      made_pointers = from.made_pointers k ∙ ap (λ q. made_pointers q plan d.needed.items d.points.items k) (sym program) ∙ ap (λ fs. made_pointers (program_of l) plan d.needed.items fs k) (sym from.flags);
      held_pointers =
          from.held_pointers k ∙ ap (λ q. held_pointers q plan d.needed.items d.parts.items d.points.items k) (sym program)
          ∙ ap (λ fs. held_pointers (program_of l) plan d.needed.items d.parts.items fs k) (sym from.flags);
    }

    behind : (k : ℕ) → k ≤ last_of l → AreTablesBehind l plan d.needed.items d.parts.items k
    behind k le =
        let b = some_of places (omega (arith, stand.count)) in
        let t = (get_or places k b).tables in
        let up : k ≤ plan.last = omega (arith, le, last) in
        let h = (stand.each k b up).tables in
        let by_sizes = subst (λ z. StandBehind (part.place z k) p plan d.needed.items d.parts.items d.points.items d.bits k t) (sym from.sizes) h in
        let by_bits = subst (λ n. StandBehind (part.place l.sizes k) p plan d.needed.items d.parts.items d.points.items n k t) (sym from.bits) by_sizes in
        let by_flags = subst (λ fs. StandBehind (part.place l.sizes k) p plan d.needed.items d.parts.items fs l.bits k t) (sym from.flags) by_bits in
        record {
          tables = t;
          stand = of_program (λ q. StandBehind (part.place l.sizes k) q plan d.needed.items d.parts.items l.flags l.bits k t) by_flags;
          table = from.table k b le;
          pointers = from.pointers k b le;
        }

    pub laid : IsAnswered l → IsLaidOut l
    laid answered = record {
      plan = plan;
      needed = d.needed.items;
      parts = d.parts.items;
      is_plan = of_program (λ q. IsPlan q plan) is.ready.planned;
      row = ap (λ (b : Build). b.plan.row) from.build;
      commit = ap (λ (b : Build). b.plan.commit) from.build;
      last = last;
      are_needed = of_program (λ q. AreNeeded q d.needed.items) is.needed;
      are_parts = of_program (λ q. AreParts q d.parts.items) is.parts;
      flagged = of_program (λ (q : ProgramView). AreFlagged q.cells l.flags) (subst (AreFlagged p.cells) (sym from.flags) is.points);
      planned = of_build IsPlanned planned;
      staged = of_build (λ (b : Build). IsStaged b.program b.plan.row l.decls l.bits)
          (subst (λ n. IsStaged p (slice_index plan.rows) l.decls n) (sym from.bits) (subst (λ ds. IsStaged p (slice_index plan.rows) ds d.bits) (sym from.decls) staged));
      early = of_build (λ (b : Build). AreEarly b.program b.plan.row) is.early;
      loads = ap (λ (z : Sizes). z.loads) (from.sizes ∙ is.sizes) ∙ ap (λ q. length (load_sites q)) (sym program);
      room = room;
      sources = of_program (λ (q : ProgramView). All (IsSource l.kept q.cells) l.sources)
          (subst (λ ks. All (IsSource ks p.cells) l.sources) (sym from.kept) (subst (All (IsSource d.kept.items p.cells)) (sym from.sources) (are_sources p d.needed.items is.ready.formed d.sources.items is.sources d.kept.items is.kept)));
      constants = of_program (λ (q : ProgramView). AreConstants q.cells l.constants) (subst (AreConstants p.cells) (sym from.constants) is.constants);
      plain = from.plain ∙ is.plain ∙ ap (λ fs. map_list plain_of fs) (sym from.flags);
      lists = lists;
      behind = behind;
      has_answer = of_build HasAnswer is.ready.answer;
      verdict = answered.verdict;
      target = answered.target;
      bytes = answered.bytes;
    }

    -- the operands of a site are those that the tables give
    pub site_of_tables : (k j : ℕ) (b : StageSources) (s : SiteNets (Name Part)) → k ≤ last_of l → j < length (program_of l).sites
        → IsSiteOf (program_of l) (l.table (suc k)) (l.pointers (suc k)) j (operands_of (get_or (get_or places k b).sites.items j s))
    site_of_tables k j b s le lt =
        let up : k ≤ plan.last = omega (arith, le, last) in
        let within : j < length p.sites = subst (λ (q : ProgramView). j < length q.sites) program lt in
        let out = operands_of (get_or (get_or places k b).sites.items j s) in
        let t = (get_or places k b).tables in
        let h = (stand.each k b up).sites.each j s within in
        of_program (λ q. IsSiteOf q (l.table (suc k)) (l.pointers (suc k)) j out)
        (subst (λ ps. IsSiteOf p (l.table (suc k)) ps j out) (sym (from.pointers k b le)) (subst (λ ts. IsSiteOf p ts t.pointers.items j out) (sym (from.table k b le)) h))
