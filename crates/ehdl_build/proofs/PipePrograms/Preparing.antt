-- Programs by their plans have what their pipelines ask.
use Rattle.std.specs.Prelude.{◌≡◌, ◌⊎◌, ℕ, ◌+◌, ◌^◌, ◌/◌, ◌<◌, ◌≤◌, Some, All, List, length, slice_index, Contains}
use Rattle.std.proofs.Common.{inl, inr, refl, sym, ap, subst, arith}
use Rattle.std.proofs.Math.Nat.{mod-le, div-le_self}
use Rattle.xdp_object.specs.xdp_maps.Contents.{IsWithinLimits}
use Rattle.hazard_core.specs.cell_core.declared.program.FrameByte.{FrameByte}
use Rattle.hazard_core.specs.cell_core.declared.site.Act.{Act}
use Rattle.hazard_core.specs.cell_core.declared.site.Act.TheVariants as act
use Rattle.hazard_core.specs.cell_core.declared.operator.Operator.{Operator}
use Rattle.hazard_core.specs.cell_core.declared.operator.Operator.TheVariants.{Constant}
use Rattle.hazard_core.specs.cell_core.Cells.{CellView, cell_at, site_in, is_heavy, bit, bits_from}
use Rattle.hazard_core.specs.cell_core.Rows.{greatest}
use Rattle.hazard_core.specs.cell_core.Sites.{ProgramView, site_at}
use Rattle.operator_cells.specs.HeldCells.Aligned as held
use Rattle.operator_cells.specs.HeldCells.Law.{IsLaw}
use Rattle.operator_cells.specs.HeldCells.Paths.{GraphView}
use Rattle.operator_cells.specs.Making.{IsAlone}
use Rattle.predicate_core.specs.Buildable.{HasBits, IsBuildable}
use Rattle.row_plan.specs.Plan.{Plan, IsPlan}
use Rattle.pipe_design.specs.overlay_net.ValueNet.Words as value
use Rattle.pipe_runs.specs.pipe_core.Machine.{Build}
use Rattle.pipe_runs.specs.pipe_core.Pipeable.{IsPipelinable}
use Rattle.pipe_design.specs.stage_net.Staged.{IsReadCell}
use Rattle.pipe_runs.specs.pipe_net.Layout.{IsBy, HasAnswer}
use Rattle.pipe_design.specs.stage_net.SiteTable.Constants.{AreEarly, number_as}
use Rattle.pipe_runs.specs.pipe_net.PipePlaces.Entries.{AccessesLead}
use Rattle.pipe_design.specs.pipe_parts.PipeDraft.Program.{IsForPipe, build_of}
use Rattle.ehdl_build.specs.ProgramPlan.Pipelinable.{ProgramsArePipelinable}
use Rattle.ehdl_build.specs.ProgramPlan.ReadCells.{AreReadCells, ReadCellsAreFirst, AccessesAreAligned}
use Rattle.ehdl_build.specs.ProgramPlan.Leading.{PointersLead}
use Rattle.ehdl_build.specs.PipePrograms.Prepared.{ProgramsArePrepared}

-- one word holds what an access reads and writes
aligned_word : (a : Act) → held.IsAligned a → value.IsAligned a
aligned_word (act.Load at size) h = h
aligned_word (act.Store at size) h = h
aligned_word (act.Atomic at a) h = h
aligned_word a h = h

-- a number takes no cells, and so is there from the first row on, or it is 0
early_number : (row : ℕ → ℕ) (n from width : ℕ) (op : Operator) (ins : List ℕ) → IsAlone op ins → n ≡ greatest row ins + bit (is_heavy op) → (n ≡ 0) ⊎ (number_as op from width ≡ 0)
early_number row n from width (Constant m) ins (inl z) r = inr (omega (arith, ap (λ (k : ℕ). bits_from k from width) z, div-le_self 0 (2 ^ from), mod-le (0 / 2 ^ from) (2 ^ width)))
early_number row n from width (Constant m) ins (inr e) r = inl (omega (arith, r, ap (greatest row) e))
early_number row n from width op ins alone r = inr refl

module _ (g : GraphView) (p : ProgramView) (plan : Plan) (law : IsLaw g p) (buildable : IsBuildable p) (planned : IsPlan p plan) (pipelinable : IsPipelinable g.decls (build_of p plan)) where
  abbrev b : Build
  b = build_of p plan

  row_within : (k : ℕ) → k < length p.cells → slice_index plan.rows k ≤ plan.last
  row_within k lt = omega (arith, buildable.rows (slice_index plan.rows) planned.rows k lt, planned.last)

  pub early : AreEarly p (slice_index plan.rows)
  early k lt = let c : CellView = cell_at p.cells k in early_number (slice_index plan.rows) (slice_index plan.rows k) c.from c.width c.op c.ins (buildable.numbers k lt) (planned.rows.each k lt)

  -- ---- the answer
  is_by : (bits k : ℕ) → HasBits p.cells bits k → IsBy b plan.last k
  is_by bits k has = record { cell = has.there; row = omega (arith, row_within k has.there) }

  byte_of : (x : FrameByte) → Contains p.frame x → (x.at < 256) × HasBits p.cells 8 x.cell
  byte_of x there = let P : FrameByte → Type 0 = λ y. (y.at < 256) × HasBits p.cells 8 y.cell in subst P there.2 (buildable.bytes there.0 x there.1)

  has_answer : HasAnswer b
  has_answer = record {
    verdict = is_by 32 p.verdict buildable.verdict;
    verdict_width = buildable.verdict.width;
    target = is_by 32 p.target buildable.target;
    target_width = buildable.target.width;
    byte = λ x there. is_by 8 x.cell (byte_of x there).1;
    byte_width = λ x there. (byte_of x there).1.width;
    once = λ i j d lt below e. absurd (omega (arith, buildable.ascending i j d lt below, e));
  }

  -- ---- the reads
  read_cell : AreReadCells p → (c j : ℕ) → c < length p.cells → site_in (cell_at p.cells c).op ≡ Some j → IsReadCell p (slice_index plan.rows) c j
  read_cell cells c j lt e = record {
    site = pipelinable.rows.reads.sites c j lt e;
    below = pipelinable.rows.reads.below c j lt e;
    together = λ d ld ed. pipelinable.rows.reads.together d c j ld lt ed e;
    finds = λ is. pipelinable.rows.reads.finds c j lt is;
    answers = λ is. pipelinable.rows.reads.answers c j lt is;
    found = λ is. sym (cells.found c j lt is).cell;
    answer = λ is. sym (cells.answer c j lt is).cell;
    width = λ is. (cells.found c j lt is).width;
    from = λ is. (cells.found c j lt is).from;
  }

  pub for_pipe : AreReadCells p → ((j : ℕ) → j < length p.sites → held.IsAligned (site_at p.sites j).act) → length p.cells < 2 ^ 32 → length g.decls ≤ 16 → All IsWithinLimits g.decls → IsForPipe p plan g.decls
  for_pipe cells aligned few maps limits = record {
    few = few;
    formed = law.computes.formed;
    planned = planned;
    rows = row_within;
    commit = pipelinable.rows.commit;
    answer = has_answer;
    changed = λ x there. (byte_of x there).0;
    maps = maps;
    limits = limits;
    fits = pipelinable.fits;
    aligned = λ j lt. aligned_word (site_at p.sites j).act (aligned j lt);
    reads = read_cell cells;
  }

pub accesses_lead : PointersLead → (g : GraphView) (p : ProgramView) (plan : Plan) → IsLaw g p → IsPlan p plan → AccessesLead (build_of p plan)
accesses_lead leads g p plan law planned t packet r h own fit founds j known access low = leads g p plan (plan.last + 4) law planned t packet r h j known access low (record { own = own; fit = fit; founds = founds })

pub programs_are_prepared : ProgramsArePipelinable → ReadCellsAreFirst → AccessesAreAligned → PointersLead → ProgramsArePrepared
programs_are_prepared pipelinable cells aligned leads g p plan law buildable planned few nodes maps limits = record {
  ready = for_pipe g p plan law buildable planned (pipelinable g p plan (plan.last + 4) law buildable planned) (cells g p law) (aligned g p law) few maps limits;
  early = early g p plan law buildable planned (pipelinable g p plan (plan.last + 4) law buildable planned);
  few_sites = let count = law.computes.laid.count in let sites = buildable.operations in omega (arith, nodes, count, sites);
  leads = accesses_lead leads g p plan law planned;
}
