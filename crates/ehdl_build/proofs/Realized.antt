-- What a pipeline of a program realizes.
use Rattle.std.specs.Prelude.{◌≡◌, ℕ, ◌+◌, ◌≤◌, IsTrue, List, length}
use Rattle.std.specs.List.{AllByRecursion}
use Rattle.std.proofs.Common.{refl, sym, ap, subst, ◌∙◌, arith}
use Rattle.beat_core.specs.declared.answer.Answer.{Answer}
use Rattle.beat_core.specs.Ports.{Arrival}
use Rattle.xdp_object.specs.xdp_maps.declared.decl.MapDecl.{MapDecl}
use Rattle.xdp_object.specs.xdp_maps.State.{MapState}
use Rattle.xdp_object.specs.xdp_machine.Program.{XdpProgram, IsProgram}
use Rattle.xdp_object.specs.xdp_machine.Touched.{Touched}
use Rattle.net_core.specs.Nets.{Netlist}
use Rattle.net_core.specs.Clock.{first_stored}
use Rattle.net_core.specs.Trace.{NeverStops, stored_after}
use Rattle.pipe_runs.specs.realization.HostHistory.Host.{load}
use Rattle.verilog_write.specs.VerilogGrammar.Spelling.{Spells}
use Rattle.hazard_core.specs.cell_core.Rows.{record_count}
use Rattle.hazard_core.specs.cell_core.Sites.{ProgramView}
use Rattle.predicate_core.specs.ProgramGraph.Graphs.{graph_of}
use Rattle.pipe_runs.specs.pipe_core.Machine.{Build}
use Rattle.pipe_runs.specs.pipe_core.Pipeable.{IsPipelinable}
use Rattle.ehdl_build.specs.ProgramPlan.Pipelinable.{ProgramsArePipelinable}
use Rattle.pipe_design.specs.pipe_parts.PipeDraft.Program.{build_of}
use Rattle.pipe_runs.specs.pipe_net.PipePlaces.Entries.{AccessesLead}
use Rattle.pipe_runs.specs.pipe_net.Layout.{last_of}
use Rattle.pipe_runs.specs.pipe_net.PipeForms.Parts.{design, names_of}
use Rattle.net_core.specs.ProductRules.Products.{no_product_chains}
use Rattle.net_core.specs.SameClocks.Same.{ShowTheSame}
use Rattle.net_core.proofs.SameClocks.SameLaws.{same_never_stops}
use Rattle.pipe_runs.proofs.realization_laws.SameDesigns.MeetLaws.{same_designs_meet}
use Rattle.pipe_design.specs.Pipeline.{IsPipelineOf as IsDesignOf}
use Rattle.pipe_runs.specs.PipePorts.Answered.{AreAnswered}
use Rattle.pipe_runs.specs.Apart as cells
use Rattle.pipe_runs.specs.Meeting.{MeetsLoaded, PipelinesMeet}
use Rattle.pipe_runs.specs.realization.Realizes.{IsPacket, Meets}
use Rattle.pipe_runs.proofs.realization_laws.MeetsLaws.{meets_more}
use Rattle.ehdl_build.specs.Compiled.{PipelineSize, IsSequential, Touch, DoNotConflict, AreMapsOf, Realizes}
use Rattle.ehdl_build.specs.Steps.{IsPipelineOf}
use Rattle.ehdl_build.proofs.Sequential.{in_sequence}
use Rattle.ehdl_build.proofs.Apart.{runs_touch, apart_by_less}

module _ (meet : PipelinesMeet) (suits : ProgramsArePipelinable) (p : XdpProgram) (z : PipelineSize) (n : Netlist) (program : IsProgram p) (is : IsPipelineOf p z n) where
  made : IsDesignOf is.cells is.plan p.decls n
  made = is.pipeline.is

  build : made.layout.build ≡ build_of is.cells is.plan
  build = made.made.build

  last : last_of made.layout ≡ is.plan.last
  last = ap (λ (b : Build). b.plan.last) build

  pipelinable : IsPipelinable made.layout.decls made.layout.build
  pipelinable = subst (λ (b : Build). IsPipelinable made.layout.decls b) (sym build)
      (subst (λ (ds : List MapDecl). IsPipelinable ds (build_of is.cells is.plan)) (sym made.made.decls_are)
      (suits (graph_of p is.are_cells.graph) is.cells is.plan (is.plan.last + 4) is.are_cells.law is.are_cells.buildable is.planned.is))

  -- the cells of packets are their sequential runs
  wanted : (maps : MapState) → AreMapsOf p maps → (packets : List Arrival) (answers : List Answer) (left : MapState) → AllByRecursion IsPacket packets
      → AreAnswered made.layout.build.program maps packets answers left → IsSequential p maps packets answers left
  wanted maps are packets answers left come h =
      let same : made.layout.build.program ≡ is.cells = ap (λ (b : Build). b.program) build in
      in_sequence p is.are_cells.graph is.cells program is.are_cells.law maps packets answers left are.sound are.declared come
      (subst (λ (q : ProgramView). AreAnswered q maps packets answers left) same h)

  -- and touch what these touch
  touches : (maps : MapState) → AreMapsOf p maps → (packets : List Arrival) (ts : List Touched) → Touch p maps packets ts → cells.Touch made.layout.build maps packets ts
  touches maps are packets ts h = subst (λ (b : Build). cells.Touch b maps packets ts) (sym build)
      (λ come us run. runs_touch p is.are_cells.graph is.cells program is.are_cells.law maps packets ts us are.sound are.declared come h run)

  apart : (maps : MapState) → AreMapsOf p maps → (packets : List Arrival) (ts : List Touched) → DoNotConflict p maps z.stages packets ts → cells.DoNotConflict made.layout.build maps packets ts
  apart maps are packets ts h = subst (λ (b : Build). cells.DoNotConflict b maps packets ts) (sym build) (record {
    touch = λ come us run. runs_touch p is.are_cells.graph is.cells program is.are_cells.law maps packets ts us are.sound are.declared come h.touch run;
    apart = apart_by_less (is.plan.last + 3) (z.stages + 3) ts (omega (arith, is.planned.within)) h.apart;
  })

  loaded : (maps : MapState) → AreMapsOf p maps → MeetsLoaded made.layout maps n
  loaded maps are = subst (MeetsLoaded made.layout maps) (sym made.is)
      (meet made.layout made.whole (names_of made.whole) made.made.pipeline (subst AccessesLead (sym build) is.prepared.leads) pipelinable
      (ap (λ (b : Build). b.slots) build ∙ ap (λ k. k + 4) (sym last)) maps (are.declared ∙ sym made.made.decls_are) are.sound (let few = ap length are.declared in omega (arith, few, program.maps)))

  meets : (maps : MapState) → AreMapsOf p maps → Meets n (stored_after n (first_stored n) (load maps)) (IsSequential p maps) (Touch p maps) (DoNotConflict p maps z.stages) z.stages z.records
  meets maps are =
      let records = ap (λ (b : Build). record_count b.program.sites) build in
      meets_more n (stored_after n (first_stored n) (load maps)) (AreAnswered made.layout.build.program maps) (IsSequential p maps) (cells.Touch made.layout.build maps) (Touch p maps) (cells.DoNotConflict made.layout.build maps) (DoNotConflict p maps z.stages)
      (last_of made.layout) z.stages (record_count made.layout.build.program.sites) z.records
      (wanted maps are) (touches maps are) (apart maps are) (omega (arith, last, is.planned.within)) (omega (arith, records, is.records)) (loaded maps are).meets

  -- a design that shows the same realizes the program, too
  pub realizes : (m : Netlist) → ShowTheSame n m → IsTrue (no_product_chains m) → (text : List ℕ) → Spells text m → Realizes text p z
  realizes m same products text spells = record {
    design = m;
    spells = spells;
    products = products;
    loads = λ maps are. same_never_stops n m same (load maps) (loaded maps are).loads;
    meets = λ maps are. same_designs_meet n m same (load maps) (IsSequential p maps) (Touch p maps) (DoNotConflict p maps z.stages) z.stages z.records (meets maps are);
  }
