-- The bytes of a text realize a program, and a text that an object was compiled to.
use Rattle.std.specs.Prelude.{◌≡◌, ℕ, ◌+◌, IsTrue, List, [], ◌∷◌, length, map as map_list}
use Rattle.xdp_object.specs.Choice.{Chosen}
use Rattle.xdp_object.specs.Object.{FirstFault, IsObject}
use Rattle.xdp_object.specs.xdp_machine.Program.{XdpProgram, IsProgram}
use Rattle.xdp_object.specs.xdp_maps.State.{MapState, IsSound}
use Rattle.xdp_object.specs.xdp_machine.State.{Code, PacketIn}
use Rattle.xdp_object.specs.xdp_machine.Runs.{Leaves, AreRuns}
use Rattle.xdp_object.specs.xdp_machine.Touched.{Touched, AllTouch}
use Rattle.net_core.specs.Nets.{Netlist}
use Rattle.net_core.specs.Clock.{first_stored}
use Rattle.net_core.specs.Trace.{NeverStops, stored_after}
use Rattle.beat_core.specs.Ports.{Arrival}
use Rattle.beat_core.specs.declared.answer.Answer.{Answer}
use Rattle.pipe_runs.specs.realization.HostHistory.Host.{load}
use Rattle.verilog_write.specs.VerilogGrammar.Spelling.{Spells}
use Rattle.ehdl_build.specs.declared.built.Built.{Built}
use Rattle.ehdl_build.specs.declared.built.CompileError.{CompileError}
use Rattle.ehdl_build.specs.declared.built.CompileError.TheVariants.{Object, Refused, NoMemory}
use Rattle.xdp_state.specs.declared.refusal.Refusal.{Refusal}
use Rattle.xdp_state.specs.declared.refusal.BuildError.{BuildError}
use Rattle.xdp_state.specs.declared.refusal.BuildError.TheVariants as build
use Rattle.kind_core.specs.declared.kind.Offsets.TheVariants.{Fixed}
use Rattle.row_rules.specs.NodeRows.Acceptance.{IsAccepted, IsFirstRefusal}
use Rattle.pipe_runs.specs.realization.Bounds.{ConflictFree}
use Rattle.net_core.specs.ProductRules.Products.{no_product_chains}
use Rattle.pipe_runs.specs.realization.Realizes.{Meets}

-- what is run of a program
abbrev pub code_of : XdpProgram → Code
code_of p = record { insns = p.insns; refs = p.refs }

-- packets that came over the ports, as the machine takes them
abbrev pub packets_in : List Arrival → List PacketIn
packets_in [] = []
packets_in (a ∷ rest) = record { frame = a.frame; ifindex = a.ifindex; time = a.time } ∷ packets_in rest

abbrev pub answer_of : Leaves → Answer
answer_of e = record { verdict = e.verdict; target = e.target; frame = e.frame }

-- Sequential execution of a program on these maps answers packets so, and leaves these maps.
pub record IsSequential (p : XdpProgram) (maps : MapState) (packets : List Arrival) (answers : List Answer) (after : MapState) : Type 0 where
  pub leaves : List Leaves
  pub runs : AreRuns (code_of p) maps (packets_in packets) leaves after
  pub answers_are : answers ≡ map_list answer_of leaves

-- the runs of packets touch this
abbrev pub Touch : XdpProgram → MapState → List Arrival → List Touched → Type 0
Touch p maps packets ts = AllTouch (code_of p) maps (packets_in packets) ts

-- The runs of packets touch this, and none reads what one of fewer than S + 4 before it wrote.
pub record DoNotConflict (p : XdpProgram) (maps : MapState) (stages : ℕ) (packets : List Arrival) (ts : List Touched) : Type 0 where
  pub touch : Touch p maps packets ts
  pub apart : ConflictFree (stages + 3) ts

-- the last stage of a program's pipeline, the number of its record sites, and the nodes of its unfolded graph
pub record PipelineSize : Type 0 where
  pub stages : ℕ
  pub records : ℕ
  pub nodes : ℕ

-- The size of an accepted program's pipeline, where offsets are fixed: its stages and record sites as they are counted on its graph, and the nodes of this graph.
pub record HasSize (p : XdpProgram) (z : PipelineSize) : Type 0 where
  pub accepted : IsAccepted Fixed p
  pub stages : z.stages ≡ accepted.stages.rows
  pub records : z.records ≡ accepted.stages.records
  pub nodes : z.nodes ≡ length accepted.unfolds.graph

-- maps over a program's declarations
pub record AreMapsOf (p : XdpProgram) (maps : MapState) : Type 0 where
  pub declared : maps.decls ≡ p.decls
  pub sound : IsSound maps

-- The text spells a design in whose clocks no chain of products stands. Whatever maps of the program the host loads, it then answers
-- frames as sequential execution on these maps does, and shows the host the maps that this leaves.
pub record Realizes (text : List ℕ) (p : XdpProgram) (z : PipelineSize) : Type 0 where
  pub design : Netlist
  pub spells : Spells text design
  pub products : IsTrue (no_product_chains design)
  pub loads : (maps : MapState) → AreMapsOf p maps → NeverStops design (first_stored design) (load maps)
  pub meets : (maps : MapState) → AreMapsOf p maps →
      Meets design (stored_after design (first_stored design) (load maps)) (IsSequential p maps) (Touch p maps) (DoNotConflict p maps z.stages) z.stages z.records

-- the size of the pipeline that was built
abbrev pub size_of : Built → PipelineSize
size_of b = record { stages = b.rows; records = b.records; nodes = b.nodes }

-- Under a choice the bytes are an object of a program, whose parts make up one. What was built are its declarations and the size of its
-- pipeline, by which it is accepted, and a text that realizes it.
pub record Compiles (choice : Chosen) (bytes : List ℕ) (built : Built) : Type 0 where
  pub program : XdpProgram
  pub object : IsObject choice bytes program
  pub is_program : IsProgram program
  pub decls : built.decls.items ≡ program.decls
  pub has_size : HasSize program (size_of built)
  pub realizes : Realizes built.text.items program (size_of built)

-- under a choice the bytes are an object, and this is the first refusal of its program, which is not accepted
pub record IsRefused (choice : Chosen) (bytes : List ℕ) (r : Refusal) : Type 0 where
  pub program : XdpProgram
  pub object : IsObject choice bytes program
  pub refusal : IsFirstRefusal Fixed program r

-- what holds of the bytes that an error is answered for; of want of memory nothing is said
abbrev pub FailsFor : Chosen → List ℕ → CompileError → Type 0
FailsFor choice bytes (Object e) = FirstFault choice bytes e
FailsFor choice bytes (Refused r) = IsRefused choice bytes r
FailsFor choice bytes NoMemory = Unit {0}

-- the error of compiling, by that of a program
abbrev pub compile_error : BuildError → CompileError
compile_error (build.Refused r) = Refused r
compile_error build.NoMemory = NoMemory
