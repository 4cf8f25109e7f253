-- What a command leaves, by what its inputs hold.
use Rattle.std.specs.Prelude.{◌≡◌, ℕ, List, length, map, Option, Some}
use Rattle.shelf_core.specs.Shelf.{Holding}
use Rattle.pcap_core.specs.Format.{Packet}
use Rattle.net_core.specs.Nets.{Netlist}
use Rattle.beat_core.specs.declared.answer.Answer.{Answer}
use Rattle.xdp_object.specs.xdp_machine.Program.{XdpProgram}
use Rattle.xdp_maps.specs.State.{MapState, opened_state}
use Rattle.maps_text.specs.Writing.{text_of}
use Rattle.ehdl_build.specs.Compiled.{PipelineSize, HasSize, IsSequential, Realizes}
use Rattle.xdp_object.specs.Choice.{Chosen}
use Rattle.xdp_object.specs.Object.{IsObject}
use Rattle.kind_core.specs.declared.kind.Offsets.TheVariants.{Varying}
use Rattle.row_rules.specs.NodeRows.Acceptance.{IsAccepted}
use Rattle.command_line.specs.Request.{Names}
use Rattle.ehdl_top.specs.declared.limits.TheConstants.{OBJECT_LIMIT, VERILOG_LIMIT}
use Rattle.ehdl_top.specs.declared.error.CommandError.{CommandError}
use Rattle.capture_run.specs.declared.records.TheConstants.{CAPTURE_LIMIT}
use Rattle.capture_run.specs.Captures.{IsCaptured}
use Rattle.ehdl_top.specs.Forms.{Holds, IsTaken, IsTextOf, StartsFrom, built, accepted}
use Rattle.ehdl_top.specs.Simulation.{Simulation, simulation, given_up}
use Rattle.capture_run.specs.Writes.{Outputs}
use Rattle.capture_run.specs.Results.{timed_packets, came_by}
use Rattle.ehdl_top.specs.Results.{compile_outputs, run_outputs, result_outputs, sim_outputs}
use Rattle.ehdl_top.specs.Report.{report_lines}
use Rattle.port_drive.specs.realization.Bounds.{clock_bound, most_beats}
use Rattle.flow_demo.specs.Program.{demo_program}
use Rattle.flow_demo.specs.Packets.{demo_packets}
use Rattle.port_drive.specs.AnswerCounts.Counts.{entry_count}
use Rattle.ehdl_top.specs.Demo.{demo_lines}

-- ---- compile
-- The text that an object asks for: it realizes the object's program.
pub record IsCompiled (object verilog : List ℕ) (chosen : Chosen) (held : Holding) (outputs : Outputs) : Type 0 where
  pub program : XdpProgram
  pub held_program : Holds OBJECT_LIMIT (held object) (λ bytes. IsTaken chosen built bytes program)
  pub text : List ℕ
  pub size : PipelineSize
  pub has_size : HasSize program size
  pub realizes : Realizes text program size
  pub outputs_are : outputs ≡ compile_outputs verilog text

-- ---- run
-- The files that an object, a capture and, if it is named, a text of maps ask for. The text realizes the object's program; answers and
-- verdicts are those of sequential execution, one packet of the capture after another, all by one interface, from the maps of the text of
-- maps, or from maps in which nothing was written, and the final maps are those after the last.
pub record IsRun (names : Names) (verilog : List ℕ) (chosen : Chosen) (ifindex : ℕ) (held : Holding) (outputs : Outputs) : Type 0 where
  pub program : XdpProgram
  pub held_program : Holds OBJECT_LIMIT (held names.object) (λ bytes. IsTaken chosen built bytes program)
  pub text : List ℕ
  pub size : PipelineSize
  pub has_size : HasSize program size
  pub realizes : Realizes text program size
  pub first : MapState
  pub starts : StartsFrom names.maps program.decls held first
  pub magic : ℕ
  pub packets : List Packet
  pub held_capture : Holds CAPTURE_LIMIT (held names.capture) (λ bytes. IsCaptured bytes magic packets)
  pub answers : List Answer
  pub final : MapState
  pub runs : IsSequential program first (came_by ifindex (timed_packets magic packets)) answers final
  pub outputs_are : outputs ≡ run_outputs names verilog text magic packets answers (text_of final)

-- ---- sim
-- The files that a Verilog text, an object, a capture and, if it is named, a text of maps ask for, and why the simulation was given up,
-- if it was. The one design that the text spells is loaded with the maps of the object that the text of maps lists, or with maps in which
-- nothing was written; it is driven by the capture in at most so many clocks, and its maps are dumped.
pub record IsSimulated (names : Names) (verilog : List ℕ) (chosen : Chosen) (ifindex clocks : ℕ) (held : Holding) (end : Option CommandError) (outputs : Outputs) : Type 0 where
  pub program : XdpProgram
  pub held_object : Holds OBJECT_LIMIT (held names.object) (λ bytes. IsObject chosen bytes program)
  pub design : Netlist
  pub held_text : Holds VERILOG_LIMIT (held verilog) (λ bytes. IsTextOf bytes design)
  pub first : MapState
  pub starts : StartsFrom names.maps program.decls held first
  pub magic : ℕ
  pub packets : List Packet
  pub held_capture : Holds CAPTURE_LIMIT (held names.capture) (λ bytes. IsCaptured bytes magic packets)
  pub given : Simulation
  pub is_given : given ≡ simulation design first ifindex (timed_packets magic packets) clocks
  pub end_is : end ≡ given_up given.end
  pub outputs_are : outputs ≡ sim_outputs names magic packets given

-- ---- ref
-- The files that an object, a capture and, if it is named, a text of maps ask for of sequential execution alone: the answers of the
-- object's program to one packet of the capture after another, all by one interface, from the maps of the text, or from maps in which
-- nothing was written, and the maps after the last.
pub record IsReference (names : Names) (chosen : Chosen) (ifindex : ℕ) (held : Holding) (outputs : Outputs) : Type 0 where
  pub program : XdpProgram
  pub held_program : Holds OBJECT_LIMIT (held names.object) (λ bytes. IsTaken chosen accepted bytes program)
  pub first : MapState
  pub starts : StartsFrom names.maps program.decls held first
  pub magic : ℕ
  pub packets : List Packet
  pub held_capture : Holds CAPTURE_LIMIT (held names.capture) (λ bytes. IsCaptured bytes magic packets)
  pub answers : List Answer
  pub final : MapState
  pub runs : IsSequential program first (came_by ifindex (timed_packets magic packets)) answers final
  pub outputs_are : outputs ≡ result_outputs names magic packets answers (Some (text_of final))

-- ---- report
-- The lines that an object asks for: what is counted of its program, which is accepted.
pub record IsReported (object : List ℕ) (chosen : Chosen) (held : Holding) (lines : List (List ℕ)) : Type 0 where
  pub program : XdpProgram
  pub held_object : Holds OBJECT_LIMIT (held object) (λ bytes. IsObject chosen bytes program)
  pub accepted : IsAccepted Varying program
  pub lines_are : lines ≡ report_lines program (length accepted.unfolds.graph) accepted.stages

-- ---- demo
-- The lines that a seed and a count of packets ask for: what is counted of sequential execution of the program that is at hand, one
-- packet after another, all by interface 1, from maps in which nothing was written, and of the pipeline that it has.
pub record IsDemo (seed packets : ℕ) (lines : List (List ℕ)) : Type 0 where
  pub size : PipelineSize
  pub has_size : HasSize demo_program size
  pub answers : List Answer
  pub final : MapState
  pub runs : IsSequential demo_program (opened_state demo_program.decls) (came_by 1 (timed_packets 0xa1b2c3d4 (demo_packets seed packets))) answers final
  pub lines_are : lines ≡ demo_lines packets answers (entry_count final 0) size (clock_bound packets size.stages (most_beats (map (λ p. p.bytes) (demo_packets seed packets))) size.records)
