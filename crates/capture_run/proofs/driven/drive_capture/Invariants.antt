use Rattle.std.proofs.Common.{◌≡◌, ◌≤◌, IsTrue, List, length}
use Rattle.pcap_core.specs.Format.{Packet}
use Rattle.command_line.specs.Request.{names_of}
use Rattle.capture_run.specs.States.{state_of, Changes}
use Rattle.capture_run.specs.Captures.{StandsBefore}
use Rattle.capture_run.specs.Runs.{result_names}
use Rattle.capture_run.proofs.DrivenLaws.{DrivenBySome, to_do}
use Rattle.capture_run.proofs.ToldLaws.{DrivenByTold}
use Rattle.capture_run.proofs.driven.drive_capture.Given as goal

abbrev pub invariant-loop-count : goal.invariant-loop-count
invariant-loop-count g l = record {
  netlist : g.C.Clocked.netlist l.sim ≡ g.C.Clocked.netlist l.fn.sim;
  within : l.driver.clocks ≤ l.driver.limit;
  kept : Changes (result_names (names_of l.files)) (state_of g.S.Shelf l.fn.shelf) (state_of g.S.Shelf l.shelf);
  some : DrivenBySome (g.C.Clocked.netlist l.fn.sim) (g.C.Clocked.stored l.fn.sim) (g.C.Clocked.stored l.sim) l.fn.driver.ifindex l.fn.driver.limit l.survey.count l.driver;
  told : IsTrue (g.S.Shelf.tells l.fn.shelf) → (packets : List Packet) → l.survey.count ≡ length packets → StandsBefore l.survey.stream (g.S.Shelf.held l.fn.shelf l.files.capture.now) l.fn.ahead packets → StandsBefore l.survey.stream (g.S.Shelf.held l.fn.shelf l.files.capture.now) l.fn.behind packets
      → DrivenByTold (names_of l.files) (g.C.Clocked.netlist l.fn.sim) (g.C.Clocked.stored l.fn.sim) (g.C.Clocked.stored l.sim) l.fn.driver.ifindex l.fn.driver.limit l.survey.stream (g.S.Shelf.held l.fn.shelf l.files.capture.now) packets l.ahead l.behind l.driver (state_of g.S.Shelf l.fn.shelf) (state_of g.S.Shelf l.shelf);
}

abbrev pub decreases-loop-count : goal.decreases-loop-count
decreases-loop-count g l = to_do l.survey.count l.driver
