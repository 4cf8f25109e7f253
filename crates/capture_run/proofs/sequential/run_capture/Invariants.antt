use Rattle.std.proofs.Common.{◌≡◌, List, length, drop, IsTrue}
use Rattle.pcap_core.specs.Format.{Packet}
use Rattle.command_line.specs.Request.{names_of}
use Rattle.capture_run.specs.States.{state_of, Changes}
use Rattle.capture_run.specs.Captures.{HoldsCapture, StandsBefore}
use Rattle.capture_run.specs.Runs.{result_names}
use Rattle.capture_run.proofs.RunLaws.{SoFar}
use Rattle.capture_run.proofs.sequential.run_capture.Given as goal

abbrev pub invariant-loop-index : goal.invariant-loop-index
invariant-loop-index g l = record {
  plan : l.plan ≡ l.fn.plan;
  decls : l.maps.decls ≡ l.fn.maps.decls;
  kept : Changes (result_names (names_of l.files)) (state_of g.S.Shelf l.fn.shelf) (state_of g.S.Shelf l.shelf);
  told : IsTrue (g.S.Shelf.tells l.fn.shelf) → (packets : List Packet) → HoldsCapture l.survey.stream (g.S.Shelf.held l.fn.shelf l.files.capture.now) packets → l.survey.count ≡ length packets → StandsBefore l.survey.stream (g.S.Shelf.held l.fn.shelf l.files.capture.now) l.fn.records packets
      → SoFar (names_of l.files) l.fn.plan l.ifindex l.survey.stream.magic packets l.index l.fn.maps l.maps (state_of g.S.Shelf l.fn.shelf) (state_of g.S.Shelf l.shelf)
      × StandsBefore l.survey.stream (g.S.Shelf.held l.fn.shelf l.files.capture.now) l.records (drop l.index packets);
}
