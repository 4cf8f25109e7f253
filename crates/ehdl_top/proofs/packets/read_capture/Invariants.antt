use Rattle.std.proofs.Common.{◌≡◌, ◌++◌, List, length}
use Rattle.pcap_core.specs.Format.{Packet}
use Rattle.ehdl_top.specs.Steps.{IsCaptureOf}
use Rattle.ehdl_top.proofs.packets.read_capture.Given as goal

abbrev pub invariant-loop-packet : goal.invariant-loop-packet
invariant-loop-packet l = record {
  packets : (before : List Packet) × IsCaptureOf l.captured before × (before ++ l.capture.packets ≡ l.initial.capture.packets);
  same : l.captured.magic ≡ l.capture.magic;
  magic : l.captured.magic ≡ l.initial.captured.magic;
  fault : l.capture.fault ≡ l.initial.capture.fault;
}

abbrev pub decreases-loop-packet : goal.decreases-loop-packet
decreases-loop-packet l = length l.capture.packets
