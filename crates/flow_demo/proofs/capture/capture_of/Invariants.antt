use Rattle.std.proofs.Common.{◌≡◌, map}
use Rattle.pcap_core.specs.Format.{capture_bytes}
use Rattle.flow_demo.specs.Packets.{demo_header, demo_packets, record_of, state_before}
use Rattle.flow_demo.proofs.capture.capture_of.Given as goal

abbrev pub invariant-loop-second : goal.invariant-loop-second
invariant-loop-second l = record {
  state : l.draws ≡ state_before l.fn.seed l.second;
  bytes : l.capture.items ≡ capture_bytes demo_header (map record_of (demo_packets l.fn.seed l.second));
}
