use Rattle.pcap_core.proofs.ContentLaws.{content_of-is, is-content_of, content_of-fault, fault-content_of, written-content_of}
use Rattle.pcap_core.proofs.laws.one_reading.Goals as goal

pub returns : goal.returns
returns c = record {
  found = content_of-is;
  only = is-content_of;
  fault = content_of-fault;
  only_fault = fault-content_of;
  written = written-content_of;
}
