use Rattle.realization.proofs.PacketLaws.{patterns_bring_packets}
use Rattle.realization.proofs.laws.patterns_bring_packets.Goals as goal

pub returns : goal.returns
returns c = patterns_bring_packets
