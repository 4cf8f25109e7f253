use Rattle.std.proofs.Common.{sym, arith}
use Rattle.pcap_core.proofs.Heads.{header_of-tested}
use Rattle.pcap_core.proofs.ContentLaws.{none_at_end}
use Rattle.pcap_core.proofs.StreamLemmas.{opens, opens_not}
use Rattle.pcap_core.proofs.stream.Stream.open.Goals as goal

pub u32_at-requires : goal.u32_at-requires
u32_at-requires c =
    let long = (header_of-tested c.args.header.now c.in-Ok.order (sym c.in-Ok.ensures)).long in
    omega (arith, long)

pub returns-in-Ok-clause-content : goal.returns-in-Ok-clause-content
returns-in-Ok-clause-content c = λ bytes front. opens c.args.header.now bytes c.in-Ok.order c.u32_at.result c.in-Ok.ensures c.u32_at.ensures front

pub returns-in-Ok-clause-end : goal.returns-in-Ok-clause-end
returns-in-Ok-clause-end c = λ index at. none_at_end c.in-Ok.order index at

pub returns-in-Err-clause-content : goal.returns-in-Err-clause-content
returns-in-Err-clause-content c = λ bytes front. opens_not c.args.header.now bytes c.in-Err.fault c.in-Err.ensures front
