use Rattle.std.proofs.Common.{sym, arith}
use Rattle.pcap_core.proofs.Heads.{header_of-tested, header_of-fault}
use Rattle.pcap_core.proofs.ContentLaws.{content_of-is}
use Rattle.pcap_core.proofs.OpenLemmas.{opened, not_opened}
use Rattle.pcap_core.proofs.capture.Capture.open.Goals as goal

pub u32_at-requires : goal.u32_at-requires
u32_at-requires c =
    let long = (header_of-tested c.args.bytes.now c.in-Ok.order (sym c.in-Ok.ensures)).long in
    omega (arith, long)

pub invariant_of-result : goal.invariant_of-result
invariant_of-result c = ((header_of-tested c.args.bytes.now c.in-Ok.order (sym c.in-Ok.ensures)).long, omega arith)

pub returns-in-Ok-clause-content : goal.returns-in-Ok-clause-content
returns-in-Ok-clause-content c = opened c.args.bytes.now c.in-Ok.order c.u32_at.result c.in-Ok.ensures c.u32_at.ensures

pub returns-in-Ok-clause-format : goal.returns-in-Ok-clause-format
returns-in-Ok-clause-format c =
    content_of-is c.args.bytes.now _ (λ i. omega (arith, c.type_inv.bytes i)) (sym (opened c.args.bytes.now c.in-Ok.order c.u32_at.result c.in-Ok.ensures c.u32_at.ensures))

pub returns-in-Err-clause-content : goal.returns-in-Err-clause-content
returns-in-Err-clause-content c = not_opened c.args.bytes.now c.in-Err.fault c.in-Err.ensures

pub returns-in-Err-clause-format : goal.returns-in-Err-clause-format
returns-in-Err-clause-format c = header_of-fault c.args.bytes.now c.in-Err.fault (sym c.in-Err.ensures)
