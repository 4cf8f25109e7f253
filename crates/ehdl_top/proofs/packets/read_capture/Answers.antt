use Rattle.std.proofs.Common.{[], ◌∷◌, ◌++◌, ap, sym, ◌∙◌, append_assoc}
use Rattle.pcap_core.specs.Next.{seen}
use Rattle.pcap_core.specs.Time.{timed_of}
use Rattle.ehdl_top.proofs.CaptureLemmas.{next_some}
use Rattle.ehdl_top.proofs.packets.read_capture.Goals as goal

pub loop-packet-preserved : goal.loop-packet-preserved
loop-packet-preserved c =
    let i = c.loop-packet.invariant.packets in
    let n = next_some c.in-Ok-Some.field-0 c.in-Ok-Some.packet c.loop-packet.capture c.next.new.self c.in-Ok-Some.field-0-is c.in-Ok-Some.ensures.next in
    let p = c.in_ok-push-in-Ok-Some.ensures i.0 (seen c.in-Ok-Some.packet) (c.in_ok-timed-in-Ok-Some.ensures.timed ∙ ap (λ m. timed_of m (seen c.in-Ok-Some.packet)) (n.2 ∙ sym c.loop-packet.invariant.same)) i.1 in
    record {
      packets = (i.0 ++ seen c.in-Ok-Some.packet ∷ [], p.1, append_assoc i.0 (seen c.in-Ok-Some.packet ∷ []) c.next.new.self.packets ∙ ap (λ t. i.0 ++ t) (sym n.0) ∙ i.2);
      same = p.0 ∙ c.loop-packet.invariant.same ∙ sym n.2;
      magic = p.0 ∙ c.loop-packet.invariant.magic;
      fault = n.1 ∙ c.loop-packet.invariant.fault;
    }
