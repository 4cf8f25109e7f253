use Rattle.std.proofs.Common.{◌∙◌, ◌++◌, ap, sym}
use Rattle.pcap_core.specs.declared.order.Order.TheVariants.{Little}
use Rattle.pcap_core.specs.Format.{record_bytes}
use Rattle.flow_demo.specs.Packets.{packet_from, record_of, state_before, state_behind}
use Rattle.flow_demo.proofs.Captures.{capture_bytes-more, state_before-more}
use Rattle.flow_demo.proofs.capture.capture_of.Goals as goal

pub loop-second-preserved : goal.loop-second-preserved
loop-second-preserved c =
    let before = c.loop-second.invariant in
    let i = c.loop-second.second in
    record {
      state = c.put_packet.ensures.state ∙ ap state_behind before.state ∙ sym (state_before-more c.args.seed i);
      bytes = c.in_ok-extend_from_slice-2.ensures.items
          ∙ ap (λ bs. c.loop-second.capture.items ++ bs) (c.deref.ensures.value ∙ c.in_ok-put_packet.ensures.record)
          ∙ ap (λ s. c.loop-second.capture.items ++ record_bytes Little (record_of (packet_from s i))) before.state
          ∙ ap (λ bs. bs ++ record_bytes Little (record_of (packet_from (state_before c.args.seed i) i))) before.bytes
          ∙ sym (capture_bytes-more c.args.seed i);
    }
