use Rattle.std.proofs.Common.{refl, sym, ap, ◌∙◌, arith}
use Rattle.pcap_core.specs.Format.{Content}
use Rattle.pcap_core.specs.Next.{seen}
use Rattle.pcap_core.specs.Reading.{Coming}
use Rattle.pcap_core.proofs.OpenLemmas.{coming_none, coming_fault, coming_packet, packet_fits, packet_len}
use Rattle.pcap_core.proofs.capture.Capture.next.Goals as goal

pub overflow_add-self-in-Ok-Some : goal.overflow_add-self-in-Ok-Some
overflow_add-self-in-Ok-Some c =
    let s = c.self.inside in
    let fits = packet_fits s.order s.index s.at s.bytes.now (seen c.in-Ok-Some.record) _ c.self.invariant.0 (rw c.in-Ok-Some.field-0-is at c.in-Ok-Some.ensures) in
    omega (arith, fits, c.self.told)

pub invariant_of-self : goal.invariant_of-self
invariant_of-self c =
    let s = c.self.inside in
    let fits = packet_fits s.order s.index s.at s.bytes.now (seen c.in-Ok-Some.record) _ c.self.invariant.0 (rw c.in-Ok-Some.field-0-is at c.in-Ok-Some.ensures) in
    (fits, omega (arith, c.self.invariant))

pub returns-in-Ok-Some-clause-next : goal.returns-in-Ok-Some-clause-next
returns-in-Ok-Some-clause-next c =
    let s = c.self.inside in
    let coming = coming_packet s.order s.index s.at s.bytes.now (seen c.in-Ok-Some.record) (rw c.in-Ok-Some.field-0-is at c.in-Ok-Some.ensures) in
    (sym (ap (λ (d : Content). d.packets) c.self.view_is) ∙ ap (λ (m : Coming). m.0) coming, sym (ap (λ (m : Coming). m.1) coming) ∙ ap (λ (d : Content). d.fault) c.self.view_is, ap (λ (d : Content). d.magic) c.self.view_is)

pub returns-in-Ok-None-clause-next : goal.returns-in-Ok-None-clause-next
returns-in-Ok-None-clause-next c =
    let s = c.self.inside in
    let coming = coming_none s.order s.index s.at s.bytes.now (rw c.in-Ok-None.field-0-is at c.in-Ok-None.ensures) in
    (sym (ap (λ (d : Content). d.packets) c.self.view_is) ∙ ap (λ (m : Coming). m.0) coming, sym (ap (λ (d : Content). d.fault) c.self.view_is) ∙ ap (λ (m : Coming). m.1) coming, refl)

pub returns-in-Err-clause-next : goal.returns-in-Err-clause-next
returns-in-Err-clause-next c =
    let s = c.self.inside in
    let coming = coming_fault s.order s.index s.at s.bytes.now c.in-Err.error c.in-Err.ensures in
    (sym (ap (λ (d : Content). d.packets) c.self.view_is) ∙ ap (λ (m : Coming). m.0) coming, sym (ap (λ (d : Content). d.fault) c.self.view_is) ∙ ap (λ (m : Coming). m.1) coming, refl)

pub returns-in-Ok-Some-clause-frame : goal.returns-in-Ok-Some-clause-frame
returns-in-Ok-Some-clause-frame c =
    let s = c.self.inside in
    packet_len s.order s.index s.at s.bytes.now (seen c.in-Ok-Some.record) _ (rw c.in-Ok-Some.field-0-is at c.in-Ok-Some.ensures)
