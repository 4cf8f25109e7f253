use Rattle.std.proofs.Common.{ap, subst}
use Rattle.pcap_core.specs.Streaming.{Opened, Begins}
use Rattle.pcap_core.proofs.StreamLemmas.{begins}
use Rattle.pcap_core.proofs.stream.Stream.head.Goals as goal

pub returns-clause-comes : goal.returns-clause-comes
returns-clause-comes c = λ rest front left.
    let s = c.self.inside in
    subst (λ order. Begins c.head_at.result order c.args.index c.args.at rest) (ap (λ (v : Opened). v.order) c.self.view_is) (begins s.order c.args.index c.args.at c.args.numbers.now rest c.head_at.result c.head_at.ensures.head front left)
