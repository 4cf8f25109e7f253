use Rattle.std.proofs.Common.{◌≡◌, ◌<◌, ◌≤◌, ℕ, [], length, take, drop, Some, ap, ◌∙◌, subst, arith}
use Rattle.pcap_core.specs.Reading.{records_at}
use Rattle.pcap_core.specs.Streaming.{ComesWith}
use Rattle.capture_run.proofs.PassingLemmas.{numbers_long, some_left}
use Rattle.capture_run.proofs.passing.read_head.Goals as goal

pub returns-in-Ok-clause-told : goal.returns-in-Ok-clause-told
returns-in-Ok-clause-told g c = λ content t a.
    let old = c.args.feed.now in
    let numbers = c.given.result.now in
    let order = c.args.stream.now.order in
    let rest = drop old.at content in
    let given : numbers ≡ take 16 rest = c.given.ensures ∙ c.in_ok-count.ensures.told content t a in
    let many : length numbers ≡ c.in_ok-count.count = ap length c.given.ensures ∙ c.in_ok-count.ensures.given.count in
    let long : 16 ≤ length numbers = numbers_long order c.args.index c.at-at.result numbers c.in-Ok.head c.in-Ok.ensures.head in
    let left : 0 < length rest = some_left content numbers old.at 16 given (omega (arith, long)) in
    let comes : ComesWith order c.args.index c.at-at.result c.in-Ok.head rest = c.in-Ok.ensures.comes rest given left in
    (omega (arith, long, many, c.in_ok-count.ensures.given.most, c.in_ok-count.ensures.given.at), subst (λ (k : ℕ). ComesWith order c.args.index k c.in-Ok.head rest) c.at-at.ensures comes)

pub returns-in-Err-clause-told : goal.returns-in-Err-clause-told
returns-in-Err-clause-told g c = λ content t a.
    let old = c.args.feed.now in
    let numbers = c.given.result.now in
    let order = c.args.stream.now.order in
    let rest = drop old.at content in
    let given : numbers ≡ take 16 rest = c.given.ensures ∙ c.in_ok-count.ensures.told content t a in
    let many : length numbers ≡ c.in_ok-count.count = ap length c.given.ensures ∙ c.in_ok-count.ensures.given.count in
    let some : 0 < length numbers = omega (arith, many, c.if-count-eq0.false) in
    let left : 0 < length rest = some_left content numbers old.at 16 given some in
    let comes : records_at order c.args.index c.at-at.result rest ≡ ([], Some c.in-Err.fault) = c.in-Err.ensures.comes rest given left in
    subst (λ (k : ℕ). records_at order c.args.index k rest ≡ ([], Some c.in-Err.fault)) c.at-at.ensures comes
