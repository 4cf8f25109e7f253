use Rattle.std.proofs.Common.{◌≡◌, ◌+◌, ◌<◌, length, drop}
use Rattle.pcap_core.specs.Streaming.{ComesWith}
use Rattle.capture_run.specs.Captures.{packet_with}
use Rattle.capture_run.proofs.PassingLemmas.{tells_still, comes_whole}
use Rattle.capture_run.proofs.passing.read_record.Goals as goal

pub returns-in_ok-stamp-in-Some-clause-told : goal.returns-in_ok-stamp-in-Some-clause-told
returns-in_ok-stamp-in-Some-clause-told g c = λ content t a.
    let old = c.args.feed.now in
    let mid = c.read_head.new.feed in
    let new = c.read_body.new.feed in
    let order = c.args.stream.now.order in
    let h = c.in-Some.head in
    let stamp = c.in_ok-stamp-in-Some.stamp in
    let head : (mid.at ≡ old.at + 16) × ComesWith order c.args.index old.at h (drop old.at content) = rw c.in-Some.is at (c.in_ok-head.ensures.told content t a) in
    let some : 0 < h.length = (c.in_ok-head.ensures.length h c.in-Some.is).0 in
    let body = c.in_ok-stamp-in-Some.ensures.told content (tells_still _ _ _ _ c.read_head.ensures.kept t) (c.read_head.ensures.on content t a).ahead in
    let count = c.in_ok-stamp-in-Some.ensures.length in
    comes_whole order c.args.index content h (packet_with stamp new.given) old mid new head.0 count.1 some count.0 body.0 body.1 head.1
