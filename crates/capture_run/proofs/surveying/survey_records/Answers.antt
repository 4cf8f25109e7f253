use Rattle.std.proofs.Common.{◌≤◌, [], length, arith}
use Rattle.capture_run.proofs.StateLaws.{changes_then}
use Rattle.capture_run.proofs.PassingLemmas.{tells_still}
use Rattle.capture_run.proofs.SurveyLemmas.{follows_more, surveyed, fault_out, record_fault}
use Rattle.capture_run.proofs.surveying.survey_records.Goals as goal

pub loop-count-preserved : goal.loop-count-preserved
loop-count-preserved g c = record {
  limit = c.read_record.ensures.limit;
  within = c.read_record.ensures.within;
  count = let length = rw c.in-Ok-Some.field-0-is at c.in-Ok-Some.ensures.length in omega (arith, length.1, c.loop-count.invariant.count);
  follows = λ content t b.
      let was = c.loop-count.invariant.follows content t b in
      let now = tells_still _ _ _ _ c.loop-count.invariant.kept t in
      let on = c.read_record.ensures.on content now was.ahead in
      let gives = rw c.in-Ok-Some.field-0-is at (c.in-Ok-Some.ensures.told content now was.ahead) in
      follows_more _ content c.loop-count.count _ _ _ was on gives;
  kept = changes_then [] _ _ _ c.loop-count.invariant.kept c.read_record.ensures.kept;
}

pub returns-in-Ok-None-clause-told : goal.returns-in-Ok-None-clause-told
returns-in-Ok-None-clause-told g c = λ content t b.
    let was = c.loop-count.invariant.follows content t b in
    let now = tells_still _ _ _ _ c.loop-count.invariant.kept t in
    let all : length content ≤ c.loop-count.feed.at = rw c.in-Ok-None.field-0-is at (c.in-Ok-None.ensures.told content now was.ahead) in
    surveyed _ content c.loop-count.count _ _ b all c.loop-count.invariant.within was

pub returns-in-Err-Fault-clause-told : goal.returns-in-Err-Fault-clause-told
returns-in-Err-Fault-clause-told g c = λ content t b.
    let was = c.loop-count.invariant.follows content t b in
    let now = tells_still _ _ _ _ c.loop-count.invariant.kept t in
    let on = c.read_record.ensures.on content now was.ahead in
    let gives = rw c.in-Err-Fault.field-0-is at (c.in-Err-Fault.ensures.told content now was.ahead) in
    let out = rw c.in-Err-Fault.field-0-is at (c.read_out.ensures.told content (tells_still _ _ _ _ c.read_record.ensures.kept now) on.ahead (on.bytes was.passed)) in
    fault_out c.read_out.result c.in-Err-Fault.fault content out (λ o. record_fault _ content c.loop-count.count _ _ c.in-Err-Fault.fault b was gives o)
