use Rattle.std.proofs.Common.{◌≡◌, ◌+◌, ◌<◌, [], length, take, drop, refl, arith}
use Rattle.capture_run.proofs.StateLaws.{changes_then}
use Rattle.capture_run.proofs.PassingLemmas.{tells_still, goes_on}
use Rattle.capture_run.proofs.SurveyLemmas.{read_to_end}
use Rattle.capture_run.proofs.surveying.read_out.Goals as goal

pub loop-count-preserved : goal.loop-count-preserved
loop-count-preserved g c = record {
  limit = c.read_on.ensures.limit;
  within = c.read_on.ensures.within;
  on = λ content t a.
      let was = c.loop-count.invariant.on content t a in
      goes_on content _ _ _ was (c.read_on.ensures.on content (tells_still _ _ _ _ c.loop-count.invariant.kept t) was.ahead);
  kept = changes_then [] _ _ _ c.loop-count.invariant.kept c.read_on.ensures.kept;
}

pub returns-then-count-clause-told : goal.returns-then-count-clause-told
returns-then-count-clause-told g c = λ content t a passed.
    let old = c.loop-count.feed in
    let new = c.read_on.new.feed in
    let was = c.loop-count.invariant.on content t a in
    let now = tells_still _ _ _ _ c.loop-count.invariant.kept t in
    let on = c.read_on.ensures.on content now was.ahead in
    let given : new.given ≡ take 65536 (drop old.at content) = c.in-Ok.ensures.told content now was.ahead in
    let count = c.in-Ok.ensures.given in
    let few : length new.given < 65536 = omega (arith, count.count) in
    let at : new.at ≡ old.at + length new.given = omega (arith, count.count, count.at) in
    (refl, read_to_end content 65536 old new given few at c.read_on.ensures.within (on.bytes (was.bytes passed)))
