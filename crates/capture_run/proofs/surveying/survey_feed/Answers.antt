use Rattle.std.proofs.Common.{◌≡◌, ◌+◌, ℕ, length, take, drop, Err, ap, ◌∙◌, arith}
use Rattle.capture_run.proofs.PassingLemmas.{tells_still}
use Rattle.capture_run.proofs.SurveyLemmas.{by_name, not_there, nothing_ahead, nothing_passed, behind_header, fault_out, header_fault}
use Rattle.capture_run.proofs.surveying.survey_feed.Goals as goal

pub returns-in-Ok-clause-told : goal.returns-in-Ok-clause-told
returns-in-Ok-clause-told g c = λ told.
    let old = c.args.feed.now in
    let new = c.read_on.new.feed in
    let first = c.requires.begins.0 in
    by_name c.survey_records.result (g.S.Shelf.held c.args.shelf.now c.args.name.now)
    (λ none. absurd (not_there c.read_on.result _ c.in_ok-read_on.was (c.read_on.ensures.absent told none first c.requires.begins.1 (omega arith))))
    (λ content there.
    let ahead = nothing_ahead content old first c.requires.begins.1 in
    let read : new.given ≡ take 24 (drop old.at content) = c.in_ok-read_on.ensures.told content (record { tells = told; there = there }) ahead in
    let on = c.read_on.ensures.on content (record { tells = told; there = there }) ahead in
    let front : c.given.result.now ≡ take 24 content = c.given.ensures ∙ read ∙ ap (λ (k : ℕ). take 24 (drop k content)) first in
    let at : new.at ≡ old.at + length new.given = omega (arith, c.in_ok-read_on.ensures.given.count, c.in_ok-read_on.ensures.given.at) in
    c.survey_records.ensures.told content (tells_still _ _ _ _ c.read_on.ensures.kept (record { tells = told; there = there })) (behind_header c.in-Ok.stream content old new first read at on (c.in-Ok.ensures.content content front)))

pub returns-in-Err-clause-told : goal.returns-in-Err-clause-told
returns-in-Err-clause-told g c = λ told.
    let old = c.args.feed.now in
    let new = c.read_on.new.feed in
    let first = c.requires.begins.0 in
    by_name (Err c.read_out.result) (g.S.Shelf.held c.args.shelf.now c.args.name.now)
    (λ none. absurd (not_there c.read_on.result _ c.in_ok-read_on.was (c.read_on.ensures.absent told none first c.requires.begins.1 (omega arith))))
    (λ content there.
    let ahead = nothing_ahead content old first c.requires.begins.1 in
    let read : new.given ≡ take 24 (drop old.at content) = c.in_ok-read_on.ensures.told content (record { tells = told; there = there }) ahead in
    let on = c.read_on.ensures.on content (record { tells = told; there = there }) ahead in
    let front : c.given.result.now ≡ take 24 content = c.given.ensures ∙ read ∙ ap (λ (k : ℕ). take 24 (drop k content)) first in
    let out = c.read_out.ensures.told content (tells_still _ _ _ _ c.read_on.ensures.kept (record { tells = told; there = there })) on.ahead (on.bytes (nothing_passed content old first)) in
    fault_out c.read_out.result c.in-Err.fault content out (λ o. header_fault content c.in-Err.fault (c.in-Err.ensures.content content front) o))
