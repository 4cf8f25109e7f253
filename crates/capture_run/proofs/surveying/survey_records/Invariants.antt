use Rattle.std.proofs.Common.{◌≡◌, ◌≤◌, ◌-◌, ℕ, List, []}
use Rattle.capture_run.specs.States.{state_of, Changes}
use Rattle.capture_run.specs.Passing.{Tells, IsBehindHeader}
use Rattle.capture_run.specs.declared.records.TheConstants.{CAPTURE_LIMIT}
use Rattle.capture_run.proofs.SurveyLemmas.{Follows}
use Rattle.capture_run.proofs.surveying.survey_records.Given as goal

abbrev pub invariant-loop-count : goal.invariant-loop-count
invariant-loop-count g l = record {
  limit : l.feed.limit ≡ CAPTURE_LIMIT;
  within : l.feed.at ≤ CAPTURE_LIMIT;
  count : l.count ≤ l.feed.at;
  follows : (content : List ℕ) → Tells (state_of g.S.Shelf l.fn.shelf) l.name content → IsBehindHeader l.stream content l.fn.feed → Follows l.stream content l.count l.feed;
  kept : Changes [] (state_of g.S.Shelf l.fn.shelf) (state_of g.S.Shelf l.shelf);
}

abbrev pub decreases-loop-count : goal.decreases-loop-count
decreases-loop-count g l = CAPTURE_LIMIT - l.feed.at
