use Rattle.std.proofs.Common.{◌≡◌, ◌≤◌, ◌-◌, ℕ, List, [], Some}
use Rattle.shelf_core.specs.Feeding.{IsAheadOf}
use Rattle.capture_run.specs.States.{state_of, Changes}
use Rattle.capture_run.specs.Passing.{Tells, GoesOn}
use Rattle.capture_run.specs.declared.records.TheConstants.{CAPTURE_LIMIT}
use Rattle.capture_run.proofs.surveying.read_out.Given as goal

abbrev pub invariant-loop-count : goal.invariant-loop-count
invariant-loop-count g l = record {
  limit : l.feed.limit ≡ CAPTURE_LIMIT;
  within : l.feed.at ≤ CAPTURE_LIMIT;
  on : (content : List ℕ) → Tells (state_of g.S.Shelf l.fn.shelf) l.name content → IsAheadOf (Some content) l.fn.feed → GoesOn content l.fn.feed l.feed;
  kept : Changes [] (state_of g.S.Shelf l.fn.shelf) (state_of g.S.Shelf l.shelf);
}

abbrev pub decreases-loop-count : goal.decreases-loop-count
decreases-loop-count g l = CAPTURE_LIMIT - l.feed.at
