use Rattle.std.proofs.Common.{◌≡◌, ℕ, ◌<◌, length, get_or}
use Rattle.pipe_design.specs.declared.map_parts.committing.MapCommits.{MapCommits}
use Rattle.pipe_design.specs.Parts.{IsMapCommits}
use Rattle.pipe_design.proofs.parts.commits_of.Given as goal

abbrev pub invariant-loop-m : goal.invariant-loop-m
invariant-loop-m l = record {
  count : length l.all.items ≡ l.m;
  each : (m : ℕ) (on : MapCommits) → m < l.m → IsMapCommits l.action m (get_or l.all.items m on);
}
