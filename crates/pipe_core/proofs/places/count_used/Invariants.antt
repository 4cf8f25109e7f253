use Rattle.std.proofs.Common.{◌≡◌, ◌+◌, ◌≤◌, drop, map as map_list}
use Rattle.pipe_core.specs.Machine.{inside}
use Rattle.pipe_core.specs.StageMemory.{in_place}
use Rattle.pipe_core.proofs.places.count_used.Given as goal

abbrev pub invariant-loop-place : goal.invariant-loop-place
invariant-loop-place l =
    (l.count + inside (drop l.place-index (map_list in_place l.places)) ≡ inside (map_list in_place l.places)) × (l.count ≤ l.place-index)
