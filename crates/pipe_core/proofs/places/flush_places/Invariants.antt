use Rattle.std.proofs.Common.{◌≡◌, ◌≤◌, length, drop, map as map_list}
use Rattle.hazard_core.specs.cell_core.View.{program_of}
use Rattle.pipe_core.specs.Machine.{some_send}
use Rattle.pipe_core.specs.Planned.{build_of}
use Rattle.pipe_core.specs.StageMemory.{in_place, HaveStageMemory}
use Rattle.pipe_core.proofs.Moving.{flushed_on}
use Rattle.pipe_core.proofs.places.flush_places.Given as goal

abbrev pub invariant-loop-k : goal.invariant-loop-k
invariant-loop-k l =
    let old = map_list in_place l.fn.places.items in
    record {
      within : l.k ≤ length l.places.items;
      count : length l.places.items ≡ length l.fn.places.items;
      places : map_list in_place l.places.items ≡ flushed_on (build_of l.planned) l.k old;
      back : l.back ≡ some_send (build_of l.planned) l.k (drop l.k old);
      of : HaveStageMemory (program_of l.planned.program.now) l.places.items;
    }

abbrev pub decreases-loop-k : goal.decreases-loop-k
decreases-loop-k l = l.k
