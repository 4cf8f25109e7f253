use Rattle.std.proofs.Common.{◌≡◌, length, map as map_list}
use Rattle.hazard_core.specs.cell_core.View.{program_of}
use Rattle.pipe_core.specs.Planned.{build_of}
use Rattle.pipe_core.specs.StageMemory.{in_place, HaveStageMemory}
use Rattle.pipe_core.proofs.Moving.{marked_by_on}
use Rattle.pipe_core.proofs.places.mark_places.Given as goal

abbrev pub invariant-loop-k : goal.invariant-loop-k
invariant-loop-k l =
    record {
      count : length l.places.items ≡ length l.fn.places.items;
      places : marked_by_on l.to (build_of l.planned) l.tables l.change l.k (map_list in_place l.places.items) ≡ marked_by_on l.to (build_of l.planned) l.tables l.change 0 (map_list in_place l.fn.places.items);
      of : HaveStageMemory (program_of l.planned.program.now) l.places.items;
    }
