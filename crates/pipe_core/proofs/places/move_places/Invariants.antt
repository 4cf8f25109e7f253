use Rattle.std.proofs.Common.{◌≡◌, length, drop, map as map_list}
use Rattle.hazard_core.specs.cell_core.View.{program_of}
use Rattle.pipe_core.specs.Machine.{inside}
use Rattle.pipe_core.specs.Planned.{build_of, IsPacketOf}
use Rattle.pipe_core.specs.StageMemory.{in_place, HaveStageMemory}
use Rattle.pipe_core.proofs.Moving.{moved_on}
use Rattle.pipe_core.proofs.places.move_places.Given as goal

abbrev pub invariant-loop-k : goal.invariant-loop-k
invariant-loop-k l =
    record {
      count : length l.places.items ≡ length l.fn.places.items;
      older : l.older ≡ inside (drop l.k (map_list in_place l.places.items));
      places : moved_on (build_of l.planned) l.tables l.frames l.k (in_place l.moving) (map_list in_place l.places.items) ≡ moved_on (build_of l.planned) l.tables l.frames 0 (in_place l.fn.moving) (map_list in_place l.fn.places.items);
      moving : IsPacketOf (program_of l.planned.program.now) l.moving.packet;
      of : HaveStageMemory (program_of l.planned.program.now) l.places.items;
    }
