use Rattle.std.proofs.Common.{◌≡◌, suc, length, None, replicate, map as map_list}
use Rattle.hazard_core.specs.cell_core.View.{program_of}
use Rattle.pipe_core.specs.StageMemory.{in_place, HaveStageMemory}
use Rattle.pipe_core.proofs.places.empty_places.Given as goal

abbrev pub invariant-loop-k : goal.invariant-loop-k
invariant-loop-k l =
    (map_list in_place l.places.items ≡ replicate (suc l.k) None) × HaveStageMemory (program_of l.planned.program.now) l.places.items × (length l.places.items ≡ suc l.k)
