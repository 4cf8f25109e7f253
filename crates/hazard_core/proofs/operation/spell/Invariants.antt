use Rattle.std.proofs.Common.{◌≡◌, ◌*◌, take, length, map as map_list}
use Rattle.cell_core.specs.Sites.{spelled}
use Rattle.hazard_core.specs.StageValues.{stage_value}
use Rattle.hazard_core.proofs.operation.spell.Given as goal

abbrev pub invariant-loop-i : goal.invariant-loop-i
invariant-loop-i l = (length l.bytes ≡ 64) × (take (8 * l.i) l.bytes ≡ take (8 * l.i) (spelled (map_list (stage_value l.held) l.words)))
