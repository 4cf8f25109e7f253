use Rattle.std.specs.List.{range_with_len}
use Rattle.std.proofs.Common.{◌≡◌, map}
use Rattle.net_core.specs.View.{statement_of}
use Rattle.control_net.specs.Trees.{move_lap}
use Rattle.control_net.proofs.statements.lap_moves.Given as goal

abbrev pub invariant-loop-k : goal.invariant-loop-k
invariant-loop-k g l = map statement_of l.all.items ≡ map (move_lap l.shape l.part) (range_with_len 0 l.k)
