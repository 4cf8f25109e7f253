use Rattle.std.proofs.Common.{◌≡◌, ◌++◌, take, drop}
use Rattle.kind_core.specs.Joins.{join_list}
use Rattle.kind_core.proofs.joins.join_list.Given as goal

abbrev pub invariant-loop-i : goal.invariant-loop-i
invariant-loop-i l = take l.i l.a ++ join_list (drop l.i l.a) (drop l.i l.b) ≡ join_list l.initial.a l.b
