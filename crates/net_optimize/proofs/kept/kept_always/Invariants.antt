use Rattle.std.proofs.Common.{◌≡◌, ◌++◌, map, drop}
use Rattle.net_core.specs.View.{statement_of}
use Rattle.net_optimize.specs.Renumber.{numbers_of, renumber_always}
use Rattle.net_optimize.proofs.kept.kept_always.Given as goal

abbrev pub invariant-loop-stmt : goal.invariant-loop-stmt
invariant-loop-stmt l =
    map statement_of l.all.items ++ renumber_always (numbers_of l.numbers) (map statement_of (drop l.stmt-index l.always))
    ≡ renumber_always (numbers_of l.numbers) (map statement_of l.always)
