use Rattle.std.proofs.Common.{◌≡◌, ◌++◌, drop, map as map_list}
use Rattle.cell_core.specs.Cells.{value_in}
use Rattle.cell_core.specs.Sites.{spelled}
use Rattle.cell_core.proofs.evaluation.spell.Given as goal

abbrev pub invariant-loop-word : goal.invariant-loop-word
invariant-loop-word l = l.bytes.items ++ spelled (map_list (value_in l.values) (drop l.word-index l.words)) ≡ spelled (map_list (value_in l.values) l.words)
