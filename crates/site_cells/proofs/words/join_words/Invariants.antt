use Rattle.cell_core.specs.Rows.{greatest}
use Rattle.operator_cells.specs.Making.{seen}
use Rattle.operator_cells.specs.Rising.{RiseAll}
use Rattle.site_cells.proofs.Joining.{Joined}
use Rattle.site_cells.proofs.words.join_words.Given as goal

abbrev pub invariant-loop-j : goal.invariant-loop-j
invariant-loop-j l = Joined (seen l.initial.cells.items) (seen l.cells.items) l.bytes l.j l.words.items × RiseAll (seen l.initial.cells.items) (seen l.cells.items) l.words.items (λ row. greatest row l.bytes)
