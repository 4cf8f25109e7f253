use Rattle.std.proofs.Common.{ℕ, max, sym, subst}
use Rattle.std.specs.Prelude.{Option}
use Rattle.operator_cells.specs.Making.{seen}
use Rattle.operator_cells.specs.Rising.{Rises}
use Rattle.edge_cells.specs.Leaving.{condition_row}
use Rattle.edge_cells.proofs.leaving.branch.Goals as goal

pub returns-in_ok-bit-in-Some-clause-rises : goal.returns-in_ok-bit-in-Some-clause-rises
returns-in_ok-bit-in-Some-clause-rises c =
    subst (λ (x : Option ℕ). Rises (seen c.args.cells.now.items) (seen c.edge.new.cells.items) c.in_ok-bit-in-Some.bit (λ row. max (row c.args.guard) (condition_row row x))) (sym c.in-Some.is) c.in_ok-bit-in-Some.ensures.rises
