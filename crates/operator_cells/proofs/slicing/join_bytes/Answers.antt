use Rattle.std.proofs.Common.{reverse, arith, ap, ◌∙◌}
use Rattle.operator_cells.proofs.Growing.{grown_none}
use Rattle.operator_cells.proofs.Edges.{makes_if}
use Rattle.operator_cells.proofs.Bytes.{bytes_joined}
use Rattle.cell_core.specs.Rows.{greatest}
use Rattle.operator_cells.proofs.RisingLaws.{greatest_reverse, rises_by}
use Rattle.operator_cells.proofs.slicing.join_bytes.Goals as goal

pub returns-clause-makes : goal.returns-clause-makes
returns-clause-makes c = makes_if _ _ _ _ _ _ _ (grown_none _) c.in_ok-c.ensures.makes
    (λ packet v r p. bytes_joined v c.args.bytes.now c.deref.result.now _ (c.deref.ensures.value ∙ c.reverse.ensures.items ∙ ap reverse c.in_ok-ins.ensures.items) (omega arith) c.requires.most p)

pub returns-clause-rises : goal.returns-clause-rises
returns-clause-rises c =
    let is = c.deref.ensures.value ∙ c.reverse.ensures.items ∙ ap reverse c.in_ok-ins.ensures.items in
    rises_by c.in_ok-c.ensures.rises (λ row. omega (arith, ap (greatest row) is, greatest_reverse row c.args.bytes.now))
