use Rattle.std.proofs.Common.{ℕ, ◌*◌, ◌∙◌, ap, arith}
use Rattle.cell_core.specs.Cells.{bits_from}
use Rattle.operator_cells.proofs.Growing.{grown_none, makes_after}
use Rattle.operator_cells.proofs.Spread.{part_is}
use Rattle.operator_cells.proofs.RisingLaws.{rises_by}
use Rattle.operator_cells.proofs.spreading.part.Goals as goal

pub returns-clause-makes : goal.returns-clause-makes
returns-clause-makes c = makes_after _ _ _ _ _ _ (grown_none _) c.in_ok-c.ensures.makes
    (λ packet v r. ap (λ (k : ℕ). bits_from (v c.args.a) (8 * c.args.at) (8 * k)) c.bytes_in.ensures.value ∙ part_is c.args.size c.args.at (v c.args.a) c.requires.inside)

pub returns-clause-rises : goal.returns-clause-rises
returns-clause-rises c = rises_by c.in_ok-c.ensures.rises (λ row. omega arith)
