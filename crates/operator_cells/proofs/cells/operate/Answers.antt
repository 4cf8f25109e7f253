use Rattle.std.proofs.Common.{◌≡◌, sym, ◌∙◌, false, true}
use Rattle.operator_cells.proofs.Growing.{added_makes}
use Rattle.operator_cells.proofs.RisingLaws.{added_rises}
use Rattle.operator_cells.proofs.cells.operate.Goals as goal

pub returns-clause-makes : goal.returns-clause-makes
returns-clause-makes c = added_makes _ _ _ _ c.in_ok-c.ensures (record {
  earlier = c.requires.earlier;
  enough = c.requires.enough;
  inputs = c.requires.inputs;
  alone = c.requires.alone;
  in_range = c.requires.in_range;
  width = c.requires.width;
  from = c.requires.from;
  divisor = λ formed d. let e : true ≡ false = sym d ∙ c.requires.undivided in absurd cc;
  later = λ d. let e : true ≡ false = sym d ∙ c.requires.undivided in absurd cc;
}) c.requires.plain

pub returns-clause-rises : goal.returns-clause-rises
returns-clause-rises c = added_rises _ _ _ _ c.in_ok-c.ensures
