use Rattle.std.proofs.Common.{◌≡◌, ◌<◌, [], length, refl, false, true, arith}
use Rattle.std.proofs.lemmas.List.Elements.{All-nil, All-cons}
use Rattle.operator_cells.specs.Making.{seen}
use Rattle.operator_cells.proofs.Growing.{added_makes}
use Rattle.operator_cells.proofs.RisingLaws.{added_rises, rises_by}
use Rattle.operator_cells.proofs.cells.copy_bit.Goals as goal

pub returns-clause-makes : goal.returns-clause-makes
returns-clause-makes c = added_makes _ _ _ _ c.in_ok-c.ensures (record {
  earlier = All-cons (λ i. i < length (seen c.args.cells.now.items)) c.args.a [] c.requires (All-nil (λ i. i < length (seen c.args.cells.now.items)));
  enough = omega arith;
  inputs = tt;
  alone = tt;
  in_range = tt;
  width = omega arith;
  from = omega arith;
  divisor = λ formed d. let e : false ≡ true = d in absurd cc;
  later = λ d. let e : false ≡ true = d in absurd cc;
}) refl

pub returns-clause-new : goal.returns-clause-new
returns-clause-new c = c.in_ok-c.ensures.at

pub returns-clause-rises : goal.returns-clause-rises
returns-clause-rises c = rises_by (added_rises _ _ _ _ c.in_ok-c.ensures) (λ row. omega arith)
