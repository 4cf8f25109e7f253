use Rattle.std.proofs.Common.{sym, ◌∙◌, ap, arith}
use Rattle.kind_core.specs.declared.number.Number.{Number}
use Rattle.operator_cells.specs.HeldCells.RegisterCells.{pointed}
use Rattle.operator_cells.specs.HeldCells.Rows.{number_row}
use Rattle.operator_cells.proofs.RisingLaws.{rises_by}
use Rattle.edge_cells.proofs.Tested.{null_left, null_right, both_numbers, tests_numbers_of, tests_places}
use Rattle.edge_cells.proofs.TestRows.{found_row, number_row_is}
use Rattle.edge_cells.proofs.testing.condition.Goals as goal

pub returns-in-Some-clause-tests : goal.returns-in-Some-clause-tests
returns-in-Some-clause-tests c = null_left _ _ _ _ _ _ _ _ _ _ _ (sym c.found_of.ensures ∙ c.in-Some.is) c.requires.open c.in_ok-c.ensures.makes

pub returns-in-Some-found_of-clause-tests : goal.returns-in-Some-found_of-clause-tests
returns-in-Some-found_of-clause-tests c = null_right _ _ _ _ _ _ _ _ _ _ _ (sym c.found_of-2.ensures ∙ c.in-Some-found_of.is) c.requires.open c.in_ok-c-2.ensures.makes

pub returns-then-is_number-clause-tests : goal.returns-then-is_number-clause-tests
returns-then-is_number-clause-tests c = tests_numbers_of _ _ _ _ _ _ _ _ _ _ _ _ c.number_in.ensures c.number_in-then-is_number.ensures
    (both_numbers _ _ _ _ _ _ (sym c.is_number.ensures ∙ c.if-is_number.true) (sym c.found_of-2.ensures ∙ c.in_default-found_of.is) c.requires.open) c.in_ok-c-3.ensures.makes

pub returns-clause-tests : goal.returns-clause-tests
returns-clause-tests c = tests_places _ _ _ _ _ _ _ _ _ _ _ c.requires.left c.requires.right (sym c.found_of.ensures ∙ c.in_default.is) (sym c.found_of-2.ensures ∙ c.in_default-found_of.is) (sym c.is_number.ensures ∙ c.if-is_number.false) c.requires.open c.in_ok-c-4.ensures.makes

pub returns-in-Some-clause-rises : goal.returns-in-Some-clause-rises
returns-in-Some-clause-rises c = rises_by c.in_ok-c.ensures.rises (λ row. omega (arith, found_row row _ _ _ _ (sym c.found_of.ensures ∙ c.in-Some.is)))

pub returns-in-Some-found_of-clause-rises : goal.returns-in-Some-found_of-clause-rises
returns-in-Some-found_of-clause-rises c = rises_by c.in_ok-c-2.ensures.rises (λ row. omega (arith, found_row row _ _ _ _ (sym c.found_of-2.ensures ∙ c.in-Some-found_of.is)))

pub returns-then-is_number-clause-rises : goal.returns-then-is_number-clause-rises
returns-then-is_number-clause-rises c =
    let both = both_numbers _ _ _ _ _ c.args.q (sym c.is_number.ensures ∙ c.if-is_number.true) (sym c.found_of-2.ensures ∙ c.in_default-found_of.is) c.requires.open in
    rises_by c.in_ok-c-3.ensures.rises (λ row. omega (
      arith,
      ap (λ (n : Number). number_row row n c.args.p) c.number_in.ensures,
      number_row_is row (pointed c.args.pointers.now) c.args.a c.args.p both.0,
      ap (λ (n : Number). number_row row n c.args.q) c.number_in-then-is_number.ensures,
      number_row_is row (pointed c.args.pointers.now) c.args.b c.args.q both.1,
    ))

pub returns-clause-rises : goal.returns-clause-rises
returns-clause-rises c = rises_by c.in_ok-c-4.ensures.rises (λ row. omega arith)
