use Rattle.std.proofs.Common.{List, arith, subst}
use Rattle.std.proofs.lemmas.Bool.Decides.{nat_tests}
use Rattle.cell_core.specs.Rows.{greatest}
use Rattle.operator_cells.specs.declared.joining.Arm.{Arm}
use Rattle.operator_cells.specs.Making.{seen, Makes}
use Rattle.operator_cells.specs.Joining.{chosen, flat}
use Rattle.operator_cells.specs.Rising.{Rises}
use Rattle.predicate_core.proofs.Closed.{outputs_chosen, outputs_empty}
use Rattle.predicate_core.proofs.closing.whole_output.Goals as goal

pub returns : goal.returns
returns c = outputs_chosen c.choice_is_right.ensures _ _ _ _ _ _ _ c.in_ok-arms.ensures
    (subst (λ (xs : List Arm). Makes (seen c.outputs.new.cells.items) (seen c.choose.new.cells.items) c.in_ok-c-2.c (λ packet v. chosen v xs)) c.deref.ensures.value c.in_ok-c-2.ensures.makes)
    (subst (λ (xs : List Arm). Rises (seen c.outputs.new.cells.items) (seen c.choose.new.cells.items) c.in_ok-c-2.c (λ row. greatest row (flat xs))) c.deref.ensures.value c.in_ok-c-2.ensures.rises)

pub returns-then-is_empty : goal.returns-then-is_empty
returns-then-is_empty c = outputs_empty _ _ _ _ _ _ _ _ (grind (arith, nat_tests, c.is_empty.ensures, c.if-is_empty.true)) c.in_ok-arms.ensures c.in_ok-c.ensures.makes c.in_ok-c.ensures.rises
