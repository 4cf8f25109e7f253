use Rattle.std.proofs.Common.{List, refl, sym, ◌∙◌, ap, subst}
use Rattle.cell_core.specs.Rows.{greatest}
use Rattle.operator_cells.specs.declared.joining.Arm.{Arm}
use Rattle.operator_cells.specs.Making.{seen, Makes}
use Rattle.operator_cells.specs.Joining.{chosen, flat, AreThere}
use Rattle.operator_cells.specs.Rising.{Rises}
use Rattle.edge_cells.specs.Meeting.{number_in}
use Rattle.edge_cells.proofs.Choices.{no_arms, number_same, arms_more, arms_there, arms_all, picks_chosen}
use Rattle.edge_cells.proofs.ChoiceRows.{no_arms_to, arms_to_more, choice_rises, number_low}
use Rattle.edge_cells.proofs.meeting.meet_numbers.Goals as goal

pub loop-way-init : goal.loop-way-init
loop-way-init c = (no_arms _ _ _ _ c.new-arms.ensures.items, no_arms_to _ _ _ _)

pub loop-way-preserved : goal.loop-way-preserved
loop-way-preserved c = (
  arms_more _ _ _ _ _ _ _ _ _ _ c.loop-way.invariant.0 c.in_ok-cell.ensures.makes.grows c.in_ok-push.ensures.items c.loop-way-test.true (record {
    bit = refl;
    there = c.in_ok-cell.ensures.makes.there;
    value = λ packet v r. c.in_ok-cell.ensures.makes.value packet v r ∙ number_same v c.args.part _ _ _ _ (c.number_in-number.ensures ∙ ap number_in c.kind_at.ensures) c.held_at.ensures;
  }),
  arms_to_more _ _ c.loop-way.invariant.1 c.in_ok-cell.ensures.rises (λ row. number_low row c.args.part _ _ _ _ (c.number_in-number.ensures ∙ ap number_in c.kind_at.ensures) c.held_at.ensures)
      c.in_ok-push.ensures.items c.loop-way.invariant.0.count c.loop-way-test.true,
)

pub choose-requires-clause-there : goal.choose-requires-clause-there
choose-requires-clause-there c = subst (λ (xs : List Arm). AreThere (seen c.loop-way.cells.items) xs) (sym c.deref.ensures.value)
    (arms_there _ _ _ _ _ (arms_all _ _ _ _ _ _ c.loop-way.auto.way-index-end c.loop-way-test.false c.loop-way.invariant.0) c.requires.some (λ i d l. (c.requires.there i d l).0))

pub returns-clause-picks : goal.returns-clause-picks
returns-clause-picks c = picks_chosen _ _ _ _ _ _ _ c.requires.some (arms_all _ _ _ _ _ _ c.loop-way.auto.way-index-end c.loop-way-test.false c.loop-way.invariant.0)
    (subst (λ (xs : List Arm). Makes (seen c.loop-way.cells.items) (seen c.choose.new.cells.items) c.in_ok-c.c (λ packet v. chosen v xs)) c.deref.ensures.value c.in_ok-c.ensures.makes)

pub returns-clause-rises : goal.returns-clause-rises
returns-clause-rises c = choice_rises c.loop-way.auto.way-index-end c.loop-way-test.false c.loop-way.invariant.0 c.loop-way.invariant.1
    (subst (λ (xs : List Arm). Rises (seen c.loop-way.cells.items) (seen c.choose.new.cells.items) c.in_ok-c.c (λ row. greatest row (flat xs))) c.deref.ensures.value c.in_ok-c.ensures.rises)
