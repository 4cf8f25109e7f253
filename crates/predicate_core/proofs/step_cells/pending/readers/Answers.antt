use Rattle.std.proofs.Common.{ℕ, ◌==◌, Option, Some, ◌∙◌, sym, ap, arith}
use Rattle.std.specs.Option.{option_eq}
use Rattle.predicate_core.proofs.StepCells.Waiting.{one_more, none_more, all_read}
use Rattle.predicate_core.proofs.step_cells.pending.readers.Goals as goal
use Rattle.predicate_core.proofs.step_cells.pending.readers.Goals.{then-eq+in-Ok+in_ok-push, else-eq}

pub loop-i-preserved : goal.loop-i-preserved
loop-i-preserved c = elim c.if-eq.branch [
  | then-eq+in-Ok+in_ok-push w ↦ one_more c.args.cells.now c.args.number c.args.first c.loop-i.i w.in-Ok.cell c.index-cells-i.result _ _ c.loop-i-test.true (omega (arith, w.in-Ok.ensures)) (ap (λ (o : Option ℕ). option_eq (λ a b. a == b) o (Some c.args.number)) (sym c.site.ensures) ∙ sym c.eq.ensures ∙ w.if-eq.true) (ap (λ v. v.items) w.all-is ∙ w.in_ok-push.ensures.items) c.loop-i.invariant
  | else-eq w ↦ none_more c.args.cells.now c.args.number c.args.first c.loop-i.i c.index-cells-i.result _ _ c.loop-i-test.true (ap (λ (o : Option ℕ). option_eq (λ a b. a == b) o (Some c.args.number)) (sym c.site.ensures) ∙ sym c.eq.ensures ∙ w.if-eq.false) (ap (λ v. v.items) w.all-is) c.loop-i.invariant
]

pub returns : goal.returns
returns c = all_read c.args.cells.now c.args.number c.args.first c.loop-i.i _ c.loop-i-test.false c.loop-i.invariant
