use Rattle.std.proofs.Common.{map, refl}
use Rattle.std.specs.List.{list_all}
use Rattle.net_core.specs.View.{statement_of}
use Rattle.block_core.specs.View.{linked_statement}
use Rattle.block_core.specs.Range.{statement_in_range}
use Rattle.block_core.proofs.Loops.{pushed}
use Rattle.block_core.proofs.Ranges.{one_in_range, one_past, tells_past}
use Rattle.block_core.proofs.sections.all_statements.Goals as goal

pub loop-placed-preserved : goal.loop-placed-preserved
loop-placed-preserved g c =
    let made = linked_statement g.P.Part.place c.args.starts.now in
    record {
      linked = pushed statement_of made c.args.parts.now c.loop-placed.placed-index c.placed-item.result c.loop-placed.all.items _ _ _
          c.in_ok-push.ensures.items c.loop-placed-test.true c.placed-item.is c.in_ok-statement.ensures.linked c.loop-placed.invariant.linked;
      range = one_in_range (λ ms. list_all statement_in_range (map made ms)) (λ m. statement_in_range (made m)) (λ x xs. refl) c.args.parts.now c.loop-placed.placed-index _
          c.loop-placed.invariant.range c.placed-item.result c.loop-placed-test.true c.placed-item.is c.in_ok-statement.ensures.range;
    }

pub returns-in_err-statement-clause-range : goal.returns-in_err-statement-clause-range
returns-in_err-statement-clause-range g c =
    let made = linked_statement g.P.Part.place c.args.starts.now in
    tells_past c.from_residual.result _ _ c.from_residual.ensures.1
    (λ many. one_past (λ ms. list_all statement_in_range (map made ms)) (λ m. statement_in_range (made m)) (λ x xs. refl) c.args.parts.now c.loop-placed.placed-index _
    c.loop-placed.invariant.range c.placed-item.result c.loop-placed-test.true c.placed-item.is (c.in_err-statement.ensures.range many))
