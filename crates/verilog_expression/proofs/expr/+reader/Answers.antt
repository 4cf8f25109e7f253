use Rattle.std.proofs.Common.{◌-◌, List, ◌∙◌, ap, true, arith}
use Rattle.net_core.specs.declared.tree.Net.{Net}
use Rattle.net_core.specs.Nets.{Tree}
use Rattle.net_core.specs.View.{tree_of, trees_of}
use Rattle.verilog_expression.specs.Expressions.{expr_at, parts_at}
use Rattle.verilog_expression.specs.View.{as_sized, behind_parts, capped, lexemes_left}
use Rattle.verilog_expression.proofs.LoopStepLaws.{fails_on, gives_error, gives_fault, map_one_more, part_fails, last_part, next_part, no_step}
use Rattle.verilog_expression.proofs.expr.+reader.Goals as goal

pub parts-returns-in_err-part : goal.parts-returns-in_err-part
parts-returns-in_err-part g t c =
    gives_error _ c.from_residual.result _ c.in_err-part.field-0.0 _ c.from_residual.ensures (λ e' h. h)
    (fails_on _ _ _ (λ f k. c.loop-left.invariant ∙ part_fails _ _ _ _ _ f c.loop-left-test.true k) c.in_err-part.ensures)

pub parts-returns-in_default : goal.parts-returns-in_default
parts-returns-in_default g t c =
    c.loop-left.invariant
    ∙ last_part _ _ _ _ (as_sized c.in_ok-part.part c.in_ok-part.width) _ _ c.saturating_add-sum.result (trees_of c.in_ok-list.list) c.loop-left-test.true c.in_ok-part.ensures c.in_default.ensures (omega arith) c.in_ok-list.ensures

pub parts-loop-left-preserved : goal.parts-loop-left-preserved
parts-loop-left-preserved g t c =
    c.loop-left.invariant
    ∙ next_part _ _ _ _ _ (as_sized c.in_ok-part.part c.in_ok-part.width) _ _ c.saturating_add-sum.result c.loop-left-test.true c.in_ok-part.ensures c.in-Some.ensures (omega arith)
    ∙ ap (λ (l : List (Tree Net)). capped (behind_parts l c.saturating_add-sum.result (parts_at (expr_at (g.N.Names.names c.args.names.now) c.args.depth true) (c.loop-left.left - 1) (lexemes_left c.in-Some.next)))) (map_one_more tree_of _ _ _ c.in_ok-push.ensures.items)

pub parts-returns : goal.parts-returns
parts-returns g t c = gives_fault _ c.fault.result _ _ c.fault.ensures (c.loop-left.invariant ∙ no_step _ _ _ _ _ (omega arith))

pub named-returns-in-Value : goal.named-returns-in-Value
named-returns-in-Value g t c = rw c.in-Value.is (c.behind_value.ensures (expr_at (g.N.Names.names c.args.names.now) c.args.depth true))
