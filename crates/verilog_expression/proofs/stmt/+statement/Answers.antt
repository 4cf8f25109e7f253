use Rattle.std.proofs.Common.{◌-◌, List, Ok, sym, ◌∙◌, ap, arith}
use Rattle.net_core.specs.declared.tree.Net.{Net}
use Rattle.net_core.specs.Nets.{StatementTree, StatementTrees}
use Rattle.net_core.specs.View.{statement_of}
use Rattle.verilog_expression.specs.Reads.{Read}
use Rattle.verilog_expression.specs.Statements.{block_at, statement_at}
use Rattle.verilog_expression.specs.View.{behind_statements, lexemes_left}
use Rattle.verilog_expression.proofs.LoopStepLaws.{fails_on, gives_error, gives_fault, map_one_more, block_ends, statement_fails, next_statement, no_statement_step}
use Rattle.verilog_expression.proofs.stmt.+statement.Goals as goal

pub list-returns-in-Some : goal.list-returns-in-Some
list-returns-in-Some g t c =
    c.loop-left.invariant
    ∙ block_ends _ _ _ _ _ c.loop-left-test.true c.in-Some.ensures
    ∙ ap (λ (more : StatementTrees Net). let r : Read (StatementTrees Net) = Ok (more, lexemes_left c.in-Some.rest) in r) (sym c.in_ok-list.ensures)

pub list-returns-in_err-first : goal.list-returns-in_err-first
list-returns-in_err-first g t c =
    gives_error _ c.from_residual-in_err-first.result _ c.in_err-first.field-0.0 _ c.from_residual-in_err-first.ensures (λ e' h. h)
    (fails_on _ _ _ (λ f k. c.loop-left.invariant ∙ statement_fails _ _ _ _ f c.loop-left-test.true c.in_default.ensures k) c.in_err-first.ensures)

pub list-loop-left-preserved : goal.list-loop-left-preserved
list-loop-left-preserved g t c =
    c.loop-left.invariant
    ∙ next_statement _ _ _ _ _ _ c.loop-left-test.true c.in_default.ensures c.in_ok-first.ensures
    ∙ ap (λ (l : List (StatementTree Net)). behind_statements l (block_at (statement_at (g.N.Names.names c.args.names.now) (g.N.Names.free c.args.names.now) c.args.depth) (c.loop-left.left - 1) (lexemes_left c.in_ok-first.rest))) (map_one_more statement_of _ _ _ c.in_ok-push.ensures.items)

pub list-returns : goal.list-returns
list-returns g t c = gives_fault _ c.fault.result _ _ c.fault.ensures (c.loop-left.invariant ∙ no_statement_step _ _ _ _ (omega arith))
