use Rattle.std.proofs.Common.{◌≡◌, ◌+◌, ◌*◌, map, length}
use Rattle.net_core.specs.View.{statement_of}
use Rattle.verilog_expression.specs.Statements.{block_at, statement_at}
use Rattle.verilog_expression.specs.View.{behind_statements, lexemes_left}
use Rattle.verilog_expression.proofs.stmt.+statement.Given as goal

abbrev pub decreases-stmt : goal.decreases-stmt
decreases-stmt g l = 4 * l.depth

abbrev pub decreases-one_statement : goal.decreases-one_statement
decreases-one_statement g l = 4 * l.depth + 3

abbrev pub decreases-branch : goal.decreases-branch
decreases-branch g l = 4 * l.depth + 1

abbrev pub decreases-choice : goal.decreases-choice
decreases-choice g l = 4 * l.depth + 2

abbrev pub decreases-list : goal.decreases-list
decreases-list g l = 4 * l.depth + 1

abbrev pub decreases-begin : goal.decreases-begin
decreases-begin g l = 4 * l.depth + 2

abbrev pub invariant-list-loop-left : goal.invariant-list-loop-left
invariant-list-loop-left g l =
    block_at (statement_at (g.N.Names.names l.names) (g.N.Names.free l.names) l.depth) (length (lexemes_left l.rest)) (lexemes_left l.rest)
    ≡ behind_statements (map statement_of l.prefix.items) (block_at (statement_at (g.N.Names.names l.names) (g.N.Names.free l.names) l.depth) l.left (lexemes_left l.after))

abbrev pub decreases-list-loop-left : goal.decreases-list-loop-left
decreases-list-loop-left g l = l.left
