use Rattle.std.proofs.Common.{◌≡◌, ◌+◌, ◌*◌, map, length, true}
use Rattle.net_core.specs.View.{tree_of}
use Rattle.verilog_expression.specs.Expressions.{expr_at, parts_at}
use Rattle.verilog_expression.specs.View.{behind_parts, capped, lexemes_left}
use Rattle.verilog_expression.proofs.expr.+reader.Given as goal

abbrev pub decreases-expr : goal.decreases-expr
decreases-expr g l = 6 * l.depth

abbrev pub decreases-first : goal.decreases-first
decreases-first g l = 6 * l.depth + 5

abbrev pub decreases-behind_symbol : goal.decreases-behind_symbol
decreases-behind_symbol g l = 6 * l.depth + 3

abbrev pub decreases-named : goal.decreases-named
decreases-named g l = 6 * l.depth + 3

abbrev pub decreases-behind_words : goal.decreases-behind_words
decreases-behind_words g l = 6 * l.depth + 2

abbrev pub decreases-in_words : goal.decreases-in_words
decreases-in_words g l = 6 * l.depth + 1

abbrev pub decreases-unary_expression : goal.decreases-unary_expression
decreases-unary_expression g l = 6 * l.depth + 1

abbrev pub decreases-paren : goal.decreases-paren
decreases-paren g l = 6 * l.depth + 2

abbrev pub decreases-second : goal.decreases-second
decreases-second g l = 6 * l.depth + 1

abbrev pub decreases-concatenation : goal.decreases-concatenation
decreases-concatenation g l = 6 * l.depth + 2

abbrev pub decreases-parts : goal.decreases-parts
decreases-parts g l = 6 * l.depth + 1

abbrev pub invariant-parts-loop-left : goal.invariant-parts-loop-left
invariant-parts-loop-left g l =
    capped (parts_at (expr_at (g.N.Names.names l.names) l.depth true) (length (lexemes_left l.rest)) (lexemes_left l.rest))
    ≡ capped (behind_parts (map tree_of l.prefix.items) l.sum (parts_at (expr_at (g.N.Names.names l.names) l.depth true) l.left (lexemes_left l.after)))

abbrev pub decreases-parts-loop-left : goal.decreases-parts-loop-left
decreases-parts-loop-left g l = l.left
